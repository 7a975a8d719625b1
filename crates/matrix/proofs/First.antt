-- Laws of `first_entry`, the first entry of a matrix at which a test holds. Assumes nothing.
use Rattle.std.proofs.Common.{◌≡◌, ℕ, ◌*◌, ◌/◌, ◌%◌, ◌≤◌, ◌<◌, Bool, true, false, List, length, sym, ap, subst, ◌∙◌, le_antisymm, arith}
use Rattle.std.specs.Prelude.{Option, Some, None, MatchOption}
use Rattle.std.specs.List.{AllWithin, HoldsAt}
use mathlib.Core.Option.{none, some}
use lib.Ieee.{Float, nan}
use Rattle.leaves.specs.Loops.{first_to, nth}
use Rattle.leaves.proofs.First.{none_first}
use Rattle.leaves.proofs.Search.{first_at}
use Rattle.matrix.specs.Matrix.{first_entry}

-- a search through a matrix, at cell k: the answer, if the test holds there, and at the end
module _ (test : ℕ → ℕ → Bool) (m n k : ℕ) where
  pub entry_at_cell : first_to k (λ j. test (j / n) (j % n)) ≡ none → test (k / n) (k % n) ≡ true → k < m * n → some (k / n, k % n) ≡ first_entry m n test
  unfolding first_entry
  entry_at_cell e t h = rw (first_entry, first_at (λ j. test (j / n) (j % n)) k (m * n) e t h)

  pub entry_nowhere : first_to k (λ j. test (j / n) (j % n)) ≡ none → k ≤ m * n → m * n ≤ k → none ≡ first_entry m n test
  unfolding first_entry
  entry_nowhere e h l = rw (first_entry, sym (ap (λ (j : ℕ). first_to j (λ j. test (j / n) (j % n))) (le_antisymm h l)) ∙ e)

-- std's `position` on the stored numbers, where the test of an entry is a test of its number
module _ (test : Float → Bool) (a : List Float) (entries : ℕ → ℕ → Bool) (m n : ℕ) (same : (k : ℕ) → entries (k / n) (k % n) ≡ test (nth a k)) (size : length a ≡ m * n) where
  abbrev Searched : Option ℕ → Type 0
  Searched r = MatchOption r (AllWithin (λ x. test x ≡ false) a 0 (length a)) (λ i. (i < length a) × HoldsAt (λ x. test x ≡ true) a i × AllWithin (λ x. test x ≡ false) a 0 i)

  none_before : (k : ℕ) → AllWithin (λ x. test x ≡ false) a 0 k → first_to k (λ j. entries (j / n) (j % n)) ≡ none
  none_before k h = none_first (λ j. entries (j / n) (j % n)) k (λ j l. same j ∙ h j nan (omega arith) l)

  pub at_position : {r : Option ℕ} {k : ℕ} → r ≡ Some k → Searched r → some (k / n, k % n) ≡ first_entry m n entries
  at_position {k = k} e h =
      let s = subst Searched e h in
      entry_at_cell entries m n k (none_before k s.2) (same k ∙ s.1 nan) (omega (arith, size, s.0))

  pub at_no_position : {r : Option ℕ} → r ≡ None → Searched r → none ≡ first_entry m n entries
  at_no_position e h = entry_nowhere entries m n (length a) (none_before (length a) (subst Searched e h)) (omega (arith, size)) (omega (arith, size))
