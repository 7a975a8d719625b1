-- A matrix whose entries are finite, within m rows and n columns: what the test for one says of each entry, and that its largest size is finite and no entry is larger. Assumes nothing.
use mathlib.Core.Path.{◌≡◌, refl, sym, ◌∙◌, subst}
use mathlib.Core.Bool.{Bool, true, false, not, true≢false}
use mathlib.Core.Option.{Option, none, some}
use Prim.Native.Nat.{ℕ, ◌+◌, ◌*◌, ◌/◌, ◌%◌, ◌≤◌, ◌<◌}
use lib.Arith.{digits_lt}
use lib.Ieee.{Float}
use borrow.Author.Tests.{not-false}
use Rattle.leaves.specs.Numbers.{is_finite, abs}
use Rattle.leaves.specs.Loops.{first_to}
use Rattle.leaves.proofs.Cells.{at_cell}
use Rattle.leaves.proofs.First.{first_all}
use Rattle.leaves.proofs.Units.{Finite, Top, mag}
use Rattle.leaves.proofs.Range.{Range, range_abs, range_zero, range_fits}
use Rattle.leaves.proofs.Totals.{amax_one, amax_finite_most}
use Rattle.matrix.specs.Matrix.{Matrix, amax, first_entry, all_finite}
use Rattle.matrix.proofs.Stored.{by_cell}

pub finite_all : (m n : ℕ) (a : Matrix) → all_finite m n a ≡ true → (i j : ℕ) → i < m → j < n → is_finite (a i j) ≡ true
unfolding all_finite first_entry
finite_all m n a h i j hi hj =
    not-false (is_finite (a i j))
    (sym (at_cell bad i n j hj) ∙ first_all (λ k. bad (k / n) (k % n)) (m * n) (none_there (first_to (m * n) (λ k. bad (k / n) (k % n))) h) (i * n + j) (digits_lt hi hj))
  where
    bad : ℕ → ℕ → Bool
    bad i j = not (is_finite (a i j))

    none_there : (o : Option ℕ) → elim (elim o as (λ z. Option (ℕ × ℕ)) [ none ↦ none | some k ↦ some (k / n, k % n) ]) as (λ z. Bool) [ none ↦ true | some k ↦ false ] ≡ true → o ≡ none
    none_there none e = refl
    none_there (some k) e = absurd (true≢false (sym e))

module _ (m n : ℕ) (a : Matrix) (each : (i j : ℕ) → i < m → j < n → Finite (a i j)) where
  pub amax_finite : Finite (amax m n a)
  unfolding amax
  amax_finite = let r = amax_one (Range 0 1 Top) (m * n) (λ k. a (k / n) (k % n)) (range_zero 0 1 Top) (by_cell m n (λ i j. Range 0 1 Top (abs (a i j))) (λ i j hi hj. let c = each i j hi hj in range_abs (range_fits (a i j) c.0 c.1))) in (r.fit, r.finite)

  pub amax_entry : (i j : ℕ) → i < m → j < n → mag (a i j) ≤ mag (amax m n a)
  unfolding amax
  amax_entry i j hi hj = subst (λ (x : Float). mag x ≤ mag (amax m n a)) (at_cell a i n j hj) (amax_finite_most (λ k. a (k / n) (k % n)) (m * n) (by_cell m n (λ i j. Finite (a i j)) each) (i * n + j) (digits_lt hi hj))
