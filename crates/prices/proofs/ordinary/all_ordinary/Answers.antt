-- `prices::ordinary::all_ordinary` meets its contract: where all prices are ordinary, the search for another finds none.
use Rattle.std.proofs.Common.{◌≡◌, ℕ, ◌<◌, rules, Bool, true, false, not, List, length, refl, sym, ap, ◌∙◌, arith}
use Rattle.std.proofs.lemmas.Iterator.{cases_from_all, YieldsList-from_slice}
use Rattle.std.specs.Bool.{MatchBool}
use Rattle.std.specs.List.{AllWithin, HoldsAt}
use mathlib.Core.Bool.{true≢false}
use mathlib.Core.Option.{Option, none, some}
use borrow.Author.Tests.{tests}
use lib.Ieee.{Float, nan}
use Rattle.leaves.specs.Loops.{first_to, nth}
use Rattle.leaves.proofs.First.{first_all, none_first}
use Rattle.prices.specs.Ordinary.{ordinary, all_ordinary}
use Rattle.prices.proofs.ordinary.all_ordinary.Goals as goal

module _ (p : List Float) where
  abbrev other : ℕ → Bool
  other k = not (ordinary (nth p k))

  all_pass : AllWithin (λ x. ordinary x ≡ true) p 0 (length p) → true ≡ all_ordinary p
  unfolding all_ordinary
  all_pass h = rw (all_ordinary, none_first other (length p) (λ k l. ap not (h k nan (omega arith) l)))

  one_fails : (k : ℕ) → k < length p → ordinary (nth p k) ≡ false → false ≡ all_ordinary p
  unfolding all_ordinary
  one_fails k l h = go (first_to (length p) other) refl
    where
      go : (found : Option ℕ) → first_to (length p) other ≡ found → false ≡ elim found [ none ↦ true | some k ↦ false ]
      go none e = absurd (true≢false (sym (ap not h) ∙ first_all other (length p) e k l))
      go (some j) e = refl

  all_is : (r : Bool) → MatchBool r (AllWithin (λ x. ordinary x ≡ true) p 0 (length p)) ((k : ℕ) × (k < length p) × HoldsAt (λ x. ordinary x ≡ false) p k) → r ≡ all_ordinary p
  all_is true h = all_pass h
  all_is false h = one_fails h.0 h.1 (h.2 nan)

pub returns : goal.returns
returns c =
    let p = c.args.prices.now in
    all_is p _
    (cases_from_all _ _ _ (λ x. ordinary x ≡ true) (λ x. ordinary x ≡ false) c.all.ensures.ran (YieldsList-from_slice p cc) (λ x q k. search (rules, tests)) (λ x q k. search (rules, tests)))
