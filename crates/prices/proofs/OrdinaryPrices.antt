-- Ordinary prices are finite and above zero, and so are their quotients, which lie between those of the ends of their range; so their returns are finite. Where all prices are ordinary, none
-- of the three checks of the prices refuses (`ordinary_passes`). Assumes nothing.
use mathlib.Core.Path.{◌≡◌, refl, ap, ap₂, ◌∙◌}
use Prim.Native.Nat.{ℕ, zero, suc, ◌+◌, ◌-◌, ◌*◌, ◌/◌, ◌%◌, ◌<◌}
use native.Mathlib.Nat.{le_refl}
use native.Mathlib.Omega.{arith}
use mathlib.Core.Bool.{Bool, true, false, not, ◌||◌}
use mathlib.Core.List.{List, [], ◌∷◌}
use mathlib.Core.Option.{Option, none, some}
use lib.Dec.{T}
use lib.ListN.{length}
use lib.Ieee.{Float, nan, inf, fin, binary64, le, of_bits, div, round, size}
use lib.Ieee.Fits.{and_l, and_r, div-fits}
use lib.Ieee.Positive.{positive, between}
use Rattle.leaves.specs.Numbers.{◌⊖◌, ◌⊘◌, zero⁺, one, 1e150, is_finite}
use Rattle.leaves.specs.Loops.{first_to, nth}
use Rattle.leaves.proofs.Zero.{no, not_below, other_is_not}
use Rattle.leaves.proofs.First.{first_all, none_first}
use Rattle.matrix.specs.Matrix.{at, first_entry}
use Rattle.matrix.proofs.Stored.{entry_at}
use Rattle.rules.specs.Refusals.{passes, when_some, first}
use Rattle.rules.specs.Order.{not_finite}
use Rattle.rules.specs.Prices.{simple_returns, non_positive, by_prices}
use Rattle.rules.specs.declared.Refusal.{Refusal}
use Rattle.rules.specs.declared.Refusal.TheVariants.{NotFinite, NonPositivePrice}
use Rattle.prices.specs.Stored.{return_at}
use Rattle.prices.specs.Ordinary.{1e-150, ordinary, all_ordinary}
use Rattle.prices.proofs.Searches.{refused_nowhere}
use Rattle.prices.proofs.Quotients.{quotient_mono, positive_plus, minus_one_finite}
use Rattle.prices.proofs.Stored.{return_entry, but_one_row}

-- ---- the ends of the range, and their quotients, by computation
low_positive : T (positive 1e-150)
unfolding of_bits
low_positive = tt

high_positive : T (positive 1e150)
unfolding of_bits
high_positive = tt

least_positive : T (positive (1e-150 ⊘ 1e150))
unfolding of_bits div round size
least_positive = tt

most_positive : T (positive (1e150 ⊘ 1e-150))
unfolding of_bits div round size
most_positive = tt

-- ---- one price, and two
Ordinary : Float → Type 0
Ordinary x = T (le 1e-150 x) × T (le x 1e150)

ordinary_positive : (x : Float) → Ordinary x → T (positive x)
unfolding Ordinary
ordinary_positive x o = between 1e-150 x 1e150 low_positive high_positive o.0 o.1

quotient_positive : (x y : Float) → Ordinary x → Ordinary y → T (positive (x ⊘ y))
unfolding Ordinary
quotient_positive x y o u =
    let p = ordinary_positive x o in
    let q = ordinary_positive y u in
    between (1e-150 ⊘ 1e150) (x ⊘ y) (1e150 ⊘ 1e-150) least_positive most_positive
    (quotient_mono 1e-150 x 1e150 y low_positive p high_positive q o.0 u.1) (quotient_mono x 1e150 y 1e-150 p high_positive q low_positive o.1 u.0)

-- what the checks look at
finite_yes : (x : Float) → T (is_finite x) → not (is_finite x) ≡ false
finite_yes x t = go (is_finite x) t
  where
    go : (b : Bool) → T b → not b ≡ false
    go true t = refl
    go false t = absurd t

above_zero : (x : Float) → T (positive x) → le x zero⁺ ≡ false
unfolding le
above_zero nan p = absurd p
above_zero (inf s) p = absurd p
above_zero (fin true m e) p = absurd p
above_zero (fin false zero e) p = absurd p
above_zero (fin false (suc m) e) p = ap₂ ◌||◌ (not_below (suc m) e) (other_is_not false m e)

return_finite : (x y : Float) → Ordinary x → Ordinary y → T (is_finite (x ⊘ y ⊖ one))
return_finite x y o u = minus_one_finite (x ⊘ y) (div-fits binary64 x y) (quotient_positive x y o u)

-- ---- all prices
module _ (p : List Float) (R n : ℕ) (any : 0 < R) (long : length p ≡ R * n) (all : all_ordinary p ≡ true) where
  each : (k : ℕ) → k < length p → Ordinary (nth p k)
  unfolding all_ordinary ordinary Ordinary
  each k h =
      let t = split (ordinary (nth p k)) (first_all (λ k. not (ordinary (nth p k))) (length p) (go (first_to (length p) (λ k. not (ordinary (nth p k)))) all) k h) in
      (and_l (le 1e-150 (nth p k)) (le (nth p k) 1e150) t, and_r (le 1e-150 (nth p k)) (le (nth p k) 1e150) t)
    where
      go : (found : Option ℕ) → elim found [ none ↦ true | some k ↦ false ] ≡ true → found ≡ none
      go none e = refl
      go (some k) e = no e refl

      split : (b : Bool) → not b ≡ false → T b
      split true e = tt
      split false e = no refl e

  -- a check that holds nowhere refuses nothing
  none_refused : (test : ℕ → ℕ → Bool) (m : ℕ) (refusal : ℕ → ℕ → Refusal) → ((k : ℕ) → k < m * n → test (k / n) (k % n) ≡ false) → passes ≡ when_some (first_entry m n test) (λ q. refusal q.0 q.1)
  none_refused test m refusal clear = refused_nowhere test m n (m * n) refusal (none_first (λ k. test (k / n) (k % n)) (m * n) clear) (le_refl (m * n)) (le_refl (m * n))

  positive_at : (k : ℕ) → k < R * n → T (positive (nth p k))
  positive_at k h = ordinary_positive (nth p k) (each k (omega arith))

  finite_at : (k : ℕ) → k < (R - 1) * n → T (is_finite (return_at p n k))
  unfolding return_at
  finite_at k h = let f = but_one_row R n any in return_finite (nth p (k + n)) (nth p k) (each (k + n) (omega arith)) (each k (omega arith))

  prices_finite : passes ≡ not_finite R n (at p n)
  unfolding not_finite
  prices_finite = none_refused (λ t i. not (is_finite (at p n t i))) R NotFinite
      (λ k h. ap (λ (x : Float). not (is_finite x)) (entry_at p n k) ∙ finite_yes (nth p k) (positive_plus (nth p k) (positive_at k h)).1)

  prices_positive : passes ≡ non_positive R n (at p n)
  unfolding non_positive
  prices_positive = none_refused (λ t i. le (at p n t i) zero⁺) R NonPositivePrice (λ k h. ap (λ (x : Float). le x zero⁺) (entry_at p n k) ∙ above_zero (nth p k) (positive_at k h))

  returns_finite : passes ≡ not_finite (R - 1) n (simple_returns (at p n))
  unfolding not_finite
  returns_finite = none_refused (λ t i. not (is_finite (simple_returns (at p n) t i))) (R - 1) NotFinite
      (λ k h. ap (λ (x : Float). not (is_finite x)) (return_entry p n k) ∙ finite_yes (return_at p n k) (finite_at k h))

  pub ordinary_passes : passes ≡ first (by_prices R n (at p n))
  unfolding first
  ordinary_passes = λ t. first (prices_finite t ∷ prices_positive t ∷ returns_finite t ∷ [])
