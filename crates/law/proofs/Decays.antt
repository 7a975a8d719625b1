-- A decay in the law's range: (T - 1) × log is at least -48, by its half-life, or by its decay factor, for which document 02 asks -44. Assumes nothing.
use mathlib.Core.Path.{◌≡◌, sym, ap, ◌∙◌, subst}
use mathlib.Core.Logic.{inl, inr}
use Prim.Native.Nat.{ℕ, ◌-◌, ◌*◌, ◌≤◌, ◌<◌}
use native.Mathlib.Nat.{le_trans, le_of_eq, le_of_lt, lt_of_le_of_lt, mul-le-mul_right, mul_right_comm}
use native.Mathlib.Omega.{arith}
use mathlib.Core.Bool.{true, false, and-eq-true_iff}
use lib.Dec.{T, ltb, lit≤, lit<}
use lib.IntN.{ℤ, neg_ℤ}
use lib.Ieee.{Float, nan, binary64, fits, lt, le, neg, of_int}
use lib.Ieee.Bits.{is_true}
use lib.Ieee.Fits.{nan-fits, cond-fits, add-fits}
use borrow.Author.Tests.{le-ltb, ltb-false}
use Rattle.leaves.specs.Numbers.{◌⊗◌, count}
use Rattle.leaves.specs.Scaling.{binary_exponent, pow2_scaled}
use Rattle.leaves.specs.Log.{ln_of, max_scaled, ln_scaled, between01, ln}
use Rattle.leaves.proofs.Rounding.{near, near_most, near_least, representable_times}
use Rattle.leaves.proofs.Units.{U, U_pos, Top, Val, val_finite, mag, neg_val, rounded, rounded_val, rounded_cases, lt_val}
use Rattle.leaves.proofs.Keys.{finite_number}
use Rattle.leaves.proofs.Arithmetic.{mul_rounded}
use Rattle.leaves.proofs.Range.{count_val}
use Rattle.leaves.proofs.Whole.{le_or_lt}
use Rattle.rules.specs.Weighted.{log_decay, accepted, accepted_decay}
use Rattle.rules.specs.Order.{max_periods}
use Rattle.rules.specs.declared.Decay.{Decay}
use Rattle.rules.specs.declared.Decay.TheVariants.{HalfLife, Lambda}
use Rattle.law.specs.Law.{DecayInRange, max_aged_log}
use Rattle.law.proofs.Comparisons.{not_lt, le_not_lt}
use Rattle.law.proofs.Exponential.{W, age_most, U-W, W-pos, representable_W}
use Rattle.law.proofs.Weights.{Decaying, log_val}
use Rattle.law.proofs.HalfLives.{long_decaying}

-- ---- the log of a decay factor is an f64
of_fits : (m : Float) (e : ℤ) → T (fits binary64 (ln_of m e))
unfolding ln_of
of_fits m e = add-fits binary64 _ _

ln_fits : (f : Float) → T (fits binary64 (ln f))
unfolding ln ln_scaled
ln_fits f =
    let m = pow2_scaled f (neg_ℤ (binary_exponent f)) in
    cond-fits binary64 (between01 f) _ nan (cond-fits binary64 (lt max_scaled m) _ _ (of_fits _ _) (of_fits _ _)) (nan-fits binary64)

-- ---- (T - 1) × log ≥ -44
abbrev least : Float
least = neg (count max_aged_log)

least_val : Val least true (max_aged_log * U)
least_val = neg_val (count max_aged_log) false (max_aged_log * U) (count_val max_aged_log (lit≤ tt))

module _ (P : ℕ) (most : P ≤ max_periods) (l : Float) (fit : T (fits binary64 l)) (ok : accepted l ≡ true) where
  -- the product, in units and before it is rounded
  age : ℕ
  age = (P - 1) * U * mag l

  age_is : (P - 1) * mag l * U ≡ age
  unfolding age
  age_is = mul_right_comm (P - 1) (mag l) U

  product_is : count (P - 1) ⊗ l ≡ rounded true age U
  unfolding age
  product_is = mul_rounded (count (P - 1)) l false true ((P - 1) * U) (mag l) (count_val (P - 1) (le_trans (omega arith) (le_trans most (lit≤ tt)))) (log_val l fit ok).0

  product_val : near age U < Top → Val (count (P - 1) ⊗ l) true (near age U)
  product_val under = subst (λ (z : Float). Val z true (near age U)) (sym product_is) (rounded_val true age U U_pos under)

  below_least : near age U < Top → lt (count (P - 1) ⊗ l) least ≡ ltb (max_aged_log * U) (near age U)
  below_least under = lt_val (count (P - 1) ⊗ l) least true true (near age U) (max_aged_log * U) (product_val under) least_val

  rounded_age : le least (count (P - 1) ⊗ l) ≡ true → near age U ≤ max_aged_log * U
  unfolding le of_int neg
  rounded_age slow = elim (rounded_cases true age U U_pos) [
    | inl under ↦ ltb-false (max_aged_log * U) (near age U) (sym (below_least under) ∙ le_not_lt least (count (P - 1) ⊗ l) slow)
    | inr over ↦ absurd (subst T (sym slow ∙ ap (le least) (product_is ∙ over.1)) tt)
  ]

  aged : le least (count (P - 1) ⊗ l) ≡ true → (P - 1) * mag l ≤ age_most * W
  aged slow = elim (le_or_lt ((P - 1) * mag l) (age_most * W)) [
    | inl c ↦ c
    | inr c ↦
        let more = near_least age U (age_most * W) U_pos (representable_W age_most (lit< tt)) (le_trans (mul-le-mul_right U (le_of_lt c)) (le_of_eq age_is)) in
        absurd (omega (arith, more, rounded_age slow, U-W, W-pos))
  ]

  -- the law asks for the rounded product, which is at least -44 wherever the exact one is
  pub exact_suffices : (P - 1) * mag l ≤ max_aged_log * U → le least (count (P - 1) ⊗ l) ≡ true
  exact_suffices exact =
      let few = near_most age U (max_aged_log * U) U_pos (unfold U in representable_times max_aged_log 1074 (lit< tt)) (le_trans (le_of_eq (sym age_is)) (mul-le-mul_right U exact)) in
      let top : max_aged_log * U < Top = unfold U Top in lit< tt in
      let under = lt_of_le_of_lt few top in
      let y = count (P - 1) ⊗ l in
      let x-number = finite_number least (val_finite least true (max_aged_log * U) least_val) in
      let y-number = finite_number y (val_finite y true (near age U) (product_val under)) in
      not_lt least y x-number y-number (below_least under ∙ le-ltb (max_aged_log * U) (near age U) few)

-- ---- either
accepted_log : (d : Decay Float) → accepted_decay d ≡ true → accepted (log_decay d) ≡ true
unfolding accepted_decay
accepted_log (HalfLife h) e = e
accepted_log (Lambda f) e = ((and-eq-true_iff (between01 f) (accepted (log_decay (Lambda f)))).0 e).1

pub in_range_decaying : (P : ℕ) → 2 ≤ P → P ≤ max_periods → (d : Decay Float) → DecayInRange P d → accepted_decay d ≡ true → Decaying P (log_decay d)
in_range_decaying P two most (HalfLife h) long ok = long_decaying P two most h long (accepted_log (HalfLife h) ok)
in_range_decaying P two most (Lambda f) slow ok =
    let e = accepted_log (Lambda f) ok in
    let t : T (fits binary64 (log_decay (Lambda f))) = unfold log_decay in ln_fits f in
    record { fit = t; ok = e; aged = aged P most (log_decay (Lambda f)) t e (is_true (le least (count (P - 1) ⊗ log_decay (Lambda f))) (rw ok at slow)) }
