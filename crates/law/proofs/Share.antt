-- The Bayes-Stein intensity, (n + 2) / (n + 2 + d), is not below 0 and not above 1 for any d without a minus sign, an infinity and NaN included: n + 2 + d is not below n + 2. Assumes nothing.
use mathlib.Core.Path.{◌≡◌, refl, sym, ap, ◌∙◌, subst}
use Prim.Native.Nat.{ℕ, zero, ◌*◌, ◌^◌, ◌≤◌, ◌<◌}
use native.Mathlib.Nat.{le_trans, le_of_eq, lt_of_lt_of_le, lt_of_le_of_lt, mul_comm, mul-le-mul_right, mul-pos}
use mathlib.Core.Bool.{Bool, true, false, cond}
use lib.Dec.{T, lit≤, lit<}
use lib.IntN.{pos}
use lib.Ieee.{Float, nan, inf, fin, binary64, fits, lt, div}
use lib.Ieee.Fits.{add-fits, of_int-fits}
use borrow.Author.Tests.{le-ltb}
use Rattle.leaves.specs.Numbers.{◌⊕◌, ◌⊘◌, zero⁺, one, two, count, is_finite, max0}
use Rattle.leaves.proofs.Rounding.{near, near_most, representable_pow}
use Rattle.leaves.proofs.Units.{one_bits, U, U_pos, U-is, Val, sign, mag, val_mag, rounded_val, pow_under_Top, lt_val, one_val}
use Rattle.leaves.proofs.Arithmetic.{div_rounded}
use Rattle.leaves.proofs.Range.{Range, two_is, two_val}
use Rattle.leaves.proofs.Operations.{Moved, moved_add}
use Rattle.leaves.proofs.Bounds.{sum_of}
use Rattle.leaves.proofs.Signs.{sign_div, sign_add, sign_count, sign_not_below}
use Rattle.leaves.proofs.Zero.{no, not_above, over_inf}
use Rattle.matrix.specs.Limits.{max_side}
use Rattle.rules.specs.BayesStein.{intensity_at}
use Rattle.law.proofs.Bits.{side_bits, side_bits_lem}
use Rattle.law.proofs.Ranges.{count_bounds}
use Rattle.law.proofs.Comparisons.{plus_val}
use Rattle.law.proofs.Sample.{count_moved}
use Rattle.law.proofs.Sums.{plus_least}

-- x / (x + y), for a number x above 0 and any y without a minus sign
ratio_unit : {g L B : ℕ} (x y : Float) → Range g L B x → sign x ≡ false → 0 < mag x → T (fits binary64 y) → sign y ≡ false → lt one (x ⊘ (x ⊕ y)) ≡ false
ratio_unit x y r sx px ty sy = go (x ⊕ y) refl
  where
    zero_case : (s : Bool) → lt one (fin s zero (pos 0)) ≡ false
    zero_case true = unfold lt in refl
    zero_case false = unfold lt in refl

    over_nan : (x : Float) → T (is_finite x) → x ⊘ nan ≡ nan
    over_nan nan f = unfold is_finite in absurd f
    over_nan (inf s) f = unfold is_finite in absurd f
    over_nan (fin s k e) f = unfold div in refl

    go : (z : Float) → x ⊕ y ≡ z → lt one (x ⊘ (x ⊕ y)) ≡ false
    go nan e = let q : lt one nan ≡ false = unfold lt in refl in ap (λ (z : Float). lt one (x ⊘ z)) e ∙ ap (lt one) (over_nan x r.finite) ∙ q
    go (inf s) e = let q = over_inf x s r.finite in ap (λ (z : Float). lt one (x ⊘ z)) e ∙ ap (lt one) q.1 ∙ zero_case q.0
    go (fin s k d) e =
        let F : T (is_finite (x ⊕ y)) = subst (λ (z : Float). T (is_finite z)) (sym e) (unfold is_finite in tt) in
        let q = (plus_least x y r.fit ty sx sy F).0 in
        let p : 0 < mag (x ⊕ y) = lt_of_lt_of_le px q in
        let v = plus_val x r.fit r.finite sx in
        let w = plus_val (x ⊕ y) (add-fits binary64 x y) F (sign_add x y sx sy) in
        let n = mag x * U in
        let most : near n (mag (x ⊕ y)) ≤ 2 ^ one_bits = near_most n (mag (x ⊕ y)) (2 ^ one_bits) p (representable_pow one_bits) (le_trans (mul-le-mul_right U q) (le_of_eq (mul_comm (mag (x ⊕ y)) U ∙ ap (λ (u : ℕ). u * mag (x ⊕ y)) U-is))) in
        let z : Val (x ⊘ (x ⊕ y)) false (near n (mag (x ⊕ y))) = subst (λ (z : Float). Val z false (near n (mag (x ⊕ y)))) (sym (div_rounded x (x ⊕ y) false false (mag x) (mag (x ⊕ y)) v w p)) (rounded_val false n (mag (x ⊕ y)) p (lt_of_le_of_lt most (pow_under_Top one_bits (lit≤ tt)))) in
        lt_val one (x ⊘ (x ⊕ y)) false false (2 ^ one_bits) (near n (mag (x ⊕ y))) (unfold U in one_val) z ∙ le-ltb (2 ^ one_bits) (near n (mag (x ⊕ y))) most

pub max0_plus : (z : Float) → sign (max0 z) ≡ false
unfolding max0
max0_plus z = go (lt zero⁺ z) refl
  where
    plus_of : (z : Float) → lt zero⁺ z ≡ true → sign z ≡ false
    plus_of nan e = unfold lt in absurd (subst T (sym e) tt)
    plus_of (inf true) e = unfold lt in absurd (subst T (sym e) tt)
    plus_of (inf false) e = unfold sign in refl
    plus_of (fin true k d) e = no e (not_above k d)
    plus_of (fin false k d) e = unfold sign in refl

    go : (b : Bool) → lt zero⁺ z ≡ b → sign (cond b z zero⁺) ≡ false
    go true e = plus_of z e
    go false e = unfold sign in refl

-- ---- n + 2 over n + 2 + z
pub share_unit : (n : ℕ) (z : Float) → n ≤ max_side → T (fits binary64 z) → sign z ≡ false → (lt (intensity_at n z) zero⁺ ≡ false) × (lt one (intensity_at n z) ≡ false)
share_unit n z few t p = (sign_not_below (intensity_at n z) (sign_div X (X ⊕ z) (X-plus ∙ sym (sign_add X z X-plus p))), ratio_unit X z X-moved.range X-plus X-above t p)
  where
    X : Float
    X = count n ⊕ two

    X-plus : sign (count n ⊕ two) ≡ false
    X-plus = sign_add (count n) two (sign_count n) (unfold sign in refl)

    X-moved : Moved 0 (sum_of 1 (count_bounds side_bits)) (count n ⊕ two) (count n ⊕ two)
    X-moved = moved_add (count_bounds side_bits) tt tt (count_moved side_bits n (lit≤ tt) (side_bits_lem few)) (subst (λ (z : Float). Moved 0 (count_bounds 1) z z) two_is (count_moved 1 2 (lit≤ tt) (lit≤ tt))) (lit≤ tt)

    X-above : 0 < mag (count n ⊕ two)
    X-above = lt_of_lt_of_le (subst (λ (a : ℕ). 0 < a) (sym (val_mag two false (2 * U) two_val).1) (mul-pos (lit< {m = 0} {n = 2} tt) U_pos))
        (plus_least (count n) two (of_int-fits binary64 (pos n)) (unfold fits in tt) (sign_count n) (unfold sign in refl) X-moved.range.finite).1
