-- Quotients of values that are finite and above zero: they grow with the dividend and fall with the divisor (`quotient_mono`). And a finite value above zero, minus 1, is finite
-- (`minus_one_finite`). Assumes nothing.
use mathlib.Core.Path.{◌≡◌, refl, ap, subst}
use mathlib.Core.Logic.{inl, inr}
use Prim.Native.Nat.{ℕ, zero, suc, ◌*◌, ◌≤◌, ◌<◌}
use native.Mathlib.Nat.{lt_of_le_of_lt, mul-pos, mul-le-mul, mul-one, zero-lt-suc}
use native.Mathlib.Omega.{arith}
use mathlib.Core.Bool.{Bool, true, false, cond}
use lib.Dec.{T, eqb, eqb-suc-zero, lit≤}
use lib.Ieee.{Float, nan, inf, fin, binary64, up, down, round, div, sub, neg, le, fits}
use lib.Ieee.Order.{round_mono}
use lib.Ieee.Positive.{num, den, positive, den_pos, own_value, value_pos, le→cross}
use Rattle.leaves.specs.Numbers.{◌⊖◌, ◌⊘◌, one, is_finite}
use Rattle.leaves.proofs.Whole.{le_or_lt}
use Rattle.leaves.proofs.Units.{one_bits, U, Top, Val, sign, mag, U-is, one_val, neg_val, mag_val, mag_representable, val_finite, rounded_val, pow_under_Top}
use Rattle.leaves.proofs.Rounding.{near, Representable, near_most, representable_pow}
use Rattle.leaves.proofs.Arithmetic.{distance, add_rounded}

-- ---- the quotient
div_is : (x y : Float) → T (positive x) → T (positive y) → x ⊘ y ≡ round binary64 false (num x * den y) (num y * den x)
unfolding div
div_is nan y p q = absurd p
div_is (inf s) y p q = absurd p
div_is (fin true m e) y p q = absurd p
div_is (fin false m e) nan p q = absurd q
div_is (fin false m e) (inf t) p q = absurd q
div_is (fin false m e) (fin true n d) p q = absurd q
div_is (fin false m e) (fin false zero d) p q = absurd q
div_is (fin false m e) (fin false (suc n) d) p q = ap (λ (z : Bool). cond z (cond (eqb m 0) nan (inf false)) (round binary64 false (m * up e * down d) (suc n * up d * down e))) (eqb-suc-zero n)

below_pos : (x y : Float) → T (positive y) → 0 < num y * den x
below_pos x y q = mul-pos (value_pos y (num y) (den y) q (den_pos y) (own_value y q)) (den_pos x)

pub quotient_mono : (x x' y y' : Float) → T (positive x) → T (positive x') → T (positive y) → T (positive y') → T (le x x') → T (le y' y) → T (le (x ⊘ y) (x' ⊘ y'))
quotient_mono x x' y y' p p' q q' h k =
    rw (div_is x y p q, div_is x' y' p' q')
    (round_mono binary64 (num x * den y) (num y * den x) (num x' * den y') (num y' * den x') (below_pos x y q) (below_pos x' y' q')
    (crossed (num x) (den x) (num x') (den x') (num y) (den y) (num y') (den y') (le→cross x x' p p' h) (le→cross y' y q' q k)))
  where
    crossed : (a c a' c' b d b' d' : ℕ) → a * c' ≤ a' * c → b' * d ≤ b * d' → a * d * (b' * c') ≤ a' * d' * (b * c)
    crossed a c a' c' b d b' d' h k = let l = mul-le-mul h k in omega arith

-- ---- minus 1
pub positive_plus : (z : Float) → T (positive z) → (sign z ≡ false) × T (is_finite z)
unfolding sign is_finite
positive_plus nan p = absurd p
positive_plus (inf s) p = absurd p
positive_plus (fin true m e) p = absurd p
positive_plus (fin false m e) p = (refl, tt)

-- neither the value nor 1 is nearer to overflow than their distance
distance_under : (a : ℕ) → Representable a → a < Top → near (distance a U) 1 < Top
distance_under a r h = elim (le_or_lt U a) [
  | inl l ↦ lt_of_le_of_lt (near_most (distance a U) 1 a (zero-lt-suc 0) r (rw (mul-one a) (omega arith))) h
  | inr l ↦ lt_of_le_of_lt (near_most (distance a U) 1 U (zero-lt-suc 0) (rw U-is (representable_pow one_bits)) (rw (mul-one U) (omega arith))) (rw U-is (pow_under_Top one_bits (lit≤ tt)))
]

pub minus_one_finite : (z : Float) → T (fits binary64 z) → T (positive z) → T (is_finite (z ⊖ one))
unfolding sub
minus_one_finite z f p =
    let s = positive_plus z p in
    let v = subst (λ (t : Bool). Val z t (mag z)) s.0 (mag_val z f s.1) in
    let m = mag_representable z f s.1 in
    let r = add_rounded z (neg one) false true (mag z) U v (neg_val one false U one_val) in
    rw r (val_finite _ _ _ (rounded_val _ (distance (mag z) U) 1 (zero-lt-suc 0) (distance_under (mag z) m.0 m.1)))
