-- One number R scaled by 2 ^ j and by 2 ^ (j + k), where neither result is between 0 and 2 ^ -400 in size: the second is 2 ^ k times the first. If R's digits end above the smallest unit in the first
-- they do in the second; if not, both results are so small that they must be zero. R is finite, and so small that neither result overflows. Assumes nothing.
use mathlib.Core.Path.{◌≡◌, sym, ap, ◌∙◌, subst, subst₂}
use mathlib.Core.Logic.{inl, inr}
use Prim.Native.Nat.{ℕ, suc, ◌+◌, ◌-◌, ◌*◌, ◌^◌, ◌≤◌}
use native.Mathlib.Nat.{le_refl, le_trans, le_of_eq, le_of_lt, lt_of_lt_of_le, lt_of_le_of_lt, lt_irrefl, mul-le-mul_right, mul_assoc, mul_right_comm, mul-one, eq-zero-or-pos, le_of_mul-le-mul_right}
use native.Mathlib.Omega.{arith}
use mathlib.Core.Bool.{Bool, false}
use lib.Dec.{T, lit≤, lit<}
use lib.IntN.{ℤ, pos, ◌+ℤ◌}
use lib.Pow.{pow-add, pow_pos, pow_mono}
use lib.Ieee.{Float, binary64, fits, unlike}
use Rattle.leaves.specs.Numbers.{is_finite}
use Rattle.leaves.specs.Scaling.{pow2, pow2_scaled}
use Rattle.leaves.specs.Shift.{shift}
use Rattle.leaves.proofs.Whole.{le_or_lt, pos_part, neg_part, plus, one_side}
use Rattle.leaves.proofs.Laws.{unlike_false}
use Rattle.leaves.proofs.Scale.{scaled_once, scaled_fits}
use Rattle.leaves.proofs.Rounding.{near, near_most, representable_pow}
use Rattle.leaves.proofs.Units.{one_bits, top_bits, fraction_bits, U, U_pos, pow_under_Top, Val, sign, mag, val_mag, val_finite, val_unique, mag_val, rounded_val, U-is}
use Rattle.leaves.proofs.Arithmetic.{mul_rounded}
use Rattle.leaves.proofs.Range.{Range, range_size, range_weaken, range_finer, range_most}
use Rattle.leaves.proofs.PowersOfTwo.{fits_move, scaled_copy, shift_null, pow2_val}
use Rattle.law.specs.Law.{AtLeast, max_power, mean_range}
use Rattle.law.proofs.Sizes.{at_least}

-- a size that every number is below that loses a digit in either run: far below 2 ^ -400
abbrev tiny_bits : ℕ
tiny_bits = suc fraction_bits + max_power

-- how far j may lie from 0
abbrev farthest : ℕ
farthest = 1022 - max_power

module _ (R : Float) (fit : T (fits binary64 R)) (finite : T (is_finite R)) (h : ℕ) (most : mag R ≤ 2 ^ h) (j : ℤ) (k : ℕ) (small : k ≤ max_power) (low : neg_part j ≤ farthest) (high : pos_part j ≤ farthest) (room : h + pos_part (j +ℤ pos k) ≤ top_bits + neg_part (j +ℤ pos k)) where
  bounds : (pos_part (j +ℤ pos k) ≤ farthest + max_power) × (neg_part (j +ℤ pos k) ≤ farthest)
  unfolding pos_part neg_part
  bounds = (omega (arith, plus j (pos k), one_side (j +ℤ pos k)), omega (arith, plus j (pos k), one_side (j +ℤ pos k)))

  -- no digit is lost
  exact : 2 ^ suc fraction_bits * 2 ^ neg_part j ≤ mag R * 2 ^ pos_part j → pow2_scaled R (j +ℤ pos k) ≡ shift (pos k) (pow2_scaled R j)
  exact l = scaled_copy j (pos k) R fit (fits_move h R r j down up) (fits_move h R r (j +ℤ pos k) down' room)
    where
      r : Range (neg_part j) 1 (2 ^ h) R
      r = elim (eq-zero-or-pos (neg_part j)) [
        | inl z ↦ subst (λ (g : ℕ). Range g 1 (2 ^ h) R) (sym z) (range_most R fit finite most)
        | inr p ↦
            let o : pos_part j ≡ 0 = omega (arith, one_side j) in
            let w : 2 ^ (neg_part j + fraction_bits) ≤ mag R = le_trans (pow_mono {i = neg_part j + fraction_bits} {j = suc fraction_bits + neg_part j} (omega arith)) (le_trans (le_of_eq (pow-add 2 (suc fraction_bits) (neg_part j))) (le_trans l (le_of_eq (ap (λ (n : ℕ). mag R * 2 ^ n) o ∙ mul-one (mag R))))) in
            range_weaken 1 (2 ^ h) (pow_pos (neg_part j + fraction_bits)) (le_refl (2 ^ h)) (range_finer (neg_part j) (omega arith) (range_size (neg_part j + fraction_bits) (2 ^ h) R (omega arith) fit finite (inr w) most))
      ]

      down : neg_part j ≤ neg_part j + pos_part j
      down = omega arith

      up : h + pos_part j ≤ top_bits + neg_part j
      up = unfold pos_part neg_part in omega (arith, plus j (pos k))

      down' : neg_part (j +ℤ pos k) ≤ neg_part j + pos_part (j +ℤ pos k)
      down' = unfold pos_part neg_part in omega (arith, plus j (pos k))

  -- else both are zero
  value : (i : ℤ) → pos_part i ≤ farthest + max_power → neg_part i ≤ farthest → mag R * 2 ^ pos_part i ≤ 2 ^ tiny_bits * 2 ^ neg_part i → Val (pow2_scaled R i) (sign R) (near (mag R * 2 ^ (one_bits + pos_part i - neg_part i)) U) × (near (mag R * 2 ^ (one_bits + pos_part i - neg_part i)) U ≤ 2 ^ tiny_bits)
  value i a b l =
      let n = one_bits + pos_part i - neg_part i in
      let w = pow2_val i n (omega arith) in
      let m : near (mag R * 2 ^ n) U ≤ 2 ^ tiny_bits = near_most (mag R * 2 ^ n) U (2 ^ tiny_bits) U_pos (representable_pow tiny_bits) (le_of_mul-le-mul_right {k = 2 ^ neg_part i} (le_trans (le_of_eq (mul_assoc (mag R) (2 ^ n) (2 ^ neg_part i) ∙ ap (λ (z : ℕ). mag R * z) (sym (pow-add 2 n (neg_part i)) ∙ ap (λ (z : ℕ). 2 ^ z) (omega arith) ∙ pow-add 2 (pos_part i) one_bits) ∙ sym (mul_assoc (mag R) (2 ^ pos_part i) (2 ^ one_bits)))) (le_trans (mul-le-mul_right (2 ^ one_bits) l) (le_of_eq (mul_right_comm (2 ^ tiny_bits) (2 ^ neg_part i) (2 ^ one_bits) ∙ ap (λ (z : ℕ). 2 ^ tiny_bits * z * 2 ^ neg_part i) (sym U-is))))) (pow_pos (neg_part i))) in (
        subst₂ (λ (z : Float) (s : Bool). Val z s (near (mag R * 2 ^ n) U)) (sym (scaled_once R i (le_trans a (lit≤ tt)) (le_trans b (lit≤ tt)) ∙ mul_rounded R (pow2 i) (sign R) false (mag R) (2 ^ n) (mag_val R fit finite) w)) (unlike_false (sign R))
            (rounded_val (unlike (sign R) false) (mag R * 2 ^ n) U U_pos (lt_of_le_of_lt m (pow_under_Top tiny_bits (lit≤ tt)))),
        m,
      )

  null : (i : ℤ) → pos_part i ≤ farthest + max_power → neg_part i ≤ farthest → mag R * 2 ^ pos_part i ≤ 2 ^ tiny_bits * 2 ^ neg_part i → AtLeast mean_range (pow2_scaled R i) → Val (pow2_scaled R i) (sign R) 0
  null i a b l q =
      let v = value i a b l in
      let z = pow2_scaled R i in
      let c = near (mag R * 2 ^ (one_bits + pos_part i - neg_part i)) U in
      let w = val_mag z (sign R) c v.0 in
      elim (at_least mean_range (lit≤ tt) z (subst₂ (λ (s : Bool) (n : ℕ). Val z s n) (sym w.0) (sym w.1) v.0) q) [
        | inl e ↦ subst (Val z (sign R)) (sym w.1 ∙ e) v.0
        | inr e ↦ absurd (lt_irrefl (2 ^ tiny_bits) (lt_of_lt_of_le (lit< tt) (le_trans e (le_trans (le_of_eq w.1) v.1))))
      ]

  pub rescaled : AtLeast mean_range (pow2_scaled R j) → AtLeast mean_range (pow2_scaled R (j +ℤ pos k)) → pow2_scaled R (j +ℤ pos k) ≡ shift (pos k) (pow2_scaled R j)
  rescaled p q = elim (le_or_lt (2 ^ suc fraction_bits * 2 ^ neg_part j) (mag R * 2 ^ pos_part j)) [ inl l ↦ exact l | inr l ↦ zeros (le_of_lt l) ]
    where
      zeros : mag R * 2 ^ pos_part j ≤ 2 ^ suc fraction_bits * 2 ^ neg_part j → pow2_scaled R (j +ℤ pos k) ≡ shift (pos k) (pow2_scaled R j)
      zeros l =
          let o = bounds in
          let first : mag R * 2 ^ pos_part j ≤ 2 ^ tiny_bits * 2 ^ neg_part j = le_trans l (mul-le-mul_right (2 ^ neg_part j) (lit≤ tt)) in
          let e : pos_part (j +ℤ pos k) + neg_part j ≡ pos_part j + k + neg_part (j +ℤ pos k) = unfold pos_part neg_part in omega (arith, plus j (pos k)) in
          let second : mag R * 2 ^ pos_part (j +ℤ pos k) ≤ 2 ^ tiny_bits * 2 ^ neg_part (j +ℤ pos k) = le_of_mul-le-mul_right {k = 2 ^ neg_part j} (raise (mag R) (pos_part j) (neg_part j) (pos_part (j +ℤ pos k)) (neg_part (j +ℤ pos k)) k small e l) (pow_pos (neg_part j)) in
          let v = null j (le_trans high (lit≤ tt)) low first p in
          let v' = null (j +ℤ pos k) o.0 o.1 second q in
          let z = pow2_scaled R j in
          let s = shift_null (pos k) z (scaled_fits R j) (val_finite z (sign R) 0 v) (val_mag z (sign R) 0 v).1 in
          val_unique (pow2_scaled R (j +ℤ pos k)) z (sign R) 0 (scaled_fits R (j +ℤ pos k)) (scaled_fits R j) v' v ∙ sym s
        where
          raise : (r o u o' u' k : ℕ) → k ≤ max_power → o' + u ≡ o + k + u' → r * 2 ^ o ≤ 2 ^ suc fraction_bits * 2 ^ u → r * 2 ^ o' * 2 ^ u ≤ 2 ^ tiny_bits * 2 ^ u' * 2 ^ u
          raise r o u o' u' k few e l =
              le_trans (le_of_eq (mul_assoc r (2 ^ o') (2 ^ u) ∙ ap (λ (z : ℕ). r * z) (sym (pow-add 2 o' u) ∙ ap (λ (z : ℕ). 2 ^ z) e ∙ pow-add 2 (o + k) u' ∙ ap (λ (z : ℕ). z * 2 ^ u') (pow-add 2 o k)) ∙ sym (mul_assoc r (2 ^ o * 2 ^ k) (2 ^ u')) ∙ ap (λ (z : ℕ). z * 2 ^ u') (sym (mul_assoc r (2 ^ o) (2 ^ k)))))
              (le_trans (mul-le-mul_right (2 ^ u') (mul-le-mul_right (2 ^ k) l)) (le_trans (le_of_eq (turn (2 ^ suc fraction_bits) (2 ^ u) (2 ^ k) (2 ^ u'))) (mul-le-mul_right (2 ^ u) (mul-le-mul_right (2 ^ u') (le_trans (le_of_eq (sym (pow-add 2 (suc fraction_bits) k))) (pow_mono {i = suc fraction_bits + k} {j = tiny_bits} (omega arith)))))))
            where
              turn : (a b c d : ℕ) → a * b * c * d ≡ a * c * d * b
              turn a b c d = omega arith
