-- A number s of 56 digits, rounded to 53: the nearest multiple of 8, a tie to the even one. It is q * 8 for q = `eighth s` (`round_56`, `round_value`), and it is
-- written with an exponent that leaves room to move it (`rounded`). Assumes nothing.
use Rattle.std.proofs.Common.{◌≡◌, ℕ, zero, suc, ◌+◌, ◌-◌, ◌*◌, ◌/◌, ◌^◌, ◌<◌, ◌≤◌, true, false, T, ℤ, sym, refl, ap, ◌∙◌, le_refl, lt_of_le_of_lt, mul-le-mul_right, mul_assoc, mul-pos, mul-one, div-one, arith, lit<, pow-add, shl_lt}
use lib.Pow.{pow-lt}
use lib.Ieee.{Float, nan, inf, fin, binary64, fits, round, size, down, units}
use lib.Ieee.Nearest.{closest, closest_same}
use lib.Ieee.Fits.{core, round_is, round-fits, down_pos}
use lib.Ieee.Exact.{HasValue, units_val}
use lib.Ieee.Digits.{size-le, size-lt}
use Rattle.leaves.proofs.Whole.{pos_part, neg_part, up_is, down_is}
use Rattle.leaves.proofs.Laws.{fits→room, Room, pow_back, value_same, digits_in, digits_out}
use Rattle.leaves.proofs.Zero.{no}
use Rattle.leaves.proofs.Rounding.{closest_error}

abbrev pub eighth : ℕ → ℕ
eighth s = closest s 8

pub eighth_error : (s : ℕ) → (eighth s * 8 ≤ s + 4) × (s ≤ eighth s * 8 + 4)
eighth_error s = let e = closest_error s 8 (lit< tt) in omega arith

-- a number of 56 digits keeps 53 of them
pub round_56 : (s : ℕ) → 2 ^ 55 ≤ s → s < 2 ^ 56 → round binary64 false s 1 ≡ units binary64 false (eighth s) 1077
round_56 s lo hi =
    let n = s * 2 ^ 1074 in
    let d : n / 1 ≡ n = div-one n in
    let a : size n ≤ 1130 = size-le n 1130 (shl_lt 56 1074 hi) in
    let b : 1129 < size n = pow_back 1129 (size n) (lt_of_le_of_lt (mul-le-mul_right (2 ^ 1074) lo) (size-lt n)) in
    let z : size n - 53 ≡ 1077 = omega arith in
    round_is binary64 false s 1 ∙ ap (λ (x : ℕ). core binary64 false n 1 (size x - 53)) d ∙ ap (core binary64 false n 1) z
    ∙ ap (λ (q : ℕ). units binary64 false q 1077) (closest_same n (1 * 2 ^ 1077) s 8 (lit< tt) (lit< tt) (mul_assoc s (2 ^ 1074) 8))

units_value : (q : ℕ) → q ≤ 2 ^ 53 → HasValue (units binary64 false q 1077) false (q * 8) 1
units_value q h = value_same (units binary64 false q 1077) false (q * 2 ^ 1077) (2 ^ 1074) (q * 8) 1 (lit< tt)
    (units_val binary64 false q 1077 (lt_of_le_of_lt (mul-le-mul_right (2 ^ 1077) h) (lit< tt))) (mul-one (q * 2 ^ 1077) ∙ sym (mul_assoc q 8 (2 ^ 1074)))

pub round_value : (s : ℕ) → 2 ^ 55 ≤ s → s < 2 ^ 56 → HasValue (round binary64 false s 1) false (eighth s * 8) 1
round_value s lo hi = let e = eighth_error s in rw (round_56 s lo hi) (units_value (eighth s) (omega arith))

-- ---- the result, from 2 ^ 55 to 2 ^ 56, as it is written
pub record Rounded (x : Float) : Type 0 where
  pub m : ℕ
  pub e : ℤ
  pub is : x ≡ fin false (suc m) e
  pub room : Room (suc m) e
  pub low : 55 + neg_part e < size (suc m) + pos_part e
  pub high : size (suc m) + pos_part e ≤ 57 + neg_part e

to_rounded : (x : Float) (v : ℕ) → T (fits binary64 x) → HasValue x false v 1 → 2 ^ 55 ≤ v → v ≤ 2 ^ 56 → Rounded x
to_rounded nan v t h a b = absurd h
to_rounded (inf s) v t h a b = absurd h
to_rounded (fin true m e) v t h a b = no refl h.0
to_rounded (fin false zero e) v t h a b = absurd (let l : 0 < v * down e = mul-pos (omega arith) (down_pos e) in omega arith)
to_rounded (fin false (suc m) e) v t h a b =
    let l = mul-le-mul_right (down e) a in
    let u = mul-le-mul_right (down e) b in
    let lo : 2 ^ (55 + neg_part e) ≤ suc m * 2 ^ pos_part e = rw (pow-add 2 55 (neg_part e), ← down_is, ← up_is) (omega arith) in
    let hi : suc m * 2 ^ pos_part e ≤ 2 ^ (56 + neg_part e) = rw (pow-add 2 56 (neg_part e), ← down_is, ← up_is) (omega arith) in
    record {
      m = m;
      e = e;
      is = refl;
      room = fits→room false m e t;
      low = pow_back (55 + neg_part e) (size (suc m) + pos_part e) (lt_of_le_of_lt lo (digits_out (suc m) (pos_part e) (size (suc m) + pos_part e) (le_refl (size (suc m) + pos_part e))));
      high = digits_in m (pos_part e) (57 + neg_part e) (lt_of_le_of_lt hi (pow-lt {i = 56 + neg_part e} {j = 57 + neg_part e} (omega arith)));
    }

pub rounded : (s : ℕ) → 2 ^ 55 ≤ s → s < 2 ^ 56 → Rounded (round binary64 false s 1)
rounded s lo hi =
    let e = eighth_error s in
    to_rounded (round binary64 false s 1) (eighth s * 8) (round-fits binary64 false s 1) (round_value s lo hi) (omega arith) (omega arith)
