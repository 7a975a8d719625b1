-- std's square root, which the machine has, is the definition's (`std_sqrt`): both round the root of x once. In units of 2 ^ -1074 the definition gives q * 2 ^ p,
-- where q is nearest to the exact root in units of 2 ^ p, and is no tie (SqrtNearest). std's takes the root of x to 2271 places after the point, and half a place more says that it
-- goes on; with T = 2 ^ (p + 1195) that number R is within 4 T of 8 q T, which is all that its rounding asks. Assumes nothing.
use Rattle.std.proofs.Common.{◌≡◌, ℕ, zero, suc, ◌+◌, ◌-◌, ◌*◌, ◌/◌, ◌^◌, ◌<◌, ◌≤◌, Bool, true, false, cond, T, eqb, pos, sym, refl, ap, ◌∙◌, subst, le_of_lt, lt_of_le_of_lt, lt_of_lt_of_le, le_of_eq, mul-le-mul_right, mul_assoc, mul-pos, mul-lt-mul_of_pos_right, lt_of_mul-lt-mul_right, le-div_iff_mul-le, div-lt_iff_lt-mul, arith, lit<, pow_pos, pow-add, eqb-true, inl, inr, eq-or-lt_of_le, ap₂, ℤ}
use native.Mathlib.Nat.{mul-div_cancel}
use lib.Ieee.{Float, nan, inf, fin, binary64, fits, size, up, down, round, root_twice, root_below}
use lib.Ieee as Ieee
use lib.Ieee.Digits.{size-le, size-lt}
use lib.Ieee.Exact.{HasValue}
use lib.Ieee.Fits.{down_pos, round-fits}
use lib.Ieee.Nearest.{closest}
use lib.Pow.{pow-lt}
use lib.Ieee.Order.{drop, kept}
use lib.Ieee.Root.{whole_part}
use lib.Ieee.Scale.{grid, overflow, round_val}
use Rattle.leaves.specs.Root.{half_exponent, sqrt}
use Rattle.leaves.proofs.Whole.{pos_part, neg_part, minus, up_is, down_is}
use Rattle.leaves.proofs.Laws.{pow_back, zero_exp}
use Rattle.leaves.proofs.Rounding.{closest_error}
use Rattle.leaves.proofs.Roots.{IntegerRoot, root_under, root_over}
use Rattle.leaves.proofs.Sqrts.{halved, g, radicand_is, radicand_in, sqrt_fits}
use Rattle.leaves.proofs.SqrtLaws.{sqrt_near}
use Rattle.leaves.proofs.SqrtNearest.{room, n, q, p, exponents, root_val, low_side, high_side}
use Rattle.leaves.proofs.Units.{U, val_unique}

-- ---- the root of N * T * T, twice, and 1 more where it goes on
record Near (q T R : ℕ) : Type 0 where
  above : 8 * (q * T) < R + 4 * T
  below : R < 8 * (q * T) + 4 * T
  least : 2 ^ 55 * T ≤ R
  most : R < 2 ^ 56 * T

module _ (N q T W r : ℕ) (is : W ≡ N * (T * T)) (root : IntegerRoot W r) (some : 0 < q) (pos : 0 < T) (lo : 4 * ((2 * q - 1) * (2 * q - 1)) < N) (hi : N < 4 * ((2 * q + 1) * (2 * q + 1)))
    (large : 2 ^ 54 * 2 ^ 54 ≤ N) (small : N < 2 ^ 55 * 2 ^ 55) where
  squares : 0 < T * T
  squares = mul-pos pos pos

  under : 2 * ((2 * q - 1) * T) * (2 * ((2 * q - 1) * T)) < W
  under = let h = mul-lt-mul_of_pos_right lo squares in let a = 2 * q - 1 in rw is (omega (arith, regroup a T))
    where
      regroup : (a T : ℕ) → 2 * (a * T) * (2 * (a * T)) ≡ 4 * (a * a) * (T * T)
      regroup a T = omega arith

  over : W < 2 * ((2 * q + 1) * T) * (2 * ((2 * q + 1) * T))
  over = let h = mul-lt-mul_of_pos_right hi squares in rw is (omega arith)

  low : 2 ^ 54 * T ≤ r
  low = root_over W r (2 ^ 54 * T) root (let h = mul-le-mul_right (T * T) large in rw is (omega arith))

  high : r < 2 ^ 55 * T
  high = root_under W r (2 ^ 55 * T) root (let h = mul-lt-mul_of_pos_right small squares in rw is (omega arith))

  near : (t : Bool) → eqb (r * r) W ≡ t → Near q T (2 * r + cond t 0 1)
  near t e =
      let a = 2 * q - 1 in
      let l : 2 * (a * T) ≤ r = root_over W r (2 * (a * T)) root (le_of_lt under) in
      let u : r < 2 * ((2 * q + 1) * T) = root_under W r (2 * ((2 * q + 1) * T)) root over in
      let x : a * T + T ≡ 2 * (q * T) = twice q T some in
      go t e a x l u under
    where
      twice : (q T : ℕ) → 0 < q → (2 * q - 1) * T + T ≡ 2 * (q * T)
      twice (suc q) T h = let e : 2 * suc q - 1 ≡ 2 * q + 1 = omega arith in rw e (omega arith)
      twice zero T h = absurd (omega arith)

      go : (t : Bool) → eqb (r * r) W ≡ t → (a : ℕ) → a * T + T ≡ 2 * (q * T) → 2 * (a * T) ≤ r → r < 2 * ((2 * q + 1) * T) → 2 * (a * T) * (2 * (a * T)) < W → Near q T (2 * r + cond t 0 1)
      go true e a x l u k =
          elim (eq-or-lt_of_le l) [
            | inl z ↦ absurd (let f : 2 * (a * T) * (2 * (a * T)) ≡ W = ap (λ (z : ℕ). z * z) z ∙ eqb-true (r * r) W e in omega arith)
            | inr z ↦ record { above = omega arith; below = omega arith; least = omega (arith, low); most = omega (arith, high) }
          ]
      go false e a x l u k = record { above = omega arith; below = omega arith; least = omega (arith, low); most = omega (arith, high) }

-- ---- what is rounded: n / c, of which 53 digits are kept
record Kept (m c q p : ℕ) : Type 0 where
  dropped : drop 53 m c ≡ p
  is : kept 53 m c ≡ q

kept_is : (m c q p : ℕ) → 0 < c → 2 ^ (52 + p) * c ≤ m → m < 2 ^ (53 + p) * c → 2 * (q * (c * 2 ^ p)) < 2 * m + c * 2 ^ p → 2 * m < 2 * (q * (c * 2 ^ p)) + c * 2 ^ p → Kept m c q p
kept_is m c q p C a b lo hi =
    let f : 52 + p < size (m / c) = pow_back (52 + p) (size (m / c)) (lt_of_le_of_lt ((le-div_iff_mul-le C).1 a) (size-lt (m / c))) in
    let g : size (m / c) ≤ 53 + p = size-le (m / c) (53 + p) ((div-lt_iff_lt-mul C).1 b) in
    let d : drop 53 m c ≡ p = omega arith in
    record { dropped = d; is = ap (λ (k : ℕ). closest m (c * 2 ^ k)) d ∙ only (c * 2 ^ p) (closest m (c * 2 ^ p)) (mul-pos C (pow_pos p)) (closest_error m (c * 2 ^ p) (mul-pos C (pow_pos p))) lo hi }
  where
    only : (u r : ℕ) → 0 < u → (2 * (r * u) ≤ 2 * m + u) × (2 * m ≤ 2 * (r * u) + u) → 2 * (q * u) < 2 * m + u → 2 * m < 2 * (q * u) + u → r ≡ q
    only u r U e lo hi =
        let f : r < q + 1 = lt_of_mul-lt-mul_right u (omega arith) in
        let g : q < r + 1 = lt_of_mul-lt-mul_right u (omega arith) in
        omega arith

placed : (q p T L R c : ℕ) → Near q T R → 0 < L → 0 < c → c * 2 ^ p ≡ 8 * (T * L) → Kept (R * L) c q p
placed q p T L R c h l C e =
    kept_is (R * L) c q p C
    (let f = mul-le-mul_right L h.least in rw (pow-add 2 52 p) (omega arith))
    (let f = mul-lt-mul_of_pos_right h.most l in rw (pow-add 2 53 p) (omega arith))
    (let f = mul-lt-mul_of_pos_right h.above l in rw e (omega arith))
    (let f = mul-lt-mul_of_pos_right h.below l in rw e (omega arith))

-- ---- powers of two
eighths : (a p b d : ℕ) → a ≡ 3 + b + d → 2 ^ a * 2 ^ p ≡ 8 * (2 ^ (p + b) * 2 ^ d)
eighths a p b d h =
    let e : a + p ≡ 3 + (p + b + d) = omega arith in
    sym (pow-add 2 a p) ∙ ap (λ (z : ℕ). 2 ^ z) e ∙ pow-add 2 3 (p + b + d) ∙ ap (λ (z : ℕ). 8 * z) (pow-add 2 (p + b) d)

shifted : (m i g o t d : ℕ) → g + 56 + o + (t + t) ≡ i + d → m * 2 ^ i * 2 ^ d ≡ m * 2 ^ g * 2 ^ 56 * (2 ^ t * 2 ^ t) * 2 ^ o
shifted m i g o t d h =
    mul_assoc m (2 ^ i) (2 ^ d) ∙ ap (λ (z : ℕ). m * z) (sym (pow-add 2 i d) ∙ ap (λ (z : ℕ). 2 ^ z) (sym h) ∙ pow-add 2 (g + 56 + o) (t + t) ∙ ap₂ ◌*◌ (pow-add 2 (g + 56) o ∙ ap (λ (z : ℕ). z * 2 ^ o) (pow-add 2 g 56)) (pow-add 2 t t))
    ∙ arranged m (2 ^ g) (2 ^ o) (2 ^ t)
  where
    arranged : (m a c d : ℕ) → m * (a * 2 ^ 56 * c * (d * d)) ≡ m * a * 2 ^ 56 * (d * d) * c
    arranged m a c d = omega arith

-- ---- the root of x = (suc m) * 2 ^ e
module _ (m : ℕ) (e : ℤ) (t : T (fits binary64 (fin false (suc m) e))) where
  abbrev N : ℕ
  N = n m e t

  abbrev Q : ℕ
  Q = q m e t

  abbrev P : ℕ
  P = p m e t

  abbrev W : ℕ
  W = suc m * up e * 2 ^ 4542 / down e

  places : pos_part (g m e (room m e t)) + 56 + neg_part e + (P + 1195 + (P + 1195)) ≡ pos_part e + 4542
  places = omega (arith, exponents m e t)

  W-is : W ≡ N * (2 ^ (P + 1195) * 2 ^ (P + 1195))
  W-is =
      let i = pos_part e in
      let o = neg_part e in
      let s = P + 1195 in
      let w = ap (λ (z : ℕ). suc m * z * 2 ^ 4542) (up_is e) ∙ shifted (suc m) i (pos_part (g m e (room m e t))) o s 4542 places ∙ ap₂ (λ (a b : ℕ). a * (2 ^ s * 2 ^ s) * b) (sym (radicand_is m e (room m e t))) (sym (down_is e)) in
      ap (λ (z : ℕ). z / down e) w ∙ mul-div_cancel (N * (2 ^ s * 2 ^ s)) (down_pos e)

  some : 0 < Q
  some = lt_of_lt_of_le (lit< tt) (sqrt_near m e t).digits.0

  near_root : Near Q (2 ^ (P + 1195)) (root_twice W)
  unfolding root_twice
  near_root =
      let r = root_below (size W) W in
      let i = radicand_in m e (room m e t) in
      let w = whole_part W in
      near N Q (2 ^ (P + 1195)) W r W-is (record { low = w.0; high = w.1 }) some (pow_pos (P + 1195)) (low_side m e t) (high_side m e t) i.0 i.1 (eqb (r * r) W) refl

  keeps : Kept (root_twice W * 2 ^ 1074) (2 ^ 2272) Q P
  keeps = placed Q P (2 ^ (P + 1195)) (2 ^ 1074) (root_twice W) (2 ^ 2272) near_root (pow_pos 1074) (pow_pos 2272) (eighths 2272 P 1195 1074 refl)

  grid_is : grid binary64 (root_twice W) (2 ^ 2272) ≡ Q * 2 ^ P
  grid_is = ap₂ (λ (a b : ℕ). a * 2 ^ b) keeps.is keeps.dropped

  fits_in : Q * 2 ^ P < overflow binary64
  fits_in =
      let r = room m e t in
      let d = (sqrt_near m e t).digits.1 in
      let small : 53 + P < 2098 = unfold pos_part neg_part in omega (arith, halved m e r, minus (half_exponent (suc m) e) (pos 55)) in
      lt_of_le_of_lt (mul-le-mul_right (2 ^ P) d) (lt_of_le_of_lt (le_of_eq (sym (pow-add 2 53 P))) (pow-lt {i = 53 + P} {j = 2098} small))

  std_val : HasValue (round binary64 false (root_twice W) (2 ^ 2272)) false (Q * 2 ^ P) (2 ^ 1074)
  std_val =
      let v = root_twice W in
      subst (λ (w : ℕ). HasValue (round binary64 false v (2 ^ 2272)) false w (2 ^ 1074)) grid_is (round_val binary64 v (2 ^ 2272) (lt_of_le_of_lt (le_of_eq grid_is) fits_in))

  of_positive : Ieee.sqrt binary64 (fin false (suc m) e) ≡ sqrt (fin false (suc m) e)
  unfolding Ieee.sqrt U
  of_positive = val_unique (round binary64 false (root_twice W) (2 ^ 2272)) (sqrt (fin false (suc m) e)) false (Q * 2 ^ P) (round-fits binary64 false (root_twice W) (2 ^ 2272)) (sqrt_fits m e (room m e t)) std_val (root_val m e t)

pub std_sqrt : (x : Float) → T (fits binary64 x) → Ieee.sqrt binary64 x ≡ sqrt x
unfolding Ieee.sqrt sqrt
std_sqrt nan t = refl
std_sqrt (inf true) t = refl
std_sqrt (inf false) t = refl
std_sqrt (fin s zero e) t = ap (fin s 0) (sym (zero_exp binary64 s e t))
std_sqrt (fin true (suc m) e) t = refl
std_sqrt (fin false (suc m) e) t = of_positive m e t
