-- `sqrt` is correctly rounded: no value of the format is as near to the root of x as sqrt x is (`sqrt_nearest`).
-- With no real numbers: in units, 2 ^ -1074 each, the root of x is the root R of mag x * U. A number u below V = mag (sqrt x) is farther from R than V exactly where their middle is below R,
-- (u + V)² < 4 R²; one above V, where their middle is above R. The inequalities are strict, so there is no tie: the middle of two neighbours has 54 digits, its square has more than 53, and so it
-- is no value of the format. V is q * 2 ^ p for a q of 53 digits, and x is so scaled, as a whole number n, that R is the root of n in units of 2 ^ p / 4; the definition's q is
-- nearest to that root among whole numbers (SqrtLaws). A value u of the format from 2 ^ (p + 52) on is a whole number of 2 ^ p, so it is at most q - 1 or at least q + 1 of them; and below
-- 2 ^ (p + 52) it is farther still. From this the root's range, and its copy under a shift. Document 01, "Float leaves", sqrt. Assumes nothing.
use Rattle.std.proofs.Common.{◌≡◌, ℕ, zero, suc, ◌+◌, ◌-◌, ◌*◌, ◌%◌, ◌^◌, ◌<◌, ◌≤◌, true, false, T, ◌⊎◌, ℤ, pos, ◌-ℤ◌, sym, refl, ap, ◌∙◌, subst, ap₂, inl, inr, zero-le, le_trans, le_of_eq, le_refl, lt_of_lt_of_le, lt_of_le_of_lt, le_of_lt, mul-le-mul_right, mul_assoc, mul_comm, mul-le-mul, lt_of_mul-lt-mul_right, eq-or-lt_of_le, mul-lt-mul_of_pos_right, mul-pos, one-mul, pow-suc, arith, lit<, pow_pos, pow-add}
use native.Mathlib.Nat.{eq_of_mul-eq-mul_right}
use lib.Ieee.{Float, nan, inf, fin, binary64, up, down, round, lt, fits}
use lib.Ieee.Fits.{down_pos}
use Rattle.leaves.specs.Numbers.{zero⁺, is_finite}
use Rattle.leaves.specs.Shift.{shift}
use Rattle.leaves.specs.Root.{sticky, half_exponent, radicand, sqrt}
use Rattle.leaves.proofs.Whole.{le_or_lt, pos_part, neg_part, plus, minus, up_is, down_is}
use Rattle.leaves.proofs.Laws.{fits→room, Room, size_under}
use Rattle.leaves.proofs.Zero.{no, is_below, not_above, zero_not_above}
use Rattle.leaves.proofs.Shift.{shift_value}
use Rattle.leaves.proofs.Sqrts.{halved, whole, g, radicand_is, radicand_in, places, sqrt_fits}
use Rattle.leaves.proofs.Eighths.{eighth}
use Rattle.leaves.proofs.SqrtLaws.{sqrt_near, sqrt_shift}
use Rattle.leaves.proofs.Rounding.{Representable, representable_pow, representable_grain}
use Rattle.leaves.proofs.Units.{fraction_bits, U, zero_mag, Val, sign, mag, val_mag, val_pos, val_finite, fin_val, mag_representable, val_of}
use Rattle.leaves.proofs.Range.{Range, range_size, range_value}
use Rattle.leaves.proofs.Bounds.{Bounds, root_of}
use Rattle.leaves.proofs.Operations.{Moved, pow_le_U, U-le-pow}

-- ---- a tie would make m * 2 ^ E, with m odd, the square of twice an odd number: then m is that odd number's square
even_power : (E : ℕ) → (E ≡ 0) ⊎ ((a : ℕ) × (2 ^ E ≡ 2 * a))
even_power zero = inl refl
even_power (suc E) = inr (2 ^ E, omega arith)

no_tie : (m E r : ℕ) → m % 2 ≡ 1 → m < 2 ^ 53 → 2 ^ 52 - 1 ≤ r → m * 2 ^ E ≡ 4 * ((2 * r + 1) * (2 * r + 1)) → ⊥
no_tie m zero r o h l e = omega arith
no_tie m (suc zero) r o h l e = omega arith
no_tie m (suc (suc E)) r o h l e = go (even_power E)
  where
    square : (2 ^ 53 - 1) * (2 ^ 53 - 1) ≤ (2 * r + 1) * (2 * r + 1)
    square = let a : 2 ^ 53 - 1 ≤ 2 * r + 1 = omega arith in mul-le-mul a a

    same : m * 2 ^ E ≡ (2 * r + 1) * (2 * r + 1)
    same = let f : m * 2 ^ suc (suc E) ≡ m * (2 ^ E * 2 * 2) = ap (λ (z : ℕ). m * z) (pow-suc 2 (suc E) ∙ ap (λ (z : ℕ). z * 2) (pow-suc 2 E)) in omega arith

    go : (E ≡ 0) ⊎ ((a : ℕ) × (2 ^ E ≡ 2 * a)) → ⊥
    go (inl z) = let f : m * 1 ≡ (2 * r + 1) * (2 * r + 1) = subst (λ (j : ℕ). m * 2 ^ j ≡ (2 * r + 1) * (2 * r + 1)) z same in let k = square in omega arith
    go (inr (a, f)) = let k : m * (2 * a) ≡ (2 * r + 1) * (2 * r + 1) = subst (λ (j : ℕ). m * j ≡ (2 * r + 1) * (2 * r + 1)) f same in omega arith

-- ---- in whole numbers: n is the radicand, q its root to the nearest in units of 4, and n * 4 ^ p is 16 w
module _ (n q p w : ℕ) (least : 2 ^ 52 ≤ q) (large : 2 ^ 108 ≤ n)
    (lo : 4 * ((2 * q - 1) * (2 * q - 1)) < n) (hi : n < 4 * ((2 * q + 1) * (2 * q + 1))) (e : n * (2 ^ p * 2 ^ p) ≡ 16 * w) where
  squares_pos : 0 < 2 ^ p * 2 ^ p
  squares_pos = mul-pos (pow_pos p) (pow_pos p)

  below_root : (a : ℕ) → a ≤ 2 * q - 1 → a * 2 ^ p * (a * 2 ^ p) < 4 * w
  below_root a h =
      let k : 4 * (a * a) < n = lt_of_le_of_lt (let f = mul-le-mul h h in omega arith) lo in
      let l = mul-lt-mul_of_pos_right k squares_pos in
      omega arith

  above_root : (a : ℕ) → 2 * q + 1 ≤ a → 4 * w < a * 2 ^ p * (a * 2 ^ p)
  above_root a h =
      let k : n < 4 * (a * a) = lt_of_lt_of_le hi (let f = mul-le-mul h h in omega arith) in
      let l = mul-lt-mul_of_pos_right k squares_pos in
      omega arith

  squared : (a b : ℕ) → a ≤ b → b * b < 4 * w → a * a < 4 * w
  squared a b h k = lt_of_le_of_lt (mul-le-mul h h) k

  under_nearest : (u : ℕ) → Representable u → u < q * 2 ^ p → (u + q * 2 ^ p) * (u + q * 2 ^ p) < 4 * w
  under_nearest u H h = go (le_or_lt (2 ^ (p + 52)) u) (eq-or-lt_of_le least)
    where
      go : (2 ^ (p + 52) ≤ u) ⊎ (u < 2 ^ (p + 52)) → (2 ^ 52 ≡ q) ⊎ (2 ^ 52 < q) → (u + q * 2 ^ p) * (u + q * 2 ^ p) < 4 * w
      go (inl l) z =
          let c = representable_grain p u H l in
          let m : c.0 < q = lt_of_mul-lt-mul_right (2 ^ p) (lt_of_le_of_lt (le_of_eq (sym c.1)) h) in
          squared (u + q * 2 ^ p) ((c.0 + q) * 2 ^ p) (le_of_eq (let f = c.1 in omega arith)) (below_root (c.0 + q) (omega arith))
      go (inr l) (inr z) =
          let k : u < 2 ^ 52 * 2 ^ p = lt_of_lt_of_le l (le_of_eq (pow-add 2 p 52 ∙ mul_comm (2 ^ p) (2 ^ 52))) in
          squared (u + q * 2 ^ p) ((2 ^ 52 + q) * 2 ^ p) (omega arith) (below_root (2 ^ 52 + q) (omega arith))
      go (inr l) (inl z) =
          let k : u + q * 2 ^ p + 1 ≤ 2 ^ 53 * 2 ^ p = let f = ap (λ (j : ℕ). j * 2 ^ p) z in omega arith in
          let d = mul-le-mul_right (2 ^ p * 2 ^ p) large in
          lt_of_lt_of_le (strict (u + q * 2 ^ p) (2 ^ 53 * 2 ^ p) k) (omega arith)
        where
          strict : (a b : ℕ) → a + 1 ≤ b → a * a < b * b
          strict a b h = let f = mul-le-mul h h in omega arith

  over_nearest : (u : ℕ) → Representable u → q * 2 ^ p < u → 4 * w < (u + q * 2 ^ p) * (u + q * 2 ^ p)
  over_nearest u H h =
      let l : 2 ^ (p + 52) ≤ u = le_trans (le_of_eq (pow-add 2 p 52 ∙ mul_comm (2 ^ p) (2 ^ 52))) (le_trans (mul-le-mul_right (2 ^ p) least) (le_of_lt h)) in
      let c = representable_grain p u H l in
      let m : q < c.0 = lt_of_mul-lt-mul_right (2 ^ p) (lt_of_lt_of_le h (le_of_eq c.1)) in
      lt_of_lt_of_le (above_root (c.0 + q) (omega arith)) (le_of_eq (let f = c.1 in ap (λ (a : ℕ). a * a) (omega arith)))

  -- so V is within 2 ^ -53 of R, relatively
  error_below : q * 2 ^ p * (2 ^ 53 - 1) * (q * 2 ^ p * (2 ^ 53 - 1)) ≤ w * 2 ^ 106
  error_below = squares_up (q * 2 ^ p * (2 ^ 53 - 1)) ((2 * q - 1) * 2 ^ p) w (below_step q (2 ^ p) least) (le_of_lt (below_root (2 * q - 1) (le_refl (2 * q - 1))))
    where
      below_step : (q t : ℕ) → 2 ^ 52 ≤ q → q * t * (2 ^ 53 - 1) ≤ (2 * q - 1) * t * 2 ^ 52
      below_step (suc q) t h = let l = mul-le-mul_right t h in let e : 2 * suc q - 1 ≡ 2 * q + 1 = omega arith in rw e (omega arith)
      below_step zero t h = absurd (omega arith)

      squares_up : (a b w : ℕ) → a ≤ b * 2 ^ 52 → b * b ≤ 4 * w → a * a ≤ w * 2 ^ 106
      squares_up a b w h k = let f = mul-le-mul h h in omega arith

  error_above : w * 2 ^ 106 ≤ q * 2 ^ p * (2 ^ 53 + 1) * (q * 2 ^ p * (2 ^ 53 + 1))
  error_above = squares_down (q * 2 ^ p * (2 ^ 53 + 1)) ((2 * q + 1) * 2 ^ p) w (let l = mul-le-mul_right (2 ^ p) least in omega arith) (le_of_lt (above_root (2 * q + 1) (le_refl (2 * q + 1))))
    where
      squares_down : (a b w : ℕ) → b * 2 ^ 52 ≤ a → 4 * w ≤ b * b → w * 2 ^ 106 ≤ a * a
      squares_down a b w h k = let f = mul-le-mul h h in omega arith

-- ---- what is to be shown of a value x above zero
pub record Nearest (x : Float) : Type 0 where
  pub fit : T (fits binary64 (sqrt x))
  pub finite : T (is_finite (sqrt x))
  pub plus : sign (sqrt x) ≡ false
  pub above : (u : ℕ) → Representable u → u < mag (sqrt x) → (u + mag (sqrt x)) * (u + mag (sqrt x)) < 4 * (mag x * U)
  pub below : (u : ℕ) → Representable u → mag (sqrt x) < u → 4 * (mag x * U) < (u + mag (sqrt x)) * (u + mag (sqrt x))
  pub at_most : mag (sqrt x) * (2 ^ 53 - 1) * (mag (sqrt x) * (2 ^ 53 - 1)) ≤ mag x * U * 2 ^ 106
  pub at_least : mag x * U * 2 ^ 106 ≤ mag (sqrt x) * (2 ^ 53 + 1) * (mag (sqrt x) * (2 ^ 53 + 1))

-- ---- the root of x = (suc m) * 2 ^ e: n, q and p of the definition
twos : (a u p : ℕ) → 2 ^ (a + 56 + u + (p + p)) ≡ 2 ^ a * 2 ^ 56 * 2 ^ u * (2 ^ p * 2 ^ p)
twos a u p = pow-add 2 (a + 56 + u) (p + p) ∙ ap₂ ◌*◌ (pow-add 2 (a + 56) u ∙ ap (λ (z : ℕ). z * 2 ^ u) (pow-add 2 a 56)) (pow-add 2 p p)

tops : (o : ℕ) → 2 ^ (4 + (o + 1074 + 1074)) ≡ 16 * (2 ^ o * U * U)
unfolding U
tops o = pow-add 2 4 (o + 1074 + 1074) ∙ ap (λ (z : ℕ). 16 * z) (pow-add 2 (o + 1074) 1074 ∙ ap (λ (z : ℕ). z * 2 ^ 1074) (pow-add 2 o 1074))

gathered : (n m a c d pp o w l : ℕ) → 0 < d → n ≡ m * a * c → m * o * l ≡ w * d → a * c * d * pp ≡ 16 * (o * l * l) → n * pp ≡ 16 * (w * l)
gathered n m a c d pp o w l D f g h =
    let f' = ap (λ (z : ℕ). z * (pp * d)) f in
    let g' = ap (λ (z : ℕ). z * (16 * l)) g in
    let h' = ap (λ (z : ℕ). m * z) h in
    eq_of_mul-eq-mul_right d D (n * pp) (16 * (w * l)) (omega arith)

middle_below : (q : ℕ) → 0 < q → (q * 8 - 4) * (q * 8 - 4) ≡ 16 * ((2 * q - 1) * (2 * q - 1))
middle_below q h = let f : q * 8 - 4 ≡ 4 * (2 * q - 1) = omega arith in ap (λ (z : ℕ). z * z) f ∙ quadrupled (2 * q - 1)
  where
    quadrupled : (a : ℕ) → 4 * a * (4 * a) ≡ 16 * (a * a)
    quadrupled a = omega arith

module _ (m : ℕ) (e : ℤ) (t : T (fits binary64 (fin false (suc m) e))) where
  abbrev pub room : Room (suc m) e
  room = fits→room false m e t

  abbrev pub k : ℤ
  k = places m e room

  abbrev pub n : ℕ
  n = radicand (suc m) e

  abbrev pub q : ℕ
  q = eighth (sticky n)

  abbrev pub p : ℕ
  p = pos_part k + 1077 - neg_part k

  pub exponents : pos_part (g m e room) + 56 + neg_part e + (p + p) ≡ 4 + (pos_part e + 1074 + 1074)
  unfolding pos_part neg_part
  exponents =
      let h = half_exponent (suc m) e in
      omega (arith, whole m e room, halved m e room, minus h (pos 55), minus (pos 52) h, minus (pos 52 -ℤ h) h, plus e (pos 52 -ℤ h -ℤ h))

  -- V is q * 2 ^ p units
  pub root_val : Val (sqrt (fin false (suc m) e)) false (q * 2 ^ p)
  unfolding sqrt U
  root_val =
      let x = round binary64 false (sticky n) 1 in
      let f : 2 ^ pos_part k * 2 ^ 1077 ≡ 2 ^ p * 2 ^ neg_part k = sym (pow-add 2 (pos_part k) 1077) ∙ ap (λ (z : ℕ). 2 ^ z) deep ∙ pow-add 2 p (neg_part k) in
      val_of (shift k x) false (q * 8 * up k) (1 * down k) (q * 2 ^ p) (mul-pos (lit< tt) (down_pos k)) (shift_value k x false (q * 8) 1 (sqrt_near m e t).value)
      (ap (λ (z : ℕ). q * 8 * z * 2 ^ 1074) (up_is k) ∙ regroup q (2 ^ pos_part k) (2 ^ 1074) ∙ ap (λ (z : ℕ). q * z) f ∙ sym (mul_assoc q (2 ^ p) (2 ^ neg_part k)) ∙ ap (λ (z : ℕ). q * 2 ^ p * z) (sym (down_is k) ∙ sym (one-mul (down k))))
    where
      deep : pos_part k + 1077 ≡ p + neg_part k
      deep = unfold pos_part neg_part in omega (arith, halved m e room, minus (half_exponent (suc m) e) (pos 55))

      regroup : (q o l : ℕ) → q * 8 * o * l ≡ q * (o * (8 * l))
      regroup q o l = omega arith

  -- and R is the root of n, in units of 2 ^ p / 4
  root_of_lem : (w : ℕ) → Val (fin false (suc m) e) false w → n * (2 ^ p * 2 ^ p) ≡ 16 * (w * U)
  root_of_lem w v =
      gathered n (suc m) (2 ^ pos_part (g m e room)) (2 ^ 56) (2 ^ neg_part e) (2 ^ p * 2 ^ p) (2 ^ pos_part e) w U (pow_pos (neg_part e)) (radicand_is m e room) (rw (up_is e, down_is e) at v.1)
      (sym (twos (pos_part (g m e room)) (neg_part e) p) ∙ ap (λ (z : ℕ). 2 ^ z) exponents ∙ tops (pos_part e))

  few : suc m < 2 ^ 53
  few = size_under (suc m) 53 room.digits

  odd_times : n ≡ suc m * 2 ^ (pos_part (g m e room) + 56)
  odd_times = radicand_is m e room ∙ mul_assoc (suc m) (2 ^ pos_part (g m e room)) (2 ^ 56) ∙ ap (λ (z : ℕ). suc m * z) (sym (pow-add 2 (pos_part (g m e room)) 56))

  pub low_side : 4 * ((2 * q - 1) * (2 * q - 1)) < n
  low_side =
      let c = sqrt_near m e t in
      let l : 4 * ((2 * q - 1) * (2 * q - 1)) ≤ n = let f = middle_below q (lt_of_lt_of_le (lit< tt) c.digits.0) in omega arith in
      elim (eq-or-lt_of_le l) [
        | inl z ↦ absurd (no_tie (suc m) (pos_part (g m e room) + 56) (q - 1) room.odd few (omega arith) (sym odd_times ∙ sym z ∙ ap (λ (z : ℕ). 4 * (z * z)) (omega arith)))
        | inr h ↦ h
      ]

  pub high_side : n < 4 * ((2 * q + 1) * (2 * q + 1))
  high_side =
      let c = sqrt_near m e t in
      let l : n ≤ 4 * ((2 * q + 1) * (2 * q + 1)) = omega arith in
      elim (eq-or-lt_of_le l) [
        | inl z ↦ absurd (no_tie (suc m) (pos_part (g m e room) + 56) q room.odd few (omega arith) (sym odd_times ∙ z))
        | inr h ↦ h
      ]

  root_nearest : Nearest (fin false (suc m) e)
  root_nearest =
      let x = fin false (suc m) e in
      let w = mag x * U in
      let s = val_mag (sqrt x) false (q * 2 ^ p) root_val in
      let least = (sqrt_near m e t).digits.0 in
      let large = (radicand_in m e room).0 in
      let is = root_of_lem (mag x) (fin_val false (suc m) e t) in
      record {
        fit = sqrt_fits m e room;
        finite = val_finite (sqrt x) false (q * 2 ^ p) root_val;
        plus = s.0;
        above = rw s.1 (under_nearest n q p w least large low_side high_side is);
        below = rw s.1 (over_nearest n q p w least large low_side high_side is);
        at_most = rw s.1 (error_below n q p w least large low_side high_side is);
        at_least = rw s.1 (error_above n q p w least large low_side high_side is);
      }

-- ---- the theorem
-- of a finite value above zero
pub nearest_of : (x : Float) → T (fits binary64 x) → T (is_finite x) → lt zero⁺ x ≡ true → Nearest x
unfolding is_finite
nearest_of nan t f h = absurd f
nearest_of (inf s) t f h = absurd f
nearest_of (fin true m e) t f h = no h (not_above m e)
nearest_of (fin false zero e) t f h = no h (zero_not_above e)
nearest_of (fin false (suc m) e) t f h = root_nearest m e t

-- every other value y of the format is farther from the root
pub sqrt_nearest : (x y : Float) → T (fits binary64 x) → T (fits binary64 y) → T (is_finite x) → T (is_finite y) → lt zero⁺ x ≡ true
    → (mag y < mag (sqrt x) → (mag y + mag (sqrt x)) * (mag y + mag (sqrt x)) < 4 * (mag x * U)) × (mag (sqrt x) < mag y → 4 * (mag x * U) < (mag y + mag (sqrt x)) * (mag y + mag (sqrt x)))
sqrt_nearest x y tx ty fx fy h = let r = nearest_of x tx fx h in let u = (mag_representable y ty fy).0 in (r.above (mag y) u, r.below (mag y) u)

-- ---- the root does not pass a number that is held
doubled : (a b : ℕ) → a < b → (b + a) * (b + a) < 4 * (b * b)
doubled a b h = let k : b + a + 1 ≤ 2 * b = omega arith in let f = mul-le-mul k k in omega arith

module _ {x : Float} (r : Nearest x) (u : ℕ) (H : Representable u) where
  root_least : u * u ≤ mag x * U → u ≤ mag (sqrt x)
  root_least h = elim (le_or_lt u (mag (sqrt x))) [ inl l ↦ l | inr l ↦ absurd (let a = r.below u H l in let b = doubled (mag (sqrt x)) u l in omega arith) ]

  root_most : mag x * U ≤ u * u → mag (sqrt x) ≤ u
  root_most h = elim (le_or_lt (mag (sqrt x)) u) [ inl l ↦ l | inr l ↦ absurd (let a = r.above u H l in let v = mag (sqrt x) in let k : 2 * u ≤ u + v = (omega arith) in let f = mul-le-mul k k in omega arith) ]

-- ---- its range, and its copy
range_sqrt : {g₁ L₁ B₁ : ℕ} (x : Float) → Range g₁ L₁ B₁ x → lt x zero⁺ ≡ false → (l h : ℕ) → fraction_bits ≤ l → 2 ^ l * 2 ^ l ≤ L₁ * U → B₁ * U ≤ 2 ^ h * 2 ^ h → Range (l - fraction_bits) (2 ^ l) (2 ^ h) (sqrt x)
unfolding is_finite
range_sqrt nan r n l h e a b = absurd r.finite
range_sqrt (inf s) r n l h e a b = absurd r.finite
range_sqrt (fin s zero i) r n l h e a b = unfold sqrt in
    range_size l (2 ^ h) (fin s zero i) e r.fit r.finite (inl (zero_mag s i)) (rw (zero_mag s i) zero-le)
range_sqrt (fin true (suc m) i) r n l h e a b = no (is_below m i) n
range_sqrt (fin false (suc m) i) r n l h e a b =
    let x = fin false (suc m) i in
    let q = root_nearest m i r.fit in
    let p : 0 < mag x = val_pos false m i (sign x) (mag x) (range_value r) in
    range_size l (2 ^ h) (sqrt x) e q.fit q.finite (inr (root_least q (2 ^ l) (representable_pow l) (le_trans a (mul-le-mul_right U (r.least p)))))
    (root_most q (2 ^ h) (representable_pow h) (le_trans (mul-le-mul_right U r.most) b))

pub moved_sqrt : {k : ℕ} {b : Bounds} {x x' : Float} → Moved (k + k) b x x' → lt x zero⁺ ≡ false → Moved k (root_of b) (sqrt x) (sqrt x')
moved_sqrt {k} {b} {x} r n =
    let d = root_of b in
    record {
      range = range_sqrt x r.range n d.least d.most (omega arith) (pow_le_U d.least d.least b.least (omega arith)) (U-le-pow b.most d.most d.most (omega arith));
      copy = ap sqrt r.copy ∙ sqrt_shift x (pos k);
    }
