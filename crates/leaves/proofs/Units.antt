-- Values of binary64 as whole numbers of units, a unit being the format's smallest value, 2 ^ -1074. `Val x s u` says that x is finite, of u units and with the sign s; `mag x` is that u.
-- Comparisons are those of the numbers, and a shift multiplies them. `rounded s n d` is the value of the format nearest to n / d units: it is `near n d` units, or an infinity from 2 ^ 1024 on,
-- and 2 ^ t times a fraction rounds to the rounded fraction, shifted, where nothing overflows (`rounded_shift`). Assumes nothing.
use Rattle.std.proofs.Common.{◌≡◌, ℕ, zero, suc, ◌+◌, ◌*◌, ◌/◌, ◌^◌, ◌<◌, ◌≤◌, Bool, true, false, cond, not, ◌&&◌, ◌||◌, T, eqb, ltb, ◌⊎◌, ℤ, pos, ◌+ℤ◌, sym, refl, ap, ◌∙◌, subst, inl, inr, le_of_eq, lt_of_le_of_lt, zero-lt-suc, eq-zero-or-pos, mul-lt-mul_of_pos_right, mul-pos, zero-mul, mul-one, le-mul_of_pos_right, mul-div_cancel, arith, lit<, pow_pos, pow_mono, pow-add, ltb-false, ltb-true}
use mathlib.Core.Bool.{beq}
use lib.Ieee.{Float, nan, inf, fin, binary64, up, down, odd, units, round, neg, below, level, lt, eq, fits}
use lib.Ieee.Fits.{up_pos, down_pos, round-fits}
use lib.Ieee.Exact.{HasValue, units_val}
use lib.Ieee.Order.{drop, kept}
use lib.Ieee.Positive.{first_pos}
use borrow.Author.Tests.{eqb-false}
use Rattle.leaves.specs.Numbers.{zero⁺, one, is_finite, abs}
use Rattle.leaves.specs.Shift.{shift}
use Rattle.leaves.proofs.Whole.{pos_part, neg_part, up_is, down_is}
use Rattle.leaves.proofs.Laws.{value_same, fits→room, room→fits, place, in_units_lem, size_under, digits_in, digits_out, value_unique, room_move}
use Rattle.leaves.proofs.Shift.{shift_value, below_scaled, level_scaled}
use Rattle.leaves.proofs.Rounding.{near, Representable, Grained, representable_small, representable_times, near_scale, round_near}

-- ---- definitions
-- the format in units: 1 is 2 ^ one_bits of them, and the largest power of two 2 ^ top_bits; behind a leading bit stand fraction_bits more
abbrev pub one_bits : ℕ
one_bits = 1074

abbrev pub top_bits : ℕ
top_bits = one_bits + 1023

abbrev pub fraction_bits : ℕ
fraction_bits = 52

-- 1 is U units, and from Top units on a result is an infinity. Both stay shut: they are too large to compute with
unfoldable pub U : ℕ
U = 2 ^ one_bits

unfoldable pub Top : ℕ
Top = 2 ^ suc top_bits

abbrev pub Val : Float → Bool → ℕ → Type 0
Val x s u = HasValue x s u U

-- a finite value of the format
abbrev pub Finite : Float → Type 0
Finite x = T (fits binary64 x) × T (is_finite x)

-- n / d units, rounded
abbrev pub rounded : Bool → ℕ → ℕ → Float
rounded s n d = round binary64 s n (d * U)

-- a finite value's sign and size in units
unfoldable pub sign : Float → Bool
sign nan = false
sign (inf s) = s
sign (fin s m e) = s

unfoldable pub mag : Float → ℕ
mag nan = 0
mag (inf s) = 0
mag (fin s m e) = m * up e * U / down e

pub U_pos : 0 < U
unfolding U
U_pos = pow_pos 1074

pub U-is : U ≡ 2 ^ 1074
unfolding U
U-is = refl

pub pow_under_Top : (h : ℕ) → h ≤ top_bits → 2 ^ h < Top
unfolding Top
pow_under_Top h l = lt_of_le_of_lt (pow_mono l) (lit< tt)

-- ---- a value has one sign and one size
pub val_mag : (x : Float) (s : Bool) (u : ℕ) → Val x s u → (sign x ≡ s) × (mag x ≡ u)
unfolding sign mag
val_mag nan s u v = absurd v
val_mag (inf t) s u v = absurd v
val_mag (fin t m e) s u v = (v.0, ap (λ (z : ℕ). z / down e) v.1 ∙ mul-div_cancel u (down_pos e))

pub zero_val : (s : Bool) (e : ℤ) → Val (fin s zero e) s 0
zero_val s e = (refl, simp zero-mul)

pub one_val : Val one false U
one_val = (refl, omega arith)

pub zero_mag : (s : Bool) (e : ℤ) → mag (fin s zero e) ≡ 0
zero_mag s e = (val_mag (fin s zero e) s 0 (zero_val s e)).1

pub val_pos : (s : Bool) (m : ℕ) (e : ℤ) (t : Bool) (u : ℕ) → Val (fin s (suc m) e) t u → 0 < u
val_pos s m e t u v = first_pos u (down e) (subst (λ (n : ℕ). 0 < n) v.1 (mul-pos (mul-pos (zero-lt-suc m) (up_pos e)) U_pos))

pub zero_finite : (s : Bool) → Finite (fin s zero (pos 0))
zero_finite s = unfold fits is_finite in (tt, tt)

pub val_finite : (x : Float) (s : Bool) (u : ℕ) → Val x s u → T (is_finite x)
unfolding is_finite
val_finite nan s u v = v
val_finite (inf t) s u v = v
val_finite (fin t m e) s u v = tt

-- by any fraction a / c that x equals
pub val_of : (x : Float) (s : Bool) (a c u : ℕ) → 0 < c → HasValue x s a c → a * U ≡ u * c → Val x s u
val_of x s a c u C v h = value_same x s a c u U C v h

pub val_unique : (x y : Float) (s : Bool) (u : ℕ) → T (fits binary64 x) → T (fits binary64 y) → Val x s u → Val y s u → x ≡ y
val_unique x y s u p q v w = value_unique binary64 x y s u U U_pos p q v w

-- a finite value of the format is a number of units that has at most 53 digits with zeros after them
record Units (x : Float) : Type 0 where
  count : ℕ
  val : Val x (sign x) count
  held : Representable count
  below : count < Top

units_of : (x : Float) → T (fits binary64 x) → T (is_finite x) → Units x
unfolding sign is_finite Top U
units_of nan t f = absurd f
units_of (inf s) t f = absurd f
units_of (fin s zero e) t f = record { count = 0; val = zero_val s e; held = representable_small 0 (lit< tt); below = lit< tt }
units_of (fin s (suc m) e) t f =
    let r = fits→room s m e t in
    let j = place e in
    record {
      count = suc m * 2 ^ j;
      val = (refl, in_units_lem (suc m) e r.low);
      held = representable_times (suc m) j (size_under (suc m) 53 r.digits);
      below = digits_out (suc m) j 2098 (omega arith);
    }

pub mag_val : (x : Float) → T (fits binary64 x) → T (is_finite x) → Val x (sign x) (mag x)
mag_val x t f = let u = units_of x t f in rw (val_mag x (sign x) u.count u.val).1 u.val

pub mag_representable : (x : Float) → T (fits binary64 x) → T (is_finite x) → Representable (mag x) × (mag x < Top)
mag_representable x t f = let u = units_of x t f in rw (val_mag x (sign x) u.count u.val).1 (u.held, u.below)

-- a value that has digits is finite
pub finite_fin : (s : Bool) (m : ℕ) (e : ℤ) → T (is_finite (fin s m e))
unfolding is_finite
finite_fin s m e = tt

pub fin_val : (s : Bool) (m : ℕ) (e : ℤ) → T (fits binary64 (fin s m e)) → Val (fin s m e) s (mag (fin s m e))
unfolding sign
fin_val s m e t = mag_val (fin s m e) t (finite_fin s m e)

pub fin_under_Top : (s : Bool) (m : ℕ) (e : ℤ) → T (fits binary64 (fin s m e)) → mag (fin s m e) < Top
fin_under_Top s m e t = (mag_representable (fin s m e) t (finite_fin s m e)).1

pub mag_neg : (x : Float) → mag (neg x) ≡ mag x
unfolding mag neg
mag_neg nan = refl
mag_neg (inf s) = refl
mag_neg (fin s m e) = refl

pub mag_abs : (x : Float) → mag (abs x) ≡ mag x
unfolding mag abs
mag_abs nan = refl
mag_abs (inf s) = refl
mag_abs (fin s m e) = refl

pub abs_val : (x : Float) → Val x (sign x) (mag x) → Val (abs x) false (mag x)
unfolding abs
abs_val nan v = v
abs_val (inf s) v = v
abs_val (fin s m e) v = (refl, v.1)

pub neg_val : (x : Float) (s : Bool) (u : ℕ) → Val x s u → Val (neg x) (not s) u
unfolding neg
neg_val nan s u v = v
neg_val (inf t) s u v = v
neg_val (fin t m e) s u v = (ap not v.0, v.1)

-- ---- comparisons
-- a side of a comparison, in units
pub one_side_of : (m : ℕ) (e d : ℤ) (a : ℕ) → m * up e * U ≡ a * down e → m * up e * down d * U ≡ a * (down e * down d)
one_side_of m e d a v = let h = ap (λ (z : ℕ). z * down d) v in omega arith

pub other_side_of : (n : ℕ) (e d : ℤ) (b : ℕ) → n * up d * U ≡ b * down d → n * up d * down e * U ≡ b * (down e * down d)
other_side_of n e d b w = let h = one_side_of n d e b w in omega arith

both_val : (x y : Float) (s t : Bool) (a b : ℕ) → Val x s a → Val y t b → (lt x y ≡ below s a t b) × (eq x y ≡ level s a t b)
unfolding lt eq
both_val nan y s t a b v w = absurd v
both_val (inf r) y s t a b v w = absurd v
both_val (fin r m e) nan s t a b v w = absurd w
both_val (fin r m e) (inf q) s t a b v w = absurd w
both_val (fin r m e) (fin q n d) s t a b v w =
    let X = m * up e * down d in
    let Y = n * up d * down e in
    let D : 0 < down e * down d = mul-pos (down_pos e) (down_pos d) in
    let l = one_side_of m e d a v.1 in
    let g = other_side_of n e d b w.1 in
    rw (v.0, w.0) (below_scaled s t X Y U (down e * down d) a b U_pos D l g, level_scaled s t X Y U (down e * down d) a b U_pos D l g)

pub lt_val : (x y : Float) (s t : Bool) (a b : ℕ) → Val x s a → Val y t b → lt x y ≡ below s a t b
lt_val x y s t a b v w = (both_val x y s t a b v w).0

pub eq_val : (x y : Float) (s t : Bool) (a b : ℕ) → Val x s a → Val y t b → eq x y ≡ level s a t b
eq_val x y s t a b v w = (both_val x y s t a b v w).1

-- with zero
pub eq_zero : (x : Float) → T (fits binary64 x) → T (is_finite x) → eq x zero⁺ ≡ eqb (mag x) 0
eq_zero x t f = eq_val x zero⁺ (sign x) false (mag x) 0 (mag_val x t f) (zero_val false (pos 0)) ∙ go (eqb (mag x) 0) (beq (sign x) false)
  where
    go : (b c : Bool) → b && (c || b) ≡ b
    go true true = refl
    go true false = refl
    go false c = refl

pub nonzero_pos : (x : Float) → Finite x → eq x zero⁺ ≡ false → 0 < mag x
nonzero_pos x t e = elim (eq-zero-or-pos (mag x)) [ inl z ↦ absurd (eqb-false (mag x) 0 (sym (eq_zero x t.0 t.1) ∙ e) z) | inr p ↦ p ]

-- ---- shifted
pub val_shift : (k : ℕ) (x : Float) (s : Bool) (u : ℕ) → Val x s u → Val (shift (pos k) x) s (u * 2 ^ k)
val_shift k x s u v = rw (mul-one U) at (shift_value (pos k) x s u U v)

pub mag_shift : (k : ℕ) (x : Float) → T (fits binary64 x) → T (is_finite x) → mag (shift (pos k) x) ≡ mag x * 2 ^ k
mag_shift k x t f = (val_mag (shift (pos k) x) (sign x) (mag x * 2 ^ k) (val_shift k x (sign x) (mag x) (mag_val x t f))).1

raised : (m u k d o w : ℕ) → m * o * w ≡ u * d → u * k < w * 2 ^ 1024 → 0 < d → m * (o * w * k) < w * 2 ^ 1024 * d
raised m u k d o w e h D = lt_of_le_of_lt (le_of_eq (let f = ap (λ (z : ℕ). z * k) e in omega arith)) (mul-lt-mul_of_pos_right h D)

pub fits_shift : (k : ℕ) (x : Float) (s : Bool) (u : ℕ) → T (fits binary64 x) → Val x s u → u * 2 ^ k < Top → T (fits binary64 (shift (pos k) x))
unfolding shift Top U pos_part neg_part
fits_shift k nan s u t v h = absurd v
fits_shift k (inf r) s u t v h = absurd v
fits_shift k (fin r zero e) s u t v h = t
fits_shift k (fin r (suc m) e) s u t v h =
    let q = fits→room r m e t in
    let l : suc m * 2 ^ (pos_part e + 1074 + k) < 2 ^ (2098 + neg_part e) =
    rw (pow-add 2 (pos_part e + 1074) k, pow-add 2 (pos_part e) 1074, pow-add 2 2098 (neg_part e), ← up_is e, ← down_is e)
    (raised (suc m) u (2 ^ k) (down e) (up e) (2 ^ 1074) v.1 h (down_pos e)) in
    let g = digits_in m (pos_part e + 1074 + k) (2098 + neg_part e) l in
    room→fits r m (e +ℤ pos k) (room_move e (pos k) q (omega arith) (omega arith))

-- ---- n / d units, rounded
pub rounded_fits : (s : Bool) (n d : ℕ) → T (fits binary64 (rounded s n d))
rounded_fits s n d = round-fits binary64 s n (d * U)

pub rounded_val : (s : Bool) (n d : ℕ) → 0 < d → near n d < Top → Val (rounded s n d) s (near n d)
unfolding U Top
rounded_val s n d D h = rw (round_near s n d D) (units_val binary64 s (kept 53 n d) (drop 53 n d) h)

-- it is an infinity exactly from Top units on
pub rounded_cases : (s : Bool) (n d : ℕ) → 0 < d → (near n d < Top) ⊎ ((Top ≤ near n d) × (rounded s n d ≡ inf s))
unfolding U Top units
rounded_cases s n d D = go (ltb (near n d) (2 ^ 2098)) refl (round_near s n d D)
  where
    go : (b : Bool) → ltb (near n d) (2 ^ 2098) ≡ b → rounded s n d ≡ cond b (odd 54 s (kept 53 n d) (drop 53 n d) 1074) (inf s) → (near n d < 2 ^ 2098) ⊎ ((2 ^ 2098 ≤ near n d) × (rounded s n d ≡ inf s))
    go true e f = inl (ltb-true (near n d) (2 ^ 2098) e)
    go false e f = inr (ltb-false (near n d) (2 ^ 2098) e, f)

-- a finite result has not overflowed
rounded_under : (s : Bool) (n d : ℕ) → 0 < d → T (is_finite (rounded s n d)) → near n d < Top
unfolding is_finite
rounded_under s n d D t = elim (rounded_cases s n d D) [ inl h ↦ h | inr (h, e) ↦ absurd (rw e at t) ]

-- so its size is the rounded fraction
pub finite_mag : (x : Float) (s : Bool) (n d : ℕ) → 0 < d → x ≡ rounded s n d → T (is_finite x) → mag x ≡ near n d
finite_mag x s n d D e f = ap mag e ∙ (val_mag (rounded s n d) s (near n d) (rounded_val s n d D (rounded_under s n d D (rw e at f)))).1

pub rounded_shift : (s : Bool) (n d t : ℕ) → 0 < d → Grained 0 n d → near (n * 2 ^ t) d < Top → rounded s (n * 2 ^ t) d ≡ shift (pos t) (rounded s n d)
rounded_shift s n d t D c o =
    let g = near n d in
    let e : near (n * 2 ^ t) d ≡ g * 2 ^ t = near_scale n d t D c in
    let o' : g * 2 ^ t < Top = rw e at o in
    let v = rounded_val s n d D (lt_of_le_of_lt (le-mul_of_pos_right g (pow_pos t)) o') in
    val_unique (rounded s (n * 2 ^ t) d) (shift (pos t) (rounded s n d)) s (g * 2 ^ t) (rounded_fits s (n * 2 ^ t) d) (fits_shift t (rounded s n d) s g (rounded_fits s n d) v o')
    (rw e at (rounded_val s (n * 2 ^ t) d D o)) (val_shift t (rounded s n d) s g v)
