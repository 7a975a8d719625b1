-- The screen number from a float's bits. What is shown of a finite float is told by any fraction that equals its size (`shown_value`). The bits give
-- q * 2 ^ k / 2 ^ 1074, whose ten-thousandths are those nearest to q * 625 / 2 ^ (1070 - k), in 64 bits. Assumes nothing.
use mathlib.Core.Path.{◌≡◌, refl, sym, ap, ◌∙◌, subst}
use mathlib.Core.Logic.{inl, inr}
use mathlib.Core.Bool.{Bool, true, false, not, ◌&&◌, cond}
use Prim.Native.Nat.{ℕ, zero, suc, ◌+◌, ◌-◌, ◌*◌, ◌/◌, ◌%◌, ◌^◌, ◌≤◌, ◌<◌}
use native.Mathlib.Nat.{one-mul, mul_right_comm, mul-le-mul_right, mul-lt-mul_of_pos_right, le_of_mul-le-mul_right}
use native.Mathlib.Nat.{eq-or-lt_of_le, le_of_suc-le-suc, not-suc-le-zero, le_trans, lt_of_lt_of_le, le_of_eq}
use native.Mathlib.Omega.{arith}
use lib.Dec.{leb, eqb, T, leb→le, le→leb}
use lib.Pow.{pow-add, pow_pos, pow_mono, shl_exact}
use lib.Ieee.{Float, nan, inf, fin, binary64, up, down, odd, of_fields, of_bits, to_bits, fits, is_nan}
use lib.Ieee.Bits.{of_bits-to_bits}
use lib.Ieee.Exact.{HasValue, odd_sign}
use lib.Ieee.Fits.{down_pos}
use borrow.Author.Tests.{le-leb, lt-leb, eq-eqb, ne_eqb}
use Rattle.leaves.specs.Numbers.{float}
use Rattle.leaves.proofs.Shift.{iff_same}
use Rattle.paper.specs.declared.screen.Shown.TheVariants.{Big, Number}
use Rattle.paper.specs.Screen.{nearest, ten_thousandths, shown_as, shown}
use Rattle.paper.proofs.Nearest.{nearest_same, nearest_between}

-- ---- equal fractions are shown alike

shown_same : (s : Bool) (a b c d : ℕ) → 0 < b → 0 < d → a * d ≡ c * b → shown_as s a b ≡ shown_as s c d
unfolding shown_as
shown_same s a b c d B D e = rw (
  nearest_same (a * 10000) b (c * 10000) d B D (mul_right_comm a 10000 d ∙ ap (λ (x : ℕ). x * 10000) e ∙ mul_right_comm c b 10000),
  iff_same (leb (2 ^ 31 * b) a) (leb (2 ^ 31 * d) c)
      (λ t. le→leb (2 ^ 31 * d) c (across b d a c B e (leb→le (2 ^ 31 * b) a t)))
      (λ t. le→leb (2 ^ 31 * b) a (across d b c a D (sym e) (leb→le (2 ^ 31 * d) c t))),
)
  where
    across : (b d a c : ℕ) → 0 < b → a * d ≡ c * b → 2 ^ 31 * b ≤ a → 2 ^ 31 * d ≤ c
    across b d a c B e h = le_of_mul-le-mul_right (le_trans (le_of_eq (mul_right_comm (2 ^ 31) d b)) (le_trans (mul-le-mul_right d h) (le_of_eq e))) B

shown_value : (x : Float) (s : Bool) (a c : ℕ) → 0 < c → HasValue x s a c → shown x ≡ shown_as s a c
unfolding shown
shown_value nan s a c C v = absurd v
shown_value (inf t) s a c C v = absurd v
shown_value (fin t m e) s a c C v = ap (λ (b : Bool). shown_as b (m * up e) (down e)) v.0 ∙ shown_same s (m * up e) (down e) a c (down_pos e) C v.1

-- ---- q * 2 ^ k / 2 ^ l

ten_thousandths_are : (q k l d : ℕ) → l ≡ d + (4 + k) → ten_thousandths (q * 2 ^ k) (2 ^ l) ≡ nearest (q * 625) (2 ^ d)
ten_thousandths_are q k l d e =
    nearest_same (q * 2 ^ k * 10000) (2 ^ l) (q * 625) (2 ^ d) (pow_pos l) (pow_pos d)
    (shuffle q (2 ^ d) (2 ^ k) ∙ ap (λ (x : ℕ). q * 625 * x) (ap (λ (x : ℕ). 2 ^ d * x) (sym (pow-add 2 4 k)) ∙ sym (pow-add 2 d (4 + k)) ∙ ap (λ (x : ℕ). 2 ^ x) (sym e)))
  where
    shuffle : (q a b : ℕ) → q * b * 10000 * a ≡ q * 625 * (a * (16 * b))
    shuffle q a b = omega arith

shown_as_big : (s : Bool) (q k l p : ℕ) → 2 ^ p ≤ q → 31 + l ≤ p + k → shown_as s (q * 2 ^ k) (2 ^ l) ≡ Big
unfolding shown_as
shown_as_big s q k l p h g = rw (le-leb (2 ^ 31 * 2 ^ l) (q * 2 ^ k) reaches)
  where
    reaches : 2 ^ 31 * 2 ^ l ≤ q * 2 ^ k
    reaches = le_trans (le_of_eq (sym (pow-add 2 31 l))) (le_trans (pow_mono g) (le_trans (le_of_eq (pow-add 2 p k)) (mul-le-mul_right (2 ^ k) h)))

shown_as_number : (s : Bool) (q k l p d : ℕ) → q < 2 ^ p → p + k ≤ 31 + l → l ≡ d + (4 + k)
    → shown_as s (q * 2 ^ k) (2 ^ l) ≡ Number (not (eqb (nearest (q * 625) (2 ^ d)) 0) && s) (nearest (q * 625) (2 ^ d))
unfolding shown_as
shown_as_number s q k l p d h g e = rw (lt-leb (2 ^ 31 * 2 ^ l) (q * 2 ^ k) stays, ten_thousandths_are q k l d e)
  where
    stays : q * 2 ^ k < 2 ^ 31 * 2 ^ l
    stays = lt_of_lt_of_le (mul-lt-mul_of_pos_right h (pow_pos k)) (le_trans (le_of_eq (sym (pow-add 2 p k))) (le_trans (pow_mono g) (le_of_eq (pow-add 2 31 l))))

-- ---- a float's sign s, exponent field x and fraction t

of_zero : (s : Bool) (t : ℕ) → of_fields binary64 s 0 t ≡ odd 53 s t 0 1074
unfolding of_fields
of_zero s t = refl

of_suc : (s : Bool) (x t : ℕ) → suc x < 2047 → of_fields binary64 s (suc x) t ≡ odd 53 s (2 ^ 52 + t) x 1074
unfolding of_fields
of_suc s x t h = rw (ne_eqb (suc x) 2047 (λ e. omega arith))

-- what odd stands for, shown
shown_odd : (s : Bool) (q k : ℕ) → shown (odd 53 s q k 1074) ≡ shown_as s (q * 2 ^ k) (2 ^ 1074)
shown_odd s q k = shown_value (odd 53 s q k 1074) s (q * 2 ^ k) (2 ^ 1074) (pow_pos 1074) (odd_sign 53 s q k 1074)

shown_ones : (s : Bool) (x t : ℕ) → suc x ≡ 2047 → shown (of_fields binary64 s (suc x) t) ≡ Big
unfolding of_fields shown
shown_ones s x t e = rw (eq-eqb (suc x) 2047 e) (either (eqb t 0))
  where
    either : (b : Bool) → shown (cond b (inf s) nan) ≡ Big
    either true = refl
    either false = refl

shown_large : (s : Bool) (x t : ℕ) → x < 2048 → 1053 < x → shown (of_fields binary64 s x t) ≡ Big
shown_large s zero t h l = absurd (not-suc-le-zero l)
shown_large s (suc x) t h l = elim (eq-or-lt_of_le (le_of_suc-le-suc h)) [
  | inl e ↦ shown_ones s x t e
  | inr g ↦ ap shown (of_suc s x t g) ∙ shown_odd s (2 ^ 52 + t) x ∙ shown_as_big s (2 ^ 52 + t) x 1074 52 (omega arith) (omega arith)
]

shown_small : (s : Bool) (x t u : ℕ) → t < 2 ^ 52 → x ≤ 1053 → (x ≡ 0 → u ≡ nearest (t * 625) (2 ^ 1070))
    → ((x ≡ 0 → ⊥) → u ≡ nearest ((2 ^ 52 + t) * 625) (2 ^ (1071 - x)))
    → shown (of_fields binary64 s x t) ≡ Number (not (eqb u 0) && s) u
shown_small s zero t u h l z n = ap shown (of_zero s t) ∙ shown_odd s t 0 ∙ rw (z refl) (shown_as_number s t 0 1074 53 1070 (omega arith) (omega arith) refl)
shown_small s (suc x) t u h l z n =
    ap shown (of_suc s x t (omega arith)) ∙ shown_odd s (2 ^ 52 + t) x
    ∙ rw (n (λ e. omega arith)) (shown_as_number s (2 ^ 52 + t) x 1074 53 (1071 - suc x) (omega arith) (omega arith) (omega arith))

-- ---- the tests of the code, on the bits b of x

fields : (b : ℕ) → float b ≡ of_fields binary64 (leb (2 ^ 63) b) (b % 2 ^ 63 / 2 ^ 52) (b % 2 ^ 52)
unfolding of_bits
fields b = refl

pub only_nan : (x : Float) → is_nan x ≡ true → x ≡ nan
unfolding is_nan
only_nan nan e = refl
only_nan (inf s) e = absurd (subst T (sym e) tt)
only_nan (fin s m e') e = absurd (subst T (sym e) tt)

pub shown_nan : (x : Float) → is_nan x ≡ true → Big ≡ shown x
unfolding shown
shown_nan x e = rw (only_nan x e)

module _ (x : Float) (good : fits binary64 x ≡ true) where
  abbrev bits : ℕ
  bits = to_bits binary64 x

  abbrev exponent : ℕ
  exponent = bits % 2 ^ 63 / 2 ^ 52

  abbrev fraction : ℕ
  fraction = bits % 2 ^ 52

  shown_bits : shown x ≡ shown (of_fields binary64 (leb (2 ^ 63) bits) exponent fraction)
  shown_bits = ap shown (sym (of_bits-to_bits binary64 x (subst T (sym good) tt)) ∙ fields bits)

  pub shown_big : 1053 < exponent → Big ≡ shown x
  shown_big h = sym (shown_bits ∙ shown_large (leb (2 ^ 63) bits) exponent fraction (omega arith) h)

  pub shown_units : (u : ℕ) → exponent ≤ 1053 → (exponent ≡ 0 → u ≡ nearest (fraction * 625) (2 ^ 1070))
      → ((exponent ≡ 0 → ⊥) → u ≡ nearest ((2 ^ 52 + fraction) * 625) (2 ^ (1071 - exponent)))
      → shown x ≡ Number (not (eqb u 0) && leb (2 ^ 63) bits) u
  shown_units u h z n = shown_bits ∙ shown_small (leb (2 ^ 63) bits) exponent fraction u (omega arith) h z n

-- no minus at 0.0000, and the number's own elsewhere
pub no_minus : (u : ℕ) (s : Bool) → u ≡ 0 → Number (not (eqb u 0) && s) u ≡ Number false u
no_minus u s e = rw (eq-eqb u 0 e)

pub own_minus : (u : ℕ) (s : Bool) → (u ≡ 0 → ⊥) → Number (not (eqb u 0) && s) u ≡ Number s u
own_minus u s n = rw (ne_eqb u 0 n)

-- m * 625 / 2 ^ d is below a half
pub units_none : (m d : ℕ) → m < 2 ^ 53 → 63 < d → 0 ≡ nearest (m * 625) (2 ^ d)
units_none m d h g = nearest_between (m * 625) (2 ^ d) (pow_pos d) 0 (omega arith) (let k : 2 ^ 64 ≤ 2 ^ d = pow_mono g in omega arith)

-- the code's 1 << d
pub one_shifted : (d : ℕ) → d ≤ 63 → 1 * 2 ^ d % 2 ^ 64 ≡ 2 ^ d
one_shifted d h = shl_exact 1 d 64 (omega arith) (omega arith) ∙ one-mul (2 ^ d)
