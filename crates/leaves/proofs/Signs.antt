-- Where no minus sign can come from, of any values at all: a sum of values without one, a product or a quotient of two with the same sign, a square, a root, a size, a count and
-- a sum of such terms (`sign` of a NaN is false). What has no minus sign is not below zero, so its root is no NaN for being negative. Assumes nothing.
use Rattle.std.proofs.Common.{◌≡◌, ℕ, zero, suc, ◌+◌, ◌*◌, ◌^◌, ◌<◌, Bool, true, false, cond, eqb, ltb, ℤ, refl, ap, ◌∙◌, subst}
use lib.Ieee.{Float, nan, inf, fin, binary64, up, down, unlike, odd, units, round, add, mul, div, of_int, lt}
use lib.Ieee.Fits.{round_is}
use Rattle.leaves.specs.Numbers.{◌⊕◌, ◌⊗◌, ◌⊘◌, count, zero⁺, abs}
use Rattle.leaves.specs.Loops.{sum_to}
use Rattle.leaves.specs.Shift.{shift}
use Rattle.leaves.specs.Root.{sticky, radicand, sqrt}
use Rattle.leaves.proofs.Loops.{kept_loop}
use Rattle.leaves.proofs.Zero.{no, not_below}
use Rattle.leaves.proofs.Units.{sign}

sign_cond : (b : Bool) (x y : Float) (s : Bool) → sign x ≡ s → sign y ≡ s → sign (cond b x y) ≡ s
sign_cond true x y s p q = p
sign_cond false x y s p q = q

sign_odd : (d : ℕ) (s : Bool) (q k l : ℕ) → sign (odd d s q k l) ≡ s
unfolding sign odd
sign_odd d s zero k l = refl
sign_odd d s (suc q) k l = refl

sign_units : (s : Bool) (q k : ℕ) → sign (units binary64 s q k) ≡ s
unfolding sign units
sign_units s q k = sign_cond (ltb (q * 2 ^ k) (2 ^ 2098)) (odd 54 s q k 1074) (inf s) s (sign_odd 54 s q k 1074) refl

pub sign_round : (s : Bool) (a c : ℕ) → sign (round binary64 s a c) ≡ s
sign_round s a c = ap sign (round_is binary64 s a c) ∙ sign_units s _ _

-- ---- the operations
pub same_signs : (s t : Bool) → s ≡ t → unlike s t ≡ false
same_signs s t e = subst (λ (u : Bool). unlike s u ≡ false) e (self s)
  where
    self : (s : Bool) → unlike s s ≡ false
    self true = refl
    self false = refl

pub sign_add : (x y : Float) → sign x ≡ false → sign y ≡ false → sign (x ⊕ y) ≡ false
unfolding sign add
sign_add nan y p q = refl
sign_add (inf s) nan p q = refl
sign_add (inf true) (inf t) p q = no refl p
sign_add (inf false) (inf true) p q = refl
sign_add (inf false) (inf false) p q = refl
sign_add (inf s) (fin t n d) p q = p
sign_add (fin s m e) nan p q = refl
sign_add (fin s m e) (inf t) p q = q
sign_add (fin true m e) (fin t n d) p q = no refl p
sign_add (fin false m e) (fin true n d) p q = no refl q
sign_add (fin false m e) (fin false n d) p q = sign_round false (m * up e * down d + n * up d * down e) (down e * down d)

pub sign_mul : (x y : Float) → sign x ≡ sign y → sign (x ⊗ y) ≡ false
unfolding sign mul
sign_mul nan y p = refl
sign_mul (inf s) nan p = refl
sign_mul (inf s) (inf t) p = same_signs s t p
sign_mul (inf s) (fin t n d) p = sign_cond (eqb n 0) nan (inf (unlike s t)) false refl (same_signs s t p)
sign_mul (fin s m e) nan p = refl
sign_mul (fin s m e) (inf t) p = sign_cond (eqb m 0) nan (inf (unlike s t)) false refl (same_signs s t p)
sign_mul (fin s m e) (fin t n d) p = sign_round (unlike s t) (m * up e * (n * up d)) (down e * down d) ∙ same_signs s t p

pub sign_div : (x y : Float) → sign x ≡ sign y → sign (x ⊘ y) ≡ false
unfolding sign div
sign_div nan y p = refl
sign_div (inf s) nan p = refl
sign_div (inf s) (inf t) p = refl
sign_div (inf s) (fin t n d) p = same_signs s t p
sign_div (fin s m e) nan p = refl
sign_div (fin s m e) (inf t) p = same_signs s t p
sign_div (fin s m e) (fin t n d) p =
    sign_cond (eqb n 0) (cond (eqb m 0) nan (inf (unlike s t))) (round binary64 (unlike s t) (m * up e * down d) (n * up d * down e)) false
    (sign_cond (eqb m 0) nan (inf (unlike s t)) false refl (same_signs s t p)) (sign_round (unlike s t) (m * up e * down d) (n * up d * down e) ∙ same_signs s t p)

pub sign_shift : (k : ℤ) (x : Float) → sign (shift k x) ≡ sign x
unfolding sign shift
sign_shift k nan = refl
sign_shift k (inf s) = refl
sign_shift k (fin s zero e) = refl
sign_shift k (fin s (suc m) e) = refl

pub sign_sqrt : (x : Float) → sign x ≡ false → sign (sqrt x) ≡ false
unfolding sign sqrt
sign_sqrt nan p = refl
sign_sqrt (inf true) p = refl
sign_sqrt (inf false) p = refl
sign_sqrt (fin s zero e) p = p
sign_sqrt (fin true (suc m) e) p = refl
sign_sqrt (fin false (suc m) e) p = sign_shift _ (round binary64 false (sticky (radicand (suc m) e)) 1) ∙ sign_round false (sticky (radicand (suc m) e)) 1

pub sign_abs : (x : Float) → sign (abs x) ≡ false
unfolding sign abs
sign_abs nan = refl
sign_abs (inf s) = refl
sign_abs (fin s m e) = refl

pub sign_count : (n : ℕ) → sign (count n) ≡ false
unfolding of_int
sign_count n = sign_round false n 1

pub sign_sum : (n : ℕ) (f : ℕ → Float) → ((t : ℕ) → t < n → sign (f t) ≡ false) → sign (sum_to n f) ≡ false
unfolding sum_to
sign_sum n f h = kept_loop (λ s. sign s ≡ false) n (λ t s. s ⊕ f t) zero⁺ (unfold sign in refl) (λ t l s p. sign_add s (f t) p (h t l))

-- ---- it is not below zero
pub sign_not_below : (x : Float) → sign x ≡ false → lt x zero⁺ ≡ false
unfolding sign lt
sign_not_below nan p = refl
sign_not_below (inf s) p = p
sign_not_below (fin true m e) p = no refl p
sign_not_below (fin false m e) p = not_below m e
