-- `shift k x` is 2 ^ k times x, with no rounding. Shifts add up and undo one another; no test of finiteness and no comparison sees them, so they go
-- through neg, abs, min and max, for every value and every k. Assumes nothing.
use Rattle.std.proofs.Common.{◌≡◌, ℕ, zero, suc, ◌+◌, ◌*◌, ◌<◌, Bool, true, false, cond, ◌&&◌, ◌||◌, T, eqb, ltb, ℤ, pos, ◌+ℤ◌, neg_ℤ, sym, refl, ap, ◌∙◌, ap₂, le_of_eq, lt_of_lt_of_le, lt_of_le_of_lt, add-mul, lt_of_mul-lt-mul_right, mul-lt-mul_of_pos_right, mul-pos, zero-mul, arith, eqb→eq, ltb→lt, lt→ltb}
use native.Mathlib.Nat.{eq_of_mul-eq-mul_right}
use mathlib.Core.Bool.{beq}
use lib.IntN.{+ℤ_idr, +ℤ_assoc, +ℤ_invl}
use lib.Ieee.{Float, nan, inf, fin, up, down, neg, below, level, lt, le, eq}
use lib.Ieee.Fits.{eq→eqb, up_pos, down_pos}
use lib.Ieee.Exact.{HasValue}
use Rattle.leaves.specs.Numbers.{zero⁺, is_finite, abs, min0, larger, smaller}
use Rattle.leaves.specs.Shift.{shift}
use Rattle.leaves.proofs.Laws.{up_down}

-- ---- shifts add up
pub shift_zero : (x : Float) → shift (pos 0) x ≡ x
unfolding shift
shift_zero nan = refl
shift_zero (inf s) = refl
shift_zero (fin s zero e) = refl
shift_zero (fin s (suc m) e) = ap (fin s (suc m)) (+ℤ_idr e)

pub shift_shift : (a b : ℤ) (x : Float) → shift b (shift a x) ≡ shift (a +ℤ b) x
unfolding shift
shift_shift a b nan = refl
shift_shift a b (inf s) = refl
shift_shift a b (fin s zero e) = refl
shift_shift a b (fin s (suc m) e) = ap (fin s (suc m)) (+ℤ_assoc e a b)

-- there and back
pub shift_forth : (k : ℤ) (x : Float) → shift k (shift (neg_ℤ k) x) ≡ x
shift_forth k x = shift_shift (neg_ℤ k) k x ∙ ap (λ (z : ℤ). shift z x) (+ℤ_invl k) ∙ shift_zero x

-- ---- what no shift changes
pub shift_nan : (k : ℤ) → shift k nan ≡ nan
unfolding shift
shift_nan k = refl

pub shift_zero⁺ : (k : ℤ) → shift k zero⁺ ≡ zero⁺
unfolding shift
shift_zero⁺ k = refl

pub is_finite_shift : (k : ℤ) (x : Float) → is_finite (shift k x) ≡ is_finite x
unfolding shift is_finite
is_finite_shift k nan = refl
is_finite_shift k (inf s) = refl
is_finite_shift k (fin s zero e) = refl
is_finite_shift k (fin s (suc m) e) = refl

pub neg_shift : (k : ℤ) (x : Float) → neg (shift k x) ≡ shift k (neg x)
unfolding shift neg
neg_shift k nan = refl
neg_shift k (inf s) = refl
neg_shift k (fin s zero e) = refl
neg_shift k (fin s (suc m) e) = refl

pub abs_shift : (k : ℤ) (x : Float) → abs (shift k x) ≡ shift k (abs x)
unfolding shift abs
abs_shift k nan = refl
abs_shift k (inf s) = refl
abs_shift k (fin s zero e) = refl
abs_shift k (fin s (suc m) e) = refl

-- ---- the exponent and the value of a shifted number
abbrev pub expo : ℤ → ℕ → ℤ → ℤ
expo k zero e = e
expo k (suc m) e = e +ℤ k

pub shift_fin : (k : ℤ) (s : Bool) (m : ℕ) (e : ℤ) → shift k (fin s m e) ≡ fin s m (expo k m e)
unfolding shift
shift_fin k s zero e = refl
shift_fin k s (suc m) e = refl

pub expo_value : (k : ℤ) (m : ℕ) (e : ℤ) → m * up (expo k m e) * (down e * down k) ≡ m * up e * (up k * down (expo k m e))
expo_value k zero e = simp zero-mul
expo_value k (suc m) e = let h = ap (λ (z : ℕ). suc m * z) (up_down e k) in omega arith

times_value : (n d c dk m uk d' a : ℕ) → 0 < d → n * (d * dk) ≡ m * (uk * d') → m * c ≡ a * d → n * (c * dk) ≡ a * uk * d'
times_value n d c dk m uk d' a D p q =
    let p' = ap (λ (x : ℕ). x * c) p in
    let q' = ap (λ (x : ℕ). x * (uk * d')) q in
    eq_of_mul-eq-mul_right d D (n * (c * dk)) (a * uk * d') (omega arith)

pub shift_value : (k : ℤ) (x : Float) (s : Bool) (a c : ℕ) → HasValue x s a c → HasValue (shift k x) s (a * up k) (c * down k)
shift_value k nan s a c v = absurd v
shift_value k (inf t) s a c v = absurd v
shift_value k (fin t m e) s a c v = rw (shift_fin k t m e) (v.0, times_value (m * up (expo k m e)) (down e) c (down k) (m * up e) (up k) (down (expo k m e)) a (down_pos e) (expo_value k m e) v.1)

-- ---- comparisons: of x and y, and of a and b, where x * p is a * q and y * p is b * q
pub iff_same : (a b : Bool) → (T a → T b) → (T b → T a) → a ≡ b
iff_same true true f g = refl
iff_same true false f g = absurd (f tt)
iff_same false true f g = absurd (g tt)
iff_same false false f g = refl

lt_scaled : (x y p q a b : ℕ) → x * p ≡ a * q → y * p ≡ b * q → 0 < p → x < y → a < b
lt_scaled x y p q a b e g P h = lt_of_mul-lt-mul_right q (lt_of_le_of_lt (le_of_eq (sym e)) (lt_of_lt_of_le (mul-lt-mul_of_pos_right h P) (le_of_eq g)))

module _ (x y p q a b : ℕ) (P : 0 < p) (Q : 0 < q) (e : x * p ≡ a * q) (g : y * p ≡ b * q) where
  pub ltb_scaled : ltb x y ≡ ltb a b
  ltb_scaled = iff_same (ltb x y) (ltb a b) (λ t. lt→ltb a b (lt_scaled x y p q a b e g P (ltb→lt x y t))) (λ t. lt→ltb x y (lt_scaled a b q p x y (sym e) (sym g) Q (ltb→lt a b t)))

  eqb_scaled : eqb x y ≡ eqb a b
  eqb_scaled = iff_same (eqb x y) (eqb a b)
      (λ t. eq→eqb (eq_of_mul-eq-mul_right q Q a b (sym e ∙ ap (λ (z : ℕ). z * p) (eqb→eq x y t) ∙ g)))
      (λ t. eq→eqb (eq_of_mul-eq-mul_right p P x y (e ∙ ap (λ (z : ℕ). z * q) (eqb→eq a b t) ∙ sym g)))

none : (p q : ℕ) → 0 * p ≡ 0 * q
none p q = zero-mul p ∙ sym (zero-mul q)

pub below_scaled : (s t : Bool) (x y p q a b : ℕ) → 0 < p → 0 < q → x * p ≡ a * q → y * p ≡ b * q → below s x t y ≡ below s a t b
below_scaled false false x y p q a b P Q e g = ltb_scaled x y p q a b P Q e g
below_scaled false true x y p q a b P Q e g = refl
below_scaled true false x y p q a b P Q e g = ltb_scaled 0 (x + y) p q 0 (a + b) P Q (none p q) (add-mul x y p ∙ ap₂ (λ (u v : ℕ). u + v) e g ∙ sym (add-mul a b q))
below_scaled true true x y p q a b P Q e g = ltb_scaled y x p q b a P Q g e

pub level_scaled : (s t : Bool) (x y p q a b : ℕ) → 0 < p → 0 < q → x * p ≡ a * q → y * p ≡ b * q → level s x t y ≡ level s a t b
level_scaled s t x y p q a b P Q e g = ap₂ (λ (u v : Bool). u && (beq s t || v)) (eqb_scaled x y p q a b P Q e g) (eqb_scaled x 0 p q a 0 P Q e (none p q))

-- the two sides of a comparison: those of the shifted values, times down e * down d * down k, are the others times up k * the shifted values' downs
sides : (n d' d de dk m uk e' : ℕ) → n * (de * dk) ≡ m * (uk * e') → n * d' * (de * d * dk) ≡ m * d * (uk * e' * d')
sides n d' d de dk m uk e' h = let h' = ap (λ (x : ℕ). x * (d' * d)) h in omega arith

module _ (k : ℤ) (m : ℕ) (e : ℤ) (n : ℕ) (d : ℤ) where
  before : ℕ
  before = down e * down d * down k

  after : ℕ
  after = up k * down (expo k m e) * down (expo k n d)

  before_pos : 0 < before
  unfolding before
  before_pos = mul-pos (mul-pos (down_pos e) (down_pos d)) (down_pos k)

  after_pos : 0 < after
  unfolding after
  after_pos = mul-pos (mul-pos (up_pos k) (down_pos (expo k m e))) (down_pos (expo k n d))

  left : m * up (expo k m e) * down (expo k n d) * before ≡ m * up e * down d * after
  unfolding before after
  left = sides (m * up (expo k m e)) (down (expo k n d)) (down d) (down e) (down k) (m * up e) (up k) (down (expo k m e)) (expo_value k m e)

  right : n * up (expo k n d) * down (expo k m e) * before ≡ n * up d * down e * after
  unfolding before after
  right =
      let h = sides (n * up (expo k n d)) (down (expo k m e)) (down e) (down d) (down k) (n * up d) (up k) (down (expo k n d)) (expo_value k n d) in
      omega arith

both_shift : (k : ℤ) (x y : Float) → (lt (shift k x) (shift k y) ≡ lt x y) × (eq (shift k x) (shift k y) ≡ eq x y)
unfolding lt eq shift
both_shift k nan y = (refl, refl)
both_shift k (inf s) nan = (refl, refl)
both_shift k (inf s) (inf t) = (refl, refl)
both_shift k (inf s) (fin t zero d) = (refl, refl)
both_shift k (inf s) (fin t (suc n) d) = (refl, refl)
both_shift k (fin s zero e) nan = (refl, refl)
both_shift k (fin s (suc m) e) nan = (refl, refl)
both_shift k (fin s zero e) (inf t) = (refl, refl)
both_shift k (fin s (suc m) e) (inf t) = (refl, refl)
both_shift k (fin s m e) (fin t n d) =
    let X = m * up (expo k m e) * down (expo k n d) in
    let Y = n * up (expo k n d) * down (expo k m e) in
    let B = before_pos k m e n d in
    let A = after_pos k m e n d in
    let l = left k m e n d in
    let r = right k m e n d in
    rw (shift_fin k s m e, shift_fin k t n d)
    (below_scaled s t X Y (before k m e n d) (after k m e n d) (m * up e * down d) (n * up d * down e) B A l r, level_scaled s t X Y (before k m e n d) (after k m e n d) (m * up e * down d) (n * up d * down e) B A l r)

pub lt_shift : (k : ℤ) (x y : Float) → lt (shift k x) (shift k y) ≡ lt x y
lt_shift k x y = (both_shift k x y).0

pub eq_shift : (k : ℤ) (x y : Float) → eq (shift k x) (shift k y) ≡ eq x y
eq_shift k x y = (both_shift k x y).1

pub le_shift : (k : ℤ) (x y : Float) → le (shift k x) (shift k y) ≡ le x y
unfolding le
le_shift k x y = ap₂ ◌||◌ (lt_shift k x y) (eq_shift k x y)

-- ---- minimum and maximum
cond_shift : (k : ℤ) (b : Bool) (x y : Float) → cond b (shift k x) (shift k y) ≡ shift k (cond b x y)
cond_shift k true x y = refl
cond_shift k false x y = refl

pub larger_shift : (k : ℤ) (m x : Float) → larger (shift k m) (shift k x) ≡ shift k (larger m x)
unfolding larger
larger_shift k m x = ap (λ (b : Bool). cond b (shift k x) (shift k m)) (lt_shift k m x) ∙ cond_shift k (lt m x) x m

smaller_shift : (k : ℤ) (m x : Float) → smaller (shift k m) (shift k x) ≡ shift k (smaller m x)
unfolding smaller
smaller_shift k m x = ap (λ (b : Bool). cond b (shift k x) (shift k m)) (lt_shift k x m) ∙ cond_shift k (lt x m) x m

-- min0 y is the smaller of 0 and y, and a zero is its own shift
pub min0_shift : (k : ℤ) (y : Float) → min0 (shift k y) ≡ shift k (min0 y)
unfolding min0 smaller
min0_shift k y = ap (λ (z : Float). smaller z (shift k y)) (sym (shift_zero⁺ k)) ∙ smaller_shift k zero⁺ y
