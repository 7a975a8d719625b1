-- The sum, the product and the quotient of values in units: each is the exact result, n / d units, rounded once (`add_rounded`, `mul_rounded`, `div_rounded`). With `near_error` this bounds every
-- operation's error, and with `near_most` and `near_least` its size. The quotient of two values shifted alike is the same float, with no condition (`div_alike`). And which operands of a
-- finite result are finite. Assumes nothing.
use Rattle.std.proofs.Common.{◌≡◌, ℕ, zero, suc, ◌+◌, ◌-◌, ◌*◌, ◌<◌, ◌≤◌, Bool, true, false, cond, ◌&&◌, T, eqb, ltb, ℤ, sym, refl, ap, ◌∙◌, ap₂, lt_irrefl, zero-lt-suc, mul_comm, add-mul, mul-pos, one-mul, mul-one, arith, ltb-false, ltb-true}
use native.Mathlib.Nat.{mul-mul-mul_comm, mul-sub, eq_of_mul-eq-mul_right}
use mathlib.Core.Bool.{beq}
use lib.Dec.{eqb-suc-zero}
use lib.Ieee.{Float, nan, inf, fin, binary64, up, down, unlike, round, sum, add, mul, div}
use lib.Ieee.Fits.{up_pos, down_pos}
use lib.Ieee.Positive.{first_pos}
use lib.Ieee.Scale.{round_same}
use Rattle.leaves.specs.Numbers.{◌⊕◌, ◌⊗◌, ◌⊘◌, is_finite}
use Rattle.leaves.specs.Shift.{shift}
use Rattle.leaves.proofs.Shift.{expo, shift_fin, expo_value, ltb_scaled}
use Rattle.leaves.proofs.Units.{U, U_pos, Val, rounded, one_side_of, other_side_of}

-- ---- the sum
-- ±a + ±b: its sign and its size
abbrev pub sum_sign : Bool → ℕ → Bool → ℕ → Bool
sum_sign s a t b = cond (beq s t) s (cond (ltb a b) t (s && ltb b a))

abbrev pub distance : ℕ → ℕ → ℕ
distance a b = a - b + (b - a)

abbrev pub sum_size : Bool → ℕ → Bool → ℕ → ℕ
sum_size s a t b = cond (beq s t) (a + b) (distance a b)

sum_is : (s : Bool) (a : ℕ) (t : Bool) (b c : ℕ) → sum binary64 s a t b c ≡ round binary64 (sum_sign s a t b) (sum_size s a t b) c
unfolding sum
sum_is s a t b c = go (beq s t) (ltb a b) refl
  where
    go : (x y : Bool) → ltb a b ≡ y
        → cond x (round binary64 s (a + b) c) (cond y (round binary64 t (b - a) c) (round binary64 (s && ltb b a) (a - b) c)) ≡ round binary64 (cond x s (cond y t (s && ltb b a))) (cond x (a + b) (distance a b)) c
    go true y e = refl
    go false true e = let l = ltb-true a b e in ap (λ (z : ℕ). round binary64 t z c) (omega arith)
    go false false e = let l = ltb-false a b e in ap (λ (z : ℕ). round binary64 (s && ltb b a) z c) (omega arith)

sub_mul : (y x p : ℕ) → (y - x) * p ≡ y * p - x * p
sub_mul y x p = mul_comm (y - x) p ∙ mul-sub p y x ∙ ap₂ (λ (u v : ℕ). u - v) (mul_comm p y) (mul_comm p x)

-- of x / q and y / q, which are a / p and b / p
module _ (s t : Bool) (x y p q a b : ℕ) (P : 0 < p) (Q : 0 < q) (e : x * p ≡ a * q) (g : y * p ≡ b * q) where
  sum_sign_scaled : sum_sign s x t y ≡ sum_sign s a t b
  sum_sign_scaled = ap₂ (λ (u v : Bool). cond (beq s t) s (cond u t (s && v))) (ltb_scaled x y p q a b P Q e g) (ltb_scaled y x p q b a P Q g e)

  sum_size_scaled : sum_size s x t y * p ≡ sum_size s a t b * q
  sum_size_scaled = go (beq s t)
    where
      go : (u : Bool) → cond u (x + y) (distance x y) * p ≡ cond u (a + b) (distance a b) * q
      go true = add-mul x y p ∙ ap₂ (λ (u v : ℕ). u + v) e g ∙ sym (add-mul a b q)
      go false =
          add-mul (x - y) (y - x) p ∙ ap₂ (λ (u v : ℕ). u + v) (sub_mul x y p ∙ ap₂ (λ (u v : ℕ). u - v) e g ∙ sym (sub_mul a b q)) (sub_mul y x p ∙ ap₂ (λ (u v : ℕ). u - v) g e ∙ sym (sub_mul b a q))
          ∙ sym (add-mul (a - b) (b - a) q)

pub sum_sign_times : (s t : Bool) (a b k : ℕ) → 0 < k → sum_sign s (a * k) t (b * k) ≡ sum_sign s a t b
sum_sign_times s t a b k K = sum_sign_scaled s t (a * k) (b * k) 1 k a b (zero-lt-suc 0) K (mul-one (a * k)) (mul-one (b * k))

pub sum_size_times : (s t : Bool) (a b k : ℕ) → 0 < k → sum_size s (a * k) t (b * k) ≡ sum_size s a t b * k
sum_size_times s t a b k K = sym (mul-one (sum_size s (a * k) t (b * k))) ∙ sum_size_scaled s t (a * k) (b * k) 1 k a b (zero-lt-suc 0) K (mul-one (a * k)) (mul-one (b * k))

pub sum_size_le : (s t : Bool) (a b : ℕ) → sum_size s a t b ≤ a + b
sum_size_le s t a b = go (beq s t)
  where
    go : (u : Bool) → cond u (a + b) (distance a b) ≤ a + b
    go true = omega arith
    go false = omega arith

pub add_rounded : (x y : Float) (s t : Bool) (a b : ℕ) → Val x s a → Val y t b → x ⊕ y ≡ rounded (sum_sign s a t b) (sum_size s a t b) 1
unfolding add
add_rounded nan y s t a b v w = absurd v
add_rounded (inf u) y s t a b v w = absurd v
add_rounded (fin u m e) nan s t a b v w = absurd w
add_rounded (fin u m e) (inf r) s t a b v w = absurd w
add_rounded (fin u m e) (fin r n h) s t a b v w =
    let X = m * up e * down h in
    let Y = n * up h * down e in
    let D = down e * down h in
    let D-pos : 0 < D = mul-pos (down_pos e) (down_pos h) in
    let p = one_side_of m e h a v.1 in
    let q = other_side_of n e h b w.1 in
    ap₂ (λ (y z : Bool). sum binary64 y X z Y D) v.0 w.0 ∙ sum_is s X t Y D
    ∙ ap (λ (z : Bool). round binary64 z (sum_size s X t Y) D) (sum_sign_scaled s t X Y U D a b U_pos D-pos p q)
    ∙ round_same binary64 (sum_sign s a t b) (sum_size s X t Y) D (sum_size s a t b) (1 * U) D-pos (rw (one-mul U) U_pos) (rw (one-mul U) (sum_size_scaled s t X Y U D a b U_pos D-pos p q))

-- ---- the product
pub mul_rounded : (x y : Float) (s t : Bool) (a b : ℕ) → Val x s a → Val y t b → x ⊗ y ≡ rounded (unlike s t) (a * b) U
unfolding mul
mul_rounded nan y s t a b v w = absurd v
mul_rounded (inf u) y s t a b v w = absurd v
mul_rounded (fin u m e) nan s t a b v w = absurd w
mul_rounded (fin u m e) (inf r) s t a b v w = absurd w
mul_rounded (fin u m e) (fin r n h) s t a b v w =
    ap₂ (λ (y z : Bool). round binary64 (unlike y z) (m * up e * (n * up h)) (down e * down h)) v.0 w.0
    ∙ round_same binary64 (unlike s t) (m * up e * (n * up h)) (down e * down h) (a * b) (U * U) (mul-pos (down_pos e) (down_pos h)) (mul-pos U_pos U_pos)
    (mul-mul-mul_comm (m * up e) (n * up h) U U ∙ ap₂ (λ (y z : ℕ). y * z) v.1 w.1 ∙ mul-mul-mul_comm a (down e) b (down h))

-- ---- the quotient
-- by what is not zero
div_fin : (s t : Bool) (m n : ℕ) (e d : ℤ) → 0 < n → fin s m e ⊘ fin t n d ≡ round binary64 (unlike s t) (m * up e * down d) (n * up d * down e)
unfolding div
div_fin s t m zero e d h = absurd (lt_irrefl 0 h)
div_fin s t m (suc n) e d h = ap (λ (z : Bool). cond z (cond (eqb m 0) nan (inf (unlike s t))) (round binary64 (unlike s t) (m * up e * down d) (suc n * up d * down e))) (eqb-suc-zero n)

pub div_rounded : (x y : Float) (s t : Bool) (a b : ℕ) → Val x s a → Val y t b → 0 < b → x ⊘ y ≡ rounded (unlike s t) (a * U) b
div_rounded nan y s t a b v w B = absurd v
div_rounded (inf u) y s t a b v w B = absurd v
div_rounded (fin u m e) nan s t a b v w B = absurd w
div_rounded (fin u m e) (inf r) s t a b v w B = absurd w
div_rounded (fin u m e) (fin r n d) s t a b v w B =
    let N : 0 < n * up d = first_pos (n * up d) U (rw w.1 (mul-pos B (down_pos d))) in
    div_fin u r m n e d (first_pos n (up d) N)
    ∙ ap₂ (λ (y z : Bool). round binary64 (unlike y z) (m * up e * down d) (n * up d * down e)) v.0 w.0
    ∙ round_same binary64 (unlike s t) (m * up e * down d) (n * up d * down e) (a * U) (b * U) (mul-pos N (down_pos e)) (mul-pos B U_pos) (crossed (m * up e) (down d) (n * up d) (down e) a b U v.1 w.1)
  where
    crossed : (x d y e a b l : ℕ) → x * l ≡ a * e → y * l ≡ b * d → x * d * (b * l) ≡ a * l * (y * e)
    crossed x d y e a b l p q = let p' = ap (λ (z : ℕ). z * (d * b)) p in let q' = ap (λ (z : ℕ). z * (a * e)) q in omega arith

-- shifted alike, the quotient is the same, of any values
div_alike_fin : (k : ℤ) (s t : Bool) (m n : ℕ) (e d : ℤ) → 0 < n → shift k (fin s m e) ⊘ shift k (fin t n d) ≡ fin s m e ⊘ fin t n d
div_alike_fin k s t m n e d N =
    let E = expo k m e in
    let D = expo k n d in
    let pos-at : (z : ℤ) → 0 < n * up z = λ z. mul-pos N (up_pos z) in
    rw (shift_fin k s m e, shift_fin k t n d)
    (div_fin s t m n E D N
    ∙ round_same binary64 (unlike s t) (m * up E * down D) (n * up D * down E) (m * up e * down d) (n * up d * down e) (mul-pos (pos-at D) (down_pos E)) (mul-pos (pos-at d) (down_pos e))
    (crossed (m * up E) (down D) (n * up d) (down e) (m * up e) (down d) (n * up D) (down E) (down k) (up k) (mul-pos (down_pos k) (up_pos k)) (expo_value k m e) (expo_value k n d))
    ∙ sym (div_fin s t m n e d N))
  where
    crossed : (M' d' N de M dd N' e' dk uk : ℕ) → 0 < dk * uk → M' * (de * dk) ≡ M * (uk * e') → N' * (dd * dk) ≡ N * (uk * d') → M' * d' * (N * de) ≡ M * dd * (N' * e')
    crossed M' d' N de M dd N' e' dk uk P p q =
        let p' = ap (λ (z : ℕ). z * (d' * N * uk)) p in
        let q' = ap (λ (z : ℕ). z * (M * e' * uk)) q in
        eq_of_mul-eq-mul_right (dk * uk) P (M' * d' * (N * de)) (M * dd * (N' * e')) (omega arith)

pub div_alike : (k : ℤ) (x y : Float) → shift k x ⊘ shift k y ≡ x ⊘ y
unfolding div shift
div_alike k nan y = refl
div_alike k (inf s) nan = refl
div_alike k (inf s) (inf t) = refl
div_alike k (inf s) (fin t zero d) = refl
div_alike k (inf s) (fin t (suc n) d) = refl
div_alike k (fin s zero e) nan = refl
div_alike k (fin s (suc m) e) nan = refl
div_alike k (fin s zero e) (inf t) = refl
div_alike k (fin s (suc m) e) (inf t) = refl
div_alike k (fin s zero e) (fin t zero d) = refl
div_alike k (fin s (suc m) e) (fin t zero d) = refl
div_alike k (fin s m e) (fin t (suc n) d) = div_alike_fin k s t m (suc n) e d (zero-lt-suc n)

-- ---- a finite sum has finite terms, a finite product finite factors, and a finite quotient a finite dividend
pub add_finite : (x y : Float) → T (is_finite (x ⊕ y)) → T (is_finite x) × T (is_finite y)
unfolding add is_finite
add_finite nan y t = absurd t
add_finite (inf s) nan t = absurd t
add_finite (inf true) (inf true) t = absurd t
add_finite (inf true) (inf false) t = absurd t
add_finite (inf false) (inf true) t = absurd t
add_finite (inf false) (inf false) t = absurd t
add_finite (inf s) (fin r n d) t = absurd t
add_finite (fin s m e) nan t = absurd t
add_finite (fin s m e) (inf r) t = absurd t
add_finite (fin s m e) (fin r n d) t = (tt, tt)

neither : (b s : Bool) → T (is_finite (cond b nan (inf s))) → ⊥
unfolding is_finite
neither true s t = t
neither false s t = t

pub mul_finite : (x y : Float) → T (is_finite (x ⊗ y)) → T (is_finite x) × T (is_finite y)
unfolding mul is_finite
mul_finite nan y t = absurd t
mul_finite (inf s) nan t = absurd t
mul_finite (inf s) (inf r) t = absurd t
mul_finite (inf s) (fin r n d) t = absurd (neither (eqb n 0) (unlike s r) t)
mul_finite (fin s m e) nan t = absurd t
mul_finite (fin s m e) (inf r) t = absurd (neither (eqb m 0) (unlike s r) t)
mul_finite (fin s m e) (fin r n d) t = (tt, tt)

pub div_finite : (x y : Float) → T (is_finite (x ⊘ y)) → T (is_finite x)
unfolding div is_finite
div_finite nan y t = absurd t
div_finite (inf s) nan t = absurd t
div_finite (inf s) (inf r) t = absurd t
div_finite (inf s) (fin r n d) t = absurd t
div_finite (fin s m e) y t = tt
