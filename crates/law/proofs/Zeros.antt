-- Zeros of either sign, which sums, products and quotients keep, and numbers that are not below zero, infinity among them, which stay so and are not below a zero. Assumes nothing.
use mathlib.Core.Path.{◌≡◌, refl, sym, ap, ap₂, ◌∙◌, subst}
use Prim.Native.Nat.{ℕ, zero, suc, ◌+◌, ◌*◌, ◌^◌, ◌<◌, zero-le}
use native.Mathlib.Nat.{le_antisymm, lt_of_le_of_lt, zero-mul}
use native.Mathlib.Omega.{arith}
use mathlib.Core.Bool.{Bool, true, false, cond}
use lib.Dec.{T, ltb, lit≤, lit<}
use lib.Pow.{pow_pos}
use lib.IntN.{ℤ, pos, negsuc}
use lib.Ieee.{Float, nan, inf, fin, binary64, up, down, unlike, odd, units, round, sum, add, mul, lt, le, eq, fits, is_nan}
use lib.Ieee.Fits.{mul-fits, div-fits, round_is}
use Rattle.leaves.specs.Numbers.{◌⊕◌, ◌⊗◌, ◌⊘◌, zero⁺, half, two, ε, is_finite}
use Rattle.leaves.specs.Root.{sqrt}
use Rattle.leaves.specs.Shift.{shift}
use Rattle.leaves.proofs.Laws.{zero_exp}
use Rattle.leaves.proofs.Commutative.{⊗-comm}
use Rattle.leaves.proofs.Zero.{Zero, no, zero_is_zero, other_is_not}
use Rattle.leaves.proofs.Rounding.{near, near_most, representable_small}
use Rattle.leaves.proofs.Units.{one_bits, top_bits, U, U_pos, sign, mag, Val, mag_val, zero_val, zero_finite, val_unique, rounded, rounded_val, pow_under_Top}
use Rattle.leaves.proofs.Arithmetic.{mul_rounded, div_rounded}
use Rattle.leaves.proofs.Signs.{sign_add, sign_mul, sign_sqrt, sign_not_below}
use Rattle.leaves.proofs.Keys.{number}
use Rattle.law.proofs.Comparisons.{not_lt}

-- ---- zeros of either sign
pub zero_is : (x : Float) → T (fits binary64 x) → eq x zero⁺ ≡ true → Zero x
zero_is nan t e = absurd (unfold eq in subst T (sym e) tt)
zero_is (inf s) t e = absurd (unfold eq in subst T (sym e) tt)
zero_is (fin s zero d) t e = (s, ap (fin s zero) (zero_exp binary64 s d t))
zero_is (fin s (suc m) d) t e = no e (other_is_not s m d)

pub zero_add : (x y : Float) → Zero x → Zero y → Zero (x ⊕ y)
zero_add x y p q = let w = go p.0 q.0 in (w.0, ap₂ (λ (x y : Float). x ⊕ y) p.1 q.1 ∙ w.1)
  where
    go : (s t : Bool) → Zero (fin s zero (pos 0) ⊕ fin t zero (pos 0))
    go true true = unfold add sum round in (true, refl)
    go true false = unfold add sum round in (false, refl)
    go false true = unfold add sum round in (false, refl)
    go false false = unfold add sum round in (false, refl)

pub is_zero : (x : Float) → Zero x → eq x zero⁺ ≡ true
is_zero x p = ap (λ (x : Float). eq x zero⁺) p.1 ∙ zero_is_zero p.0 (pos 0)

-- what rounds 0 is a zero
zero_rounded : (x : Float) (u : Bool) (d : ℕ) → T (fits binary64 x) → 0 < d → x ≡ rounded u 0 d → Zero x
zero_rounded x u d t h e = (u, val_unique x (fin u zero (pos 0)) u 0 t (zero_finite u).0 (subst (λ (w : Float). Val w u 0) (sym e) v) (zero_val u (pos 0)))
  where
    nothing : near 0 d ≡ 0
    nothing = le_antisymm (near_most 0 d 0 h (representable_small 0 (pow_pos 53)) (omega arith)) zero-le

    v : Val (rounded u 0 d) u 0
    v = subst (Val (rounded u 0 d) u) nothing (rounded_val u 0 d h (rw nothing (lt_of_le_of_lt zero-le (pow_under_Top 0 (lit≤ tt)))))

-- times a number, and over one that is not zero
module _ (x y : Float) (p : Zero x) (t : T (fits binary64 y)) (f : T (is_finite y)) where
  zero_times : Zero (x ⊗ y)
  zero_times = zero_rounded (x ⊗ y) (unlike p.0 (sign y)) U (mul-fits binary64 x y) U_pos
      (ap (λ (z : Float). z ⊗ y) p.1 ∙ mul_rounded (fin p.0 zero (pos 0)) y p.0 (sign y) 0 (mag y) (zero_val p.0 (pos 0)) (mag_val y t f) ∙ ap (λ (n : ℕ). rounded (unlike p.0 (sign y)) n U) (zero-mul (mag y)))

  pub zero_over : 0 < mag y → Zero (x ⊘ y)
  zero_over h = zero_rounded (x ⊘ y) (unlike p.0 (sign y)) (mag y) (div-fits binary64 x y) h
      (ap (λ (z : Float). z ⊘ y) p.1 ∙ div_rounded (fin p.0 zero (pos 0)) y p.0 (sign y) 0 (mag y) (zero_val p.0 (pos 0)) (mag_val y t f) h ∙ ap (λ (n : ℕ). rounded (unlike p.0 (sign y)) n (mag y)) (zero-mul U))

pub zero_square : (x : Float) → Zero x → Zero (x ⊗ x)
zero_square x p = let q = zero_finite p.0 in zero_times x x p (rw p.1 q.0) (rw p.1 q.1)

pub zero_half : (x : Float) → Zero x → Zero (x ⊗ half)
zero_half x p = zero_times x half p (unfold fits in tt) (unfold is_finite in tt)

pub zero_double : (x : Float) → Zero x → Zero (two ⊗ x)
zero_double x p = subst Zero (⊗-comm x two) (zero_times x two p (unfold fits in tt) (unfold is_finite in tt))

pub zero_average : (x : Float) → Zero x → Zero (x ⊘ two)
zero_average x p = zero_over x two p (unfold fits in tt) (unfold is_finite in tt) (unfold mag U in lit< tt)

-- ---- numbers that are not below zero, infinity among them
abbrev pub Plus : Float → Type 0
Plus x = T (number x) × (sign x ≡ false)

number_cond : (b : Bool) (x y : Float) → T (number x) → T (number y) → T (number (cond b x y))
number_cond true x y p q = p
number_cond false x y p q = q

number_units : (s : Bool) (q k : ℕ) → T (number (units binary64 s q k))
unfolding units is_nan
number_units s q k = number_cond (ltb (q * 2 ^ k) (2 ^ suc top_bits)) (odd 54 s q k one_bits) (inf s) (go q) tt
  where
    go : (q : ℕ) → T (number (odd 54 s q k one_bits))
    go zero = tt
    go (suc q) = tt

number_round : (s : Bool) (a c : ℕ) → T (number (round binary64 s a c))
number_round s a c = rw (round_is binary64 s a c) (number_units s _ _)

number_sum : (s t : Bool) (a b c : ℕ) → T (number (sum binary64 s a t b c))
unfolding sum
number_sum true true a b c = number_round true _ c
number_sum true false a b c = number_cond (ltb a b) _ _ (number_round _ _ c) (number_round _ _ c)
number_sum false true a b c = number_cond (ltb a b) _ _ (number_round _ _ c) (number_round _ _ c)
number_sum false false a b c = number_round false _ c

number_plus : (s t : Bool) (m n : ℕ) (e d : ℤ) → T (number (fin s m e ⊕ fin t n d))
unfolding add
number_plus s t m n e d = number_sum s t (m * up e * down d) (n * up d * down e) (down e * down d)

number_times : (s t : Bool) (m n : ℕ) (e d : ℤ) → T (number (fin s m e ⊗ fin t n d))
unfolding mul
number_times s t m n e d = number_round (unlike s t) (m * up e * (n * up d)) (down e * down d)

pub number_zero_plus : (x : Float) → T (number x) → T (number (zero⁺ ⊕ x))
unfolding add is_nan
number_zero_plus nan n = n
number_zero_plus (inf s) n = tt
number_zero_plus (fin s m e) n = number_plus false s 0 m (pos 0) e

pub number_twice : (x : Float) → T (number x) → T (number (x ⊕ x))
unfolding add is_nan
number_twice nan n = n
number_twice (inf true) n = tt
number_twice (inf false) n = tt
number_twice (fin s m e) n = number_plus s s m m e e

pub number_half : (x : Float) → T (number x) → T (number (x ⊗ half))
unfolding mul is_nan
number_half nan n = n
number_half (inf s) n = tt
number_half (fin s m e) n = number_times s false m 1 e (negsuc 0)

number_square : (x : Float) → T (number x) → T (number (x ⊗ x))
unfolding mul is_nan
number_square nan n = n
number_square (inf s) n = tt
number_square (fin s m e) n = number_times s s m m e e

pub plus_square : (x : Float) → T (number x) → Plus (x ⊗ x)
plus_square x n = (number_square x n, sign_mul x x refl)

pub plus_add : (x y : Float) → Plus x → Plus y → Plus (x ⊕ y)
unfolding add sign is_nan
plus_add x y p q = (go x y p.0 q.0 p.1 q.1, sign_add x y p.1 q.1)
  where
    go : (x y : Float) → T (number x) → T (number y) → sign x ≡ false → sign y ≡ false → T (number (x ⊕ y))
    go nan y a b p q = absurd a
    go (inf s) nan a b p q = absurd b
    go (inf true) (inf t) a b p q = no refl p
    go (inf false) (inf true) a b p q = no refl q
    go (inf false) (inf false) a b p q = tt
    go (inf s) (fin t n d) a b p q = tt
    go (fin s m e) nan a b p q = absurd b
    go (fin s m e) (inf t) a b p q = tt
    go (fin true m e) (fin t n d) a b p q = no refl p
    go (fin false m e) (fin true n d) a b p q = no refl q
    go (fin false m e) (fin false n d) a b p q = number_round false (m * up e * down d + n * up d * down e) (down e * down d)

number_shift : (k : ℤ) (x : Float) → T (number x) → T (number (shift k x))
unfolding shift is_nan
number_shift k nan n = n
number_shift k (inf s) n = tt
number_shift k (fin s zero e) n = tt
number_shift k (fin s (suc m) e) n = tt

number_sqrt : (x : Float) → T (number x) → sign x ≡ false → T (number (sqrt x))
unfolding sqrt sign is_nan
number_sqrt nan n p = n
number_sqrt (inf true) n p = no refl p
number_sqrt (inf false) n p = tt
number_sqrt (fin s zero e) n p = tt
number_sqrt (fin true (suc m) e) n p = no refl p
number_sqrt (fin false (suc m) e) n p = number_shift _ (round binary64 false _ 1) (number_round false _ 1)

number_epsilon : (x : Float) → T (number x) → T (number (ε ⊗ x))
unfolding mul is_nan
number_epsilon nan n = n
number_epsilon (inf s) n = tt
number_epsilon (fin s m e) n = number_times false s 1 m (negsuc 51) e

pub plus_tolerance : (x : Float) → Plus x → Plus (ε ⊗ sqrt x)
plus_tolerance x p = (number_epsilon (sqrt x) (number_sqrt x p.0 p.1), sign_mul ε (sqrt x) (unfold sign in sym (sign_sqrt x p.1)))

-- nothing of them is below a zero
never_below : (s : Bool) (y : Float) → sign y ≡ false → lt y (fin s zero (pos 0)) ≡ false
unfolding lt sign
never_below false y q = sign_not_below y q
never_below true nan q = refl
never_below true (inf true) q = no refl q
never_below true (inf false) q = refl
never_below true (fin true m e) q = no refl q
never_below true (fin false m e) q = refl

pub zero_below : (s : Bool) (y : Float) → Plus y → le (fin s zero (pos 0)) y ≡ true
unfolding is_nan
zero_below s y p = not_lt (fin s zero (pos 0)) y tt p.0 (never_below s y p.1)
