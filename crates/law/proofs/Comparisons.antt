-- Comparisons. Of values that are not NaN x ≤ y is the opposite of y < x; of numbers that are not negative comparisons are those of their units. Assumes nothing.
use mathlib.Core.Path.{◌≡◌, refl, sym, ap, ◌∙◌, subst}
use Prim.Native.Nat.{ℕ, ◌+◌, ◌*◌, ◌≤◌, ◌<◌}
use native.Mathlib.Nat.{add_comm, le_of_eq, le_of_lt}
use native.Mathlib.Omega.{arith}
use mathlib.Core.Bool.{Bool, true, false, not, ◌&&◌, ◌||◌, and-true, or-not_self}
use lib.Dec.{T, ltb, eqb}
use lib.Ieee.{Float, nan, inf, fin, binary64, fits, lt, le, below, level, up, down, is_nan}
use borrow.Author.Tests.{not-true, not-false, lt-ltb, le-ltb, ltb-true, ltb-false, eqb-true, eqb-false}
use Rattle.leaves.specs.Numbers.{is_finite}
use Rattle.leaves.proofs.Units.{Val, val_finite, sign, mag, mag_val, lt_val}
use Rattle.leaves.proofs.Keys.{number, finite_number}

numbers : (x y : Float) → le x y ≡ true → T (number x) × T (number y)
unfolding le is_nan
numbers nan y h = absurd (subst T (sym h) tt)
numbers (inf s) nan h = absurd (subst T (sym h) tt)
numbers (inf s) (inf t) h = (tt, tt)
numbers (inf s) (fin t n d) h = (tt, tt)
numbers (fin s m e) nan h = absurd (subst T (sym h) tt)
numbers (fin s m e) (inf t) h = (tt, tt)
numbers (fin s m e) (fin t n d) h = (tt, tt)

-- of numbers, x ≤ y is the opposite of y < x
equal_or : (a b : ℕ) (c : Bool) → (c ≡ true → a ≡ b) → (c ≡ false → a ≡ b → ⊥) → (ltb a b || c) ≡ not (ltb b a)
equal_or a b c t f = go (ltb a b) refl c refl
  where
    go : (l : Bool) → ltb a b ≡ l → (d : Bool) → c ≡ d → (l || d) ≡ not (ltb b a)
    go true e d i = sym (ap not (le-ltb b a (le_of_lt (ltb-true a b e))))
    go false e true i = sym (ap not (le-ltb b a (le_of_eq (t i))))
    go false e false i = let l = ltb-false a b e in let n = f i in sym (ap not (lt-ltb b a (omega arith)))

both_zero : (a b : ℕ) → (eqb a b && eqb a 0) ≡ not (ltb 0 (a + b))
both_zero a b = go (eqb a b) refl (eqb a 0) refl
  where
    go : (c : Bool) → eqb a b ≡ c → (d : Bool) → eqb a 0 ≡ d → (c && d) ≡ not (ltb 0 (a + b))
    go true e true i = let x = eqb-true a b e in let y = eqb-true a 0 i in sym (ap not (le-ltb 0 (a + b) (omega arith)))
    go true e false i = let y = eqb-false a 0 i in sym (ap not (lt-ltb 0 (a + b) (omega arith)))
    go false e d i = let x = eqb-false a b e in sym (ap not (lt-ltb 0 (a + b) (omega arith)))

below_level : (s t : Bool) (a b : ℕ) → (below s a t b || level s a t b) ≡ not (below t b s a)
below_level false false a b = ap (λ (c : Bool). ltb a b || c) (and-true (eqb a b)) ∙ equal_or a b (eqb a b) (eqb-true a b) (eqb-false a b)
below_level false true a b = both_zero a b ∙ ap (λ (n : ℕ). not (ltb 0 n)) (add_comm a b)
below_level true false a b = ap (λ (c : Bool). ltb 0 (a + b) || c) (both_zero a b) ∙ or-not_self (ltb 0 (a + b))
below_level true true a b = ap (λ (c : Bool). ltb b a || c) (and-true (eqb a b)) ∙ equal_or b a (eqb a b) (λ e. sym (eqb-true a b e)) (λ e i. eqb-false a b e (sym i))

le_is : (x y : Float) → T (number x) → T (number y) → le x y ≡ not (lt y x)
unfolding le is_nan
le_is nan y p q = absurd p
le_is (inf s) nan p q = absurd q
le_is (inf true) (inf true) p q = refl
le_is (inf true) (inf false) p q = refl
le_is (inf false) (inf true) p q = refl
le_is (inf false) (inf false) p q = refl
le_is (inf true) (fin t n d) p q = refl
le_is (inf false) (fin t n d) p q = refl
le_is (fin s m e) nan p q = absurd q
le_is (fin s m e) (inf true) p q = refl
le_is (fin s m e) (inf false) p q = refl
le_is (fin s m e) (fin t n d) p q = below_level s t (m * up e * down d) (n * up d * down e)

pub le_or : (x y : Float) → T (number x) → T (number y) → le x y ≡ false → lt y x ≡ true
le_or x y p q h = not-false (lt y x) (sym (le_is x y p q) ∙ h)

pub not_lt : (x y : Float) → T (number x) → T (number y) → lt y x ≡ false → le x y ≡ true
not_lt x y p q h = le_is x y p q ∙ ap not h

-- x ≤ y excludes y < x, of any values
pub le_not_lt : (x y : Float) → le x y ≡ true → lt y x ≡ false
le_not_lt x y h = let q = numbers x y h in not-true (lt y x) (sym (le_is x y q.0 q.1) ∙ h)

module _ (x y : Float) {a b : ℕ} (v : Val x false a) (w : Val y false b) where
  pub lt_no : lt x y ≡ false → b ≤ a
  lt_no h = ltb-false a b (sym (lt_val x y false false a b v w) ∙ h)

  pub le_yes : le x y ≡ true → a ≤ b
  le_yes h = ltb-false b a (sym (lt_val y x false false b a w v) ∙ le_not_lt x y h)

  pub le_no : le x y ≡ false → b < a
  le_no h = ltb-true b a (sym (lt_val y x false false b a w v) ∙ le_or x y (finite_number x (val_finite x false a v)) (finite_number y (val_finite y false b w)) h)

pub plus_val : (x : Float) → T (fits binary64 x) → T (is_finite x) → sign x ≡ false → Val x false (mag x)
plus_val x t f e = subst (λ (s : Bool). Val x s (mag x)) e (mag_val x t f)
