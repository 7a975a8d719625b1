-- A product and a sum of two floats are the same whichever comes first. Assumes nothing.
use Rattle.std.proofs.Common.{◌≡◌, ℕ, ◌-◌, ◌*◌, ◌<◌, ◌≤◌, Bool, true, false, cond, ◌&&◌, eqb, ltb, ◌⊎◌, refl, ap, ◌∙◌, ap₂, inl, inr, le_of_lt, mul_comm, add_comm, arith, le-ltb, lt-ltb}
use mathlib.Core.Bool.{and-true, and-false}
use lib.Ieee.{Float, nan, inf, fin, binary64, up, down, unlike, round, sum, add, mul}
use Rattle.leaves.specs.Numbers.{◌⊕◌, ◌⊗◌}
use Rattle.leaves.proofs.Whole.{le_or_lt}

-- ---- products
unlike_comm : (s t : Bool) → unlike s t ≡ unlike t s
unlike_comm true true = refl
unlike_comm true false = refl
unlike_comm false true = refl
unlike_comm false false = refl

pub ⊗-comm : (x y : Float) → x ⊗ y ≡ y ⊗ x
unfolding mul
⊗-comm nan nan = refl
⊗-comm nan (inf t) = refl
⊗-comm nan (fin t n d) = refl
⊗-comm (inf s) nan = refl
⊗-comm (inf s) (inf t) = ap inf (unlike_comm s t)
⊗-comm (inf s) (fin t n d) = ap (λ (z : Bool). cond (eqb n 0) nan (inf z)) (unlike_comm s t)
⊗-comm (fin s m e) nan = refl
⊗-comm (fin s m e) (inf t) = ap (λ (z : Bool). cond (eqb m 0) nan (inf z)) (unlike_comm s t)
⊗-comm (fin s m e) (fin t n d) =
    ap (λ (z : Bool). round binary64 z (m * up e * (n * up d)) (down e * down d)) (unlike_comm s t)
    ∙ ap₂ (λ (a c : ℕ). round binary64 (unlike t s) a c) (mul_comm (m * up e) (n * up d)) (mul_comm (down e) (down d))

-- ---- sums
-- of unlike signs
difference_comm : (s t : Bool) (x y d e : ℕ) → d ≡ e
    → cond (ltb x y) (round binary64 t (y - x) d) (round binary64 (s && ltb y x) (x - y) d) ≡ cond (ltb y x) (round binary64 s (x - y) e) (round binary64 (t && ltb x y) (y - x) e)
difference_comm s t x y d e h = go (le_or_lt x y) (le_or_lt y x)
  where
    go : (x ≤ y) ⊎ (y < x) → (y ≤ x) ⊎ (x < y)
        → cond (ltb x y) (round binary64 t (y - x) d) (round binary64 (s && ltb y x) (x - y) d) ≡ cond (ltb y x) (round binary64 s (x - y) e) (round binary64 (t && ltb x y) (y - x) e)
    go g (inr l) = rw (lt-ltb x y l, le-ltb y x (le_of_lt l), and-true t) (ap (round binary64 t (y - x)) h)
    go (inr l) (inl k) = rw (lt-ltb y x l, le-ltb x y (le_of_lt l), and-true s) (ap (round binary64 s (x - y)) h)
    go (inl l) (inl k) = let z : x - y ≡ y - x = omega arith in rw (le-ltb x y k, le-ltb y x l, and-false s, and-false t) (ap₂ (round binary64 false) z h)

sum_comm : (s t : Bool) (x y d e : ℕ) → d ≡ e → sum binary64 s x t y d ≡ sum binary64 t y s x e
unfolding sum
sum_comm true true x y d e h = λ i. round binary64 true (add_comm x y i) (h i)
sum_comm false false x y d e h = λ i. round binary64 false (add_comm x y i) (h i)
sum_comm true false x y d e h = difference_comm true false x y d e h
sum_comm false true x y d e h = difference_comm false true x y d e h

pub ⊕-comm : (x y : Float) → x ⊕ y ≡ y ⊕ x
unfolding add
⊕-comm nan nan = refl
⊕-comm nan (inf t) = refl
⊕-comm nan (fin t n d) = refl
⊕-comm (inf s) nan = refl
⊕-comm (inf true) (inf true) = refl
⊕-comm (inf true) (inf false) = refl
⊕-comm (inf false) (inf true) = refl
⊕-comm (inf false) (inf false) = refl
⊕-comm (inf s) (fin t n d) = refl
⊕-comm (fin s m e) nan = refl
⊕-comm (fin s m e) (inf t) = refl
⊕-comm (fin s m e) (fin t n d) = sum_comm s t (m * up e * down d) (n * up d * down e) (down e * down d) (down d * down e) (mul_comm (down e) (down d))
