-- NaN spreads: a sum, a difference or a product of which one number is NaN is NaN. Assumes nothing.
use Rattle.std.proofs.Common.{◌≡◌, ◌⊎◌, refl, ap, ◌∙◌, inl, inr}
use lib.Ieee.{Float, nan, inf, fin, neg, add, sub, mul}
use Rattle.leaves.specs.Numbers.{◌⊕◌, ◌⊖◌, ◌⊗◌}

-- as the second of two
nan_second : (x : Float) → (x ⊕ nan ≡ nan) × (x ⊗ nan ≡ nan)
unfolding add mul
nan_second nan = (refl, refl)
nan_second (inf s) = (refl, refl)
nan_second (fin s m e) = (refl, refl)

pub nan_mul : (x y : Float) → (x ≡ nan) ⊎ (y ≡ nan) → x ⊗ y ≡ nan
unfolding mul
nan_mul x y (inl e) = ap (λ (z : Float). z ⊗ y) e
nan_mul x y (inr e) = ap (λ (z : Float). x ⊗ z) e ∙ (nan_second x).1

pub nan_add : (x y : Float) → (x ≡ nan) ⊎ (y ≡ nan) → x ⊕ y ≡ nan
unfolding add
nan_add x y (inl e) = ap (λ (z : Float). z ⊕ y) e
nan_add x y (inr e) = ap (λ (z : Float). x ⊕ z) e ∙ (nan_second x).0

pub nan_sub : (x y : Float) → (x ≡ nan) ⊎ (y ≡ nan) → x ⊖ y ≡ nan
unfolding sub neg
nan_sub x y (inl e) = nan_add x (neg y) (inl e)
nan_sub x y (inr e) = nan_add x (neg y) (inr (ap neg e))
