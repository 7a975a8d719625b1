-- `leaves::scaling::cut` meets its contract: std's clamp tests the upper bound first. The machine reads k and the result back from their bits.
use Rattle.std.proofs.Common.{◌≡◌, Bool, true, false, cond, ltb, ℤ, pos, negsuc, refl, ap, ◌∙◌, to_z-of_z}
use Rattle.std.specs.Int.{int_max, int_min}
use Rattle.leaves.specs.Scaling.{cut}
use Rattle.leaves.proofs.Ints.{back_i32}
use Rattle.leaves.proofs.scaling.cut.Goals as goal

clamped : (k : ℤ) → int_max (negsuc 1021) (int_min k (pos 1023)) ≡ cut k
unfolding cut
clamped (pos n) = go (ltb 1023 n)
  where
    go : (t : Bool) → int_max (negsuc 1021) (cond t (pos 1023) (pos n)) ≡ cond t (pos 1023) (pos n)
    go true = refl
    go false = refl
clamped (negsuc n) = refl

pub returns : goal.returns
returns c = back_i32 _ c.clamp.type_inv ∙ c.clamp.ensures.value ∙ clamped _ ∙ ap cut (to_z-of_z c.ranges.k)
