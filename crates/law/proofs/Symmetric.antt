-- The sample, weighted and both semi estimates are symmetric to the last bit, as column products are. Assumes nothing.
use mathlib.Core.Path.{◌≡◌, ap, subst}
use Prim.Native.Nat.{ℕ, ◌-◌}
use mathlib.Core.Bool.{false}
use lib.Dec.{T}
use lib.Ieee.{Float}
use Rattle.leaves.specs.Numbers.{◌⊘◌, count}
use Rattle.matrix.specs.Matrix.{Matrix}
use Rattle.rules.specs.Sample.{covariance}
use Rattle.rules.specs.Weighted.{weighted_covariance}
use Rattle.rules.specs.Semi.{semicovariance, semicovariance_below}
use Rattle.rules.specs.Adjusted.{is_given, base}
use Rattle.rules.specs.declared.Estimate.{Estimate}
use Rattle.rules.specs.declared.Estimate.TheVariants.{Sample, Given, Weighted, Semi, SemiBelow}
use Rattle.rules.proofs.GramSymmetric.{gram_symmetric}

pub estimate_symmetric : (E : Estimate Float) → is_given E ≡ false → (P : ℕ) (x g : Matrix) (i j : ℕ) → base E P x g i j ≡ base E P x g j i
unfolding base covariance weighted_covariance semicovariance semicovariance_below
estimate_symmetric Sample e P x g i j = ap (λ (z : Float). z ⊘ count (P - 1)) (gram_symmetric P _ i j)
estimate_symmetric Given e P x g i j = absurd (subst T e tt)
estimate_symmetric (Weighted decay) e P x g i j = gram_symmetric P _ i j
estimate_symmetric Semi e P x g i j = ap (λ (z : Float). z ⊘ count (P - 1)) (gram_symmetric P _ i j)
estimate_symmetric (SemiBelow threshold) e P x g i j = ap (λ (z : Float). z ⊘ count P) (gram_symmetric P _ i j)
