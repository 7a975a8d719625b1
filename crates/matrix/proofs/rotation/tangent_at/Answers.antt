-- `matrix::rotation::tangent_at` meets its contract: it is the tangent of what the entries give.
use mathlib.Core.Path.{◌∙◌}
use lib.Ieee.{of_bits}
use Rattle.matrix.specs.Rotation.{tangent, cotangent}
use Rattle.matrix.proofs.rotation.tangent_at.Goals as goal

pub returns : goal.returns
unfolding of_bits
returns c = c.tangent.ensures ∙ (λ i. tangent (cotangent (c.get-x.ensures i) (c.get-y.ensures i) (c.get-z.ensures i)))
