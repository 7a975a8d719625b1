-- `parts::leaf::leaf_pow2_scaled` meets its contract: k is what the machine reads back from its bits.
use mathlib.Core.Path.{ap, ◌∙◌}
use mir.Facts.{to_z-of_z}
use Rattle.leaves.specs.Scaling.{pow2_scaled}
use Rattle.parts.proofs.leaf.leaf_pow2_scaled.Goals as goal

pub returns : goal.returns
returns c = c.pow2_scaled.ensures ∙ ap (pow2_scaled c.args.x) (to_z-of_z c.ranges.k)
