-- `covariances::ledoit_wolf::intensity` meets its contract: each return is the case of `intensity_by` that the test picks.
use Rattle.std.proofs.Common.{ap, ◌∙◌}
use lib.Ieee.{Float, lt, of_bits}
use Rattle.leaves.specs.Numbers.{◌⊘◌, clamp01}
use Rattle.rules.specs.LedoitWolf.{intensity_by}
use Rattle.covariances.proofs.ledoit_wolf.intensity.Goals as goal

pub returns-then-gamma : goal.returns-then-gamma
unfolding of_bits intensity_by lt
returns-then-gamma c = let a = c.args in rw c.if-gamma.true (c.clamp01.ensures ∙ ap (λ (t : Float). clamp01 (a.error ⊘ t ⊘ a.gamma)) c.nearest_u64_to_f64-t.ensures)

pub returns-else-gamma : goal.returns-else-gamma
unfolding of_bits intensity_by lt
returns-else-gamma c = rw c.if-gamma.false
