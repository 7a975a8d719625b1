-- `means::forms::Decomposed::project` meets its contract. The invariant: every projection passed.
use Rattle.std.proofs.Common.{arith, rules}
use Rattle.leaves.proofs.Invariants.{filled_more, filled_whole, filled_none}
use Rattle.rules.specs.BayesStein.{project}
use Rattle.means.proofs.forms.Decomposed.project.Goals as goal

pub loop-e-init : goal.loop-e-init
loop-e-init c = filled_none _ _ _

pub loop-e-preserved : goal.loop-e-preserved
loop-e-preserved c = filled_more c.loop-e.invariant (omega arith) (omega arith) c.project_on.ensures

pub returns : goal.returns
unfolding project
returns c d h = rw h (filled_whole c.loop-e.invariant (omega arith) (search rules))
