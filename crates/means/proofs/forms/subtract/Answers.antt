-- `means::forms::subtract` meets its contract. The invariant: every difference passed.
use Rattle.std.proofs.Common.{refl, arith}
use Rattle.leaves.proofs.Invariants.{filled_more, filled_whole, filled_none}
use Rattle.means.proofs.forms.subtract.Goals as goal

pub loop-i-init : goal.loop-i-init
loop-i-init c = filled_none _ _ _

pub loop-i-preserved : goal.loop-i-preserved
loop-i-preserved c = filled_more c.loop-i.invariant (omega arith) (omega arith) refl

pub returns : goal.returns
returns c = filled_whole c.loop-i.invariant (omega arith) refl
