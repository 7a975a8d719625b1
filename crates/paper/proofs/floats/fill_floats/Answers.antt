-- `paper::floats::fill_floats` meets its contract. The invariant: the floats passed are filled in.
use native.Mathlib.Omega.{arith}
use Rattle.leaves.proofs.Invariants.{filled_more, filled_none}
use Rattle.paper.proofs.floats.fill_floats.Goals as goal

pub loop-i-init : goal.loop-i-init
loop-i-init c = filled_none _ _ _

pub loop-i-preserved : goal.loop-i-preserved
loop-i-preserved c = filled_more c.loop-i.invariant c.loop-i-test.true (omega arith) c.float.ensures
