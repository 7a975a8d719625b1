-- `covariances::weighted::put_roots` meets its contract. The invariant: the numbers passed are the square roots.
use Rattle.std.proofs.Common.{arith, rules}
use Rattle.leaves.proofs.Invariants.{filled_more, filled_whole, filled_none}
use Rattle.covariances.proofs.weighted.put_roots.Goals as goal

pub loop-t-init : goal.loop-t-init
loop-t-init c = filled_none _ _ _

pub loop-t-preserved : goal.loop-t-preserved
loop-t-preserved c = filled_more c.loop-t.invariant (omega arith) (omega arith) c.sqrt.ensures

pub returns : goal.returns
returns c = filled_whole c.loop-t.invariant (omega arith) (search rules)
