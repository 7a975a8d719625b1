-- `covariances::sample::put_volatilities` meets its contract. The invariant: every number passed is the square root of its variance.
use Rattle.std.proofs.Common.{arith}
use Rattle.leaves.proofs.Invariants.{filled_more, filled_whole, filled_none}
use Rattle.covariances.proofs.sample.put_volatilities.Goals as goal

pub loop-i-init : goal.loop-i-init
loop-i-init c = filled_none _ _ _

pub loop-i-preserved : goal.loop-i-preserved
loop-i-preserved c = filled_more c.loop-i.invariant c.loop-i-test.true (omega arith) c.sqrt.ensures

pub returns : goal.returns
returns c = filled_whole c.loop-i.invariant c.loop-i-test.false c.requires.1
