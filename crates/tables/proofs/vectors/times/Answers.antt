-- `tables::vectors::times` meets its contract. The invariant: the numbers passed are products with a.
use Rattle.std.proofs.Common.{arith, rules}
use lib.Ieee.{nan}
use Rattle.leaves.proofs.Invariants.{filled_here, filled_more, filled_whole, filled_none}
use Rattle.tables.proofs.vectors.times.Goals as goal

pub loop-y-init : goal.loop-y-init
loop-y-init c = filled_none _ _ _

pub loop-y-preserved : goal.loop-y-preserved
loop-y-preserved c = let inv = c.loop-y.invariant in filled_more inv (omega arith) (omega arith) (cc (filled_here nan inv (omega arith) (omega arith)))

pub returns : goal.returns
returns c = filled_whole c.loop-y.invariant (omega arith) (search rules)
