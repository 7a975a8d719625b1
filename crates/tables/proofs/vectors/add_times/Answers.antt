-- `tables::vectors::add_times` meets its contract. The invariant: the numbers passed have their product added.
use Rattle.std.proofs.Common.{arith, rules}
use lib.Ieee.{nan}
use Rattle.leaves.proofs.Invariants.{filled_here, filled_more, filled_whole, filled_none}
use Rattle.tables.proofs.vectors.add_times.Goals as goal

pub loop-k-init : goal.loop-k-init
loop-k-init c = filled_none _ _ _

pub loop-k-preserved : goal.loop-k-preserved
loop-k-preserved c =
    let inv = c.loop-k.invariant in
    filled_more inv (omega arith) (omega arith) (cc (filled_here nan inv (omega arith) (omega arith)))

pub returns : goal.returns
returns c = filled_whole c.loop-k.invariant (omega arith) (search rules)
