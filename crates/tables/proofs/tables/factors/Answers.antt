-- `tables::tables::factors` meets its contract. The invariant: the rows passed have theirs.
use Rattle.std.proofs.Common.{arith}
use lib.ListN.{length-replicate}
use lib.Ieee.{Float, of_bits}
use Rattle.leaves.specs.Numbers.{zero⁺}
use Rattle.leaves.proofs.Invariants.{filled_more, filled_whole, filled_none}
use Rattle.tables.proofs.tables.factors.Goals as goal

pub loop-j-init : goal.loop-j-init
loop-j-init g c = filled_none _ _ _

pub loop-j-preserved : goal.loop-j-preserved
unfolding of_bits
loop-j-preserved g c = filled_more c.loop-j.invariant (omega arith) (omega (arith, length-replicate {A = Float} g.row.K zero⁺)) c.factor.ensures

pub returns : goal.returns
returns g c = filled_whole c.loop-j.invariant (omega arith) (length-replicate g.row.K _)
