-- `tables::rows::each` meets its contract. The invariant: the numbers passed are f of theirs.
use Rattle.std.proofs.Common.{arith, rules}
use Rattle.leaves.proofs.Invariants.{filled_more, filled_whole, filled_none}
use Rattle.tables.proofs.rows.each.Goals as goal

pub loop-k-init : goal.loop-k-init
loop-k-init g c h p = filled_none _ _ _

pub loop-k-preserved : goal.loop-k-preserved
loop-k-preserved g c h p = filled_more (c.loop-k.invariant h p) (omega arith) (omega arith) (p _ _ _ c.f.ensures)

pub returns : goal.returns
returns g c h p = filled_whole (c.loop-k.invariant h p) (omega arith) (search rules)
