-- `tables::vectors::add_products` meets its contract. The invariants: the numbers passed have their products added, and the number has those of the rows passed.
use Rattle.std.proofs.Common.{refl, ap, ◌∙◌, arith, rules}
use lib.Ieee.{nan}
use Rattle.leaves.specs.Loops.{loop}
use Rattle.leaves.proofs.Invariants.{loop_start, loop_turn, loop_end, filled_here, filled_more, filled_whole, filled_none}
use Rattle.tables.proofs.vectors.add_products.Goals as goal

pub loop-k-init : goal.loop-k-init
loop-k-init g c = filled_none _ _ _

pub loop-j-init : goal.loop-j-init
loop-j-init g c = (omega arith, loop_start _ _)

pub loop-j-preserved : goal.loop-j-preserved
loop-j-preserved g c = (omega arith, loop_turn _ _ _ _ _ c.loop-j.invariant.1 refl)

pub loop-k-preserved : goal.loop-k-preserved
loop-k-preserved g c =
    let inv = c.loop-k.invariant in
    let here = filled_here nan inv (omega arith) (omega arith) in
    filled_more inv (omega arith) (omega arith) (loop_end _ _ _ _ _ c.loop-j.invariant.1 (omega arith) ∙ ap (loop g.row.K _) here)

pub returns : goal.returns
returns g c = filled_whole c.loop-k.invariant (omega arith) (search rules)
