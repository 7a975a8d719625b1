-- `tables::tables::sum` meets its contract. The invariants: the table has the sums of the periods passed, in groups and then one by one.
use Rattle.std.proofs.Common.{◌≡◌, ◌+◌, ◌*◌, ◌∙◌, ap, arith}
use lib.Ieee.{of_bits}
use Rattle.tables.specs.Rows.{summed}
use Rattle.tables.proofs.Sums.{summed_none, summed_more}
use Rattle.tables.proofs.tables.sum.Goals as goal
use Rattle.tables.proofs.tables.sum.Invariants.{step}

pub loop-group-init : goal.loop-group-init
unfolding of_bits
loop-group-init c = summed_none _ _ _ _ c.requires.1 c.fill.ensures

pub loop-group-preserved : goal.loop-group-preserved
loop-group-preserved c =
    let a = c.args in
    let added = step a.term a.z.now a.s.now in
    let k : 4 * c.loop-group.group + 4 ≡ 4 * (c.loop-group.group + 1) = omega arith in
    summed_more _ added 4 _ _ _ c.loop-group.invariant c.add_periods.ensures ∙ ap (summed _ added) k

pub loop-t-preserved : goal.loop-t-preserved
loop-t-preserved c =
    let a = c.args in
    summed_more _ (step a.term a.z.now a.s.now) 1 _ _ _ c.loop-t.invariant c.add_periods-in-loop-t.ensures
