-- `tables::powers::factors` meets its contract: `cut` keeps a part of the exponent, and what is left of it is small.
use lib.Ieee.{of_bits}
use Rattle.leaves.proofs.CutRead.{step_read, left_fits, left_read}
use Rattle.tables.proofs.Factors.{factored}
use Rattle.tables.proofs.powers.factors.Goals as goal

pub overflow_sub-k : goal.overflow_sub-k
overflow_sub-k c = let s = c in left_fits s.args.k _ s.ranges.k c.cut-step.type_inv c.cut-step.ensures

pub returns : goal.returns
unfolding of_bits
returns c =
    let s = c in
    let k = s.args.k in
    let a = c.cut-step in
    factored k s.requires _ _ (rw (step_read k _ s.ranges.k a.type_inv a.ensures) at c.pow2_scaled.ensures) (rw (left_read k _ s.ranges.k a.type_inv a.ensures) at c.pow2_scaled-2.ensures)
