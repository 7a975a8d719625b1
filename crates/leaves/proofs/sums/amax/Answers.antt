-- `leaves::sums::amax` meets its contract. The invariant: the largest size of the numbers passed.
use Rattle.std.proofs.Common.{arith}
use lib.Ieee.{of_bits}
use Rattle.leaves.specs.Loops.{amax_to, nth}
use Rattle.leaves.proofs.Invariants.{amax_none, amax_turn, at_end}
use Rattle.leaves.proofs.sums.amax.Goals as goal

pub loop-x-init : goal.loop-x-init
unfolding of_bits
loop-x-init c = amax_none _

pub loop-x-preserved : goal.loop-x-preserved
loop-x-preserved c = amax_turn _ _ _ _ _ c.loop-x.invariant c.abs.ensures c.larger-t.ensures

pub returns : goal.returns
returns c = at_end (λ k. amax_to k (nth c.args.xs.now)) _ _ _ c.loop-x.invariant (omega arith) (omega arith)
