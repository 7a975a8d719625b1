-- `leaves::sums::sum` meets its contract. The invariant: the sum of the numbers passed.
use Rattle.std.proofs.Common.{refl, arith}
use lib.Ieee.{of_bits}
use Rattle.leaves.specs.Loops.{sum_to, nth}
use Rattle.leaves.proofs.Invariants.{sum_none, sum_turn, at_end}
use Rattle.leaves.proofs.sums.sum.Goals as goal

pub loop-x-init : goal.loop-x-init
unfolding of_bits
loop-x-init c = sum_none _

pub loop-x-preserved : goal.loop-x-preserved
loop-x-preserved c = sum_turn _ _ _ _ c.loop-x.invariant refl

pub returns : goal.returns
returns c = at_end (λ k. sum_to k (nth c.args.xs.now)) _ _ _ c.loop-x.invariant (omega arith) (omega arith)
