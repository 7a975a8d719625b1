use Rattle.std.proofs.Common.{◌≡◌}
use Rattle.leaves.specs.Loops.{sum_to, nth}
use Rattle.leaves.proofs.sums.sum.Given as goal

abbrev pub invariant-loop-x : goal.invariant-loop-x
invariant-loop-x l = l.t ≡ sum_to l.x-index (nth l.xs)
