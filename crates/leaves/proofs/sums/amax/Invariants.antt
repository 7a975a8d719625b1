use Rattle.std.proofs.Common.{◌≡◌}
use Rattle.leaves.specs.Loops.{amax_to, nth}
use Rattle.leaves.proofs.sums.amax.Given as goal

abbrev pub invariant-loop-x : goal.invariant-loop-x
invariant-loop-x l = l.t ≡ amax_to l.x-index (nth l.xs)
