use mathlib.Core.Path.{◌≡◌}
use Rattle.leaves.specs.Loops.{sum_to}
use Rattle.matrix.specs.Matrix.{at}
use Rattle.matrix.proofs.sums.trace.Given as goal

abbrev pub invariant-loop-i : goal.invariant-loop-i
invariant-loop-i l = l.s ≡ sum_to l.i (λ k. at l.a l.n k k)
