use mathlib.Core.Path.{◌≡◌}
use lib.Dec.{ltb}
use Rattle.leaves.specs.Numbers.{zero⁺}
use Rattle.leaves.specs.Loops.{loop}
use Rattle.matrix.specs.Matrix.{at, squared, sum_row}
use Rattle.matrix.proofs.sums.off_diagonal.Given as goal

abbrev pub invariant-loop-p : goal.invariant-loop-p
invariant-loop-p l = l.s ≡ loop l.p (sum_row l.n ltb (squared (at l.a l.n))) zero⁺
