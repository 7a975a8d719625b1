use mathlib.Core.Path.{◌≡◌}
use lib.Dec.{ltb}
use Rattle.matrix.specs.Matrix.{at, squared, sum_row}
use Rattle.matrix.proofs.sums.off_row.Given as goal

abbrev pub invariant-loop-q : goal.invariant-loop-q
invariant-loop-q l = l.s ≡ sum_row l.q ltb (squared (at l.a l.n)) l.p l.sum
