-- `matrix::sums::off_diagonal` meets its contract. The invariant: the sum of the rows passed.
use native.Mathlib.Omega.{arith}
use lib.Ieee.{of_bits}
use Rattle.leaves.proofs.Invariants.{loop_turn, loop_end, loop_start}
use Rattle.matrix.specs.Matrix.{sum_over}
use Rattle.matrix.specs.Jacobi.{off_diagonal}
use Rattle.matrix.proofs.sums.off_diagonal.Goals as goal

pub loop-p-init : goal.loop-p-init
unfolding of_bits
loop-p-init c = loop_start _ _

pub loop-p-preserved : goal.loop-p-preserved
loop-p-preserved c = loop_turn _ _ _ _ _ c.loop-p.invariant c.off_row-s.ensures

pub returns : goal.returns
unfolding off_diagonal sum_over
returns c = loop_end _ _ _ _ _ c.loop-p.invariant (omega arith)
