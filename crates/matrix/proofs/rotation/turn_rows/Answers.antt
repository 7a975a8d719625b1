-- `matrix::rotation::turn_rows` meets its contract. The invariant: the columns passed are turned.
use native.Mathlib.Omega.{arith}
use Rattle.leaves.proofs.Invariants.{loop_turn, loop_end, loop_start}
use Rattle.leaves.proofs.Cells.{row}
use Rattle.matrix.specs.Rotation.{turn_rows}
use Rattle.matrix.proofs.rotation.turn_rows.Goals as goal

pub overflow_mul-pn : goal.overflow_mul-pn
overflow_mul-pn c = omega (arith, row _ _ c.args.n c.requires.0)

pub overflow_mul-qn : goal.overflow_mul-qn
overflow_mul-qn c = omega (arith, row _ _ c.args.n c.requires.1)

pub loop-k-init : goal.loop-k-init
loop-k-init c = (loop_start _ _, row _ _ _ c.requires.0, row _ _ _ c.requires.1)

pub loop-k-preserved : goal.loop-k-preserved
loop-k-preserved c = (loop_turn _ _ _ _ _ c.loop-k.invariant.0 c.turn.ensures, c.loop-k.invariant.1, c.loop-k.invariant.2)

pub returns : goal.returns
unfolding turn_rows
returns c = loop_end _ _ _ _ _ c.loop-k.invariant.0 (omega arith)
