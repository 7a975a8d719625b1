-- `matrix::rotation::turn_columns` meets its contract. The invariant: the rows passed are turned.
use native.Mathlib.Omega.{arith}
use Rattle.leaves.proofs.Invariants.{loop_turn, loop_end, loop_start}
use Rattle.leaves.proofs.Cells.{row}
use Rattle.matrix.specs.Rotation.{turn_columns}
use Rattle.matrix.proofs.rotation.turn_columns.Goals as goal

pub loop-k-init : goal.loop-k-init
loop-k-init c = loop_start _ _

pub overflow_mul-base : goal.overflow_mul-base
overflow_mul-base c = omega (arith, row _ _ c.args.n c.loop-k-test.true)

pub overflow_add-base : goal.overflow_add-base
overflow_add-base c = omega (arith, row _ _ c.args.n c.loop-k-test.true)

pub overflow_add-base-in-loop-k : goal.overflow_add-base-in-loop-k
overflow_add-base-in-loop-k c = omega (arith, row _ _ c.args.n c.loop-k-test.true)

pub turn-requires : goal.turn-requires
turn-requires c = omega (arith, row _ _ c.args.n c.loop-k-test.true)

pub loop-k-preserved : goal.loop-k-preserved
loop-k-preserved c = loop_turn _ _ _ _ _ c.loop-k.invariant c.turn.ensures

pub returns : goal.returns
unfolding turn_columns
returns c = loop_end _ _ _ _ _ c.loop-k.invariant (omega arith)
