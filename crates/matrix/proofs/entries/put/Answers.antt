-- `matrix::entries::put` meets its contract: row i lies within the matrix.
use native.Mathlib.Omega.{arith}
use Rattle.leaves.proofs.Cells.{row}
use Rattle.matrix.proofs.entries.put.Goals as goal

pub overflow_mul-a : goal.overflow_mul-a
overflow_mul-a c = omega (arith, row _ _ c.args.n c.requires.0)

pub overflow_add-a : goal.overflow_add-a
overflow_add-a c = omega (arith, row _ _ c.args.n c.requires.0)

pub offset_bounds-a-i : goal.offset_bounds-a-i
offset_bounds-a-i c = omega (arith, row _ _ c.args.n c.requires.0)

pub bounds-a-i : goal.bounds-a-i
bounds-a-i c = omega (arith, row _ _ c.args.n c.requires.0)
