-- `matrix::entries::get` meets its contract: row i lies within the matrix.
use native.Mathlib.Omega.{arith}
use Rattle.leaves.proofs.Cells.{row}
use Rattle.matrix.proofs.entries.get.Goals as goal

pub overflow_mul-result : goal.overflow_mul-result
overflow_mul-result c = omega (arith, row _ _ c.args.n c.requires.0)

pub overflow_add-result : goal.overflow_add-result
overflow_add-result c = omega (arith, row _ _ c.args.n c.requires.0)

pub offset_bounds-a-i : goal.offset_bounds-a-i
offset_bounds-a-i c = omega (arith, row _ _ c.args.n c.requires.0)

pub bounds-a-i : goal.bounds-a-i
bounds-a-i c = omega (arith, row _ _ c.args.n c.requires.0)
