-- `matrix::tables::put_transpose` meets its contract. The invariant: every entry passed is the transpose's.
use native.Mathlib.Omega.{arith}
use Rattle.leaves.proofs.Cells.{row_below, col_below}
use Rattle.leaves.proofs.Invariants.{filled_more, filled_none}
use Rattle.matrix.specs.Matrix.{at, transpose}
use Rattle.matrix.proofs.FilledRows.{filled_rows}
use Rattle.matrix.proofs.tables.put_transpose.Goals as goal

pub loop-k-init : goal.loop-k-init
loop-k-init c = filled_none _ _ _

pub get-requires : goal.get-requires
get-requires c = (col_below c.loop-k.k c.args.n c.args.n (omega arith), row_below c.loop-k.k c.args.n c.args.n (omega arith), c.requires.0)

pub loop-k-preserved : goal.loop-k-preserved
loop-k-preserved c = filled_more c.loop-k.invariant (omega arith) (omega arith) c.get.ensures

pub returns : goal.returns
returns c = let a = c.args in filled_rows (transpose (at a.a.now a.n)) a.n c.loop-k.invariant (omega arith) c.requires.1
