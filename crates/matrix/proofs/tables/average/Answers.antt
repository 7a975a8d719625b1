-- `matrix::tables::average` meets its contract. The invariant: every entry passed is the average.
use native.Mathlib.Omega.{arith}
use lib.Ieee.{of_bits}
use Rattle.leaves.specs.Numbers.{◌⊕◌, ◌⊘◌, two}
use Rattle.leaves.proofs.Cells.{row_below, col_below}
use Rattle.leaves.proofs.Invariants.{filled_more, filled_none}
use Rattle.matrix.specs.Matrix.{at, averaged}
use Rattle.matrix.proofs.FilledRows.{filled_rows}
use Rattle.matrix.proofs.tables.average.Goals as goal

pub loop-k-init : goal.loop-k-init
loop-k-init c = filled_none _ _ _

pub get-requires : goal.get-requires
get-requires c = (row_below c.loop-k.k c.args.n c.args.n (omega arith), col_below c.loop-k.k c.args.n c.args.n (omega arith), c.requires.0)

pub get-requires-in-loop-k : goal.get-requires-in-loop-k
get-requires-in-loop-k c = (col_below c.loop-k.k c.args.n c.args.n (omega arith), row_below c.loop-k.k c.args.n c.args.n (omega arith), c.requires.0)

pub loop-k-preserved : goal.loop-k-preserved
unfolding of_bits
loop-k-preserved c = filled_more c.loop-k.invariant (omega arith) (omega arith) (λ t. (c.get.ensures t ⊕ c.get-in-loop-k.ensures t) ⊘ two)

pub returns : goal.returns
returns c = let a = c.args in filled_rows (averaged (at a.a.now a.n)) a.n c.loop-k.invariant (omega arith) c.requires.1
