-- `matrix::tables::divide` meets its contract. The invariant: every number passed is divided.
use mathlib.Core.Path.{sym}
use native.Mathlib.Omega.{arith}
use Rattle.leaves.specs.Numbers.{◌⊘◌}
use Rattle.leaves.proofs.Invariants.{filled_more, filled_none}
use Rattle.matrix.specs.Matrix.{at, divided}
use Rattle.matrix.proofs.Stored.{entry_at}
use Rattle.matrix.proofs.FilledRows.{filled_rows}
use Rattle.matrix.proofs.tables.divide.Goals as goal

pub loop-k-init : goal.loop-k-init
loop-k-init c = filled_none _ _ _

pub loop-k-preserved : goal.loop-k-preserved
loop-k-preserved c = let a = c.args in filled_more c.loop-k.invariant (omega arith) (omega arith) (λ t. sym (entry_at a.a.now a.n c.loop-k.k) t ⊘ a.scale)

pub returns : goal.returns
returns c = let a = c.args in filled_rows (divided (at a.a.now a.n) a.scale) a.n c.loop-k.invariant (omega arith) c.requires.1
