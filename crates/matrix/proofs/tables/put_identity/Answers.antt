-- `matrix::tables::put_identity` meets its contract. The invariant: every entry passed is the identity's.
use native.Mathlib.Omega.{arith}
use Rattle.leaves.proofs.Invariants.{filled_more, filled_none}
use Rattle.matrix.specs.Matrix.{identity}
use Rattle.matrix.proofs.FilledRows.{filled_rows}
use Rattle.matrix.proofs.tables.put_identity.Goals as goal

pub loop-k-init : goal.loop-k-init
loop-k-init c = filled_none _ _ _

pub loop-k-preserved : goal.loop-k-preserved
loop-k-preserved c = filled_more c.loop-k.invariant (omega arith) (omega arith) c.identity_entry.ensures

pub returns : goal.returns
returns c = filled_rows identity _ c.loop-k.invariant (omega arith) c.requires
