-- `matrix::tables::put_diagonal` meets its contract. The invariant: every number passed is the diagonal's, times the scale.
use native.Mathlib.Omega.{arith}
use Rattle.leaves.specs.Numbers.{◌⊗◌}
use Rattle.leaves.proofs.Invariants.{filled_more, filled_whole, filled_none}
use Rattle.matrix.proofs.tables.put_diagonal.Goals as goal

pub loop-i-init : goal.loop-i-init
loop-i-init c = filled_none _ _ _

pub loop-i-preserved : goal.loop-i-preserved
loop-i-preserved c = filled_more c.loop-i.invariant (omega arith) (omega arith) (λ t. c.get.ensures t ⊗ c.args.scale)

pub returns : goal.returns
returns c = filled_whole c.loop-i.invariant (omega arith) c.requires.1
