use Rattle.leaves.specs.Numbers.{◌⊗◌}
use Rattle.leaves.proofs.Invariants.{Filled}
use Rattle.matrix.specs.Matrix.{at}
use Rattle.matrix.proofs.tables.put_diagonal.Given as goal

abbrev pub invariant-loop-i : goal.invariant-loop-i
invariant-loop-i l = Filled (λ k. at l.a l.n k k ⊗ l.scale) l.i l.n l.initial.out l.out
