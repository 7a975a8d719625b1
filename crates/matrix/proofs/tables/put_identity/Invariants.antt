use Prim.Native.Nat.{◌*◌, ◌/◌, ◌%◌}
use Rattle.leaves.proofs.Invariants.{Filled}
use Rattle.matrix.specs.Matrix.{identity}
use Rattle.matrix.proofs.tables.put_identity.Given as goal

abbrev pub invariant-loop-k : goal.invariant-loop-k
invariant-loop-k l = Filled (λ k. identity (k / l.n) (k % l.n)) l.k (l.n * l.n) l.initial.out l.out
