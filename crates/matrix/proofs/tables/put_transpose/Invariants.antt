use Prim.Native.Nat.{◌*◌, ◌/◌, ◌%◌}
use Rattle.leaves.proofs.Invariants.{Filled}
use Rattle.matrix.specs.Matrix.{at, transpose}
use Rattle.matrix.proofs.tables.put_transpose.Given as goal

abbrev pub invariant-loop-k : goal.invariant-loop-k
invariant-loop-k l = Filled (λ k. transpose (at l.a l.n) (k / l.n) (k % l.n)) l.k (l.n * l.n) l.initial.out l.out
