use Prim.Native.Nat.{◌*◌, ◌/◌, ◌%◌}
use Rattle.leaves.proofs.Invariants.{Filled}
use Rattle.matrix.specs.Matrix.{at, symmetrized}
use Rattle.matrix.proofs.Identity.{scaled_entry}
use Rattle.matrix.proofs.jacobi.start.Given as goal

abbrev pub invariant-loop-k : goal.invariant-loop-k
invariant-loop-k l = Filled (λ k. symmetrized (scaled_entry l.scale (at l.a l.n)) (k / l.n) (k % l.n)) l.k (l.n * l.n) l.initial.out l.out
