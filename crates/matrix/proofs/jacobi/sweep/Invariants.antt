use mathlib.Core.Path.{◌≡◌}
use Prim.Native.Nat.{ℕ, ◌+◌}
use Rattle.leaves.specs.Loops.{loop}
use Rattle.matrix.specs.Jacobi.{sweep_row}
use Rattle.matrix.specs.Inner.{state, by_columns}
use Rattle.matrix.proofs.jacobi.sweep.Given as goal

abbrev pub invariant-loop-p : goal.invariant-loop-p
invariant-loop-p l = (k : ℕ) → state l.a (by_columns l.n l.v) (k + l.rotations) ≡ loop l.p (sweep_row l.n) (state l.initial.a (by_columns l.n l.initial.v) k)
