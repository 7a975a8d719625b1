use mathlib.Core.Path.{◌≡◌}
use Prim.Native.Nat.{ℕ, suc, ◌-◌, ◌+◌}
use Rattle.leaves.specs.Loops.{loop}
use Rattle.matrix.specs.Rotation.{rotate}
use Rattle.matrix.specs.Inner.{state, by_columns}
use Rattle.matrix.proofs.jacobi.sweep_row.Given as goal

abbrev pub invariant-loop-q : goal.invariant-loop-q
invariant-loop-q l = (k : ℕ) → state l.a (by_columns l.n l.v) (k + l.rotations) ≡ loop (l.q - suc l.p) (λ j. rotate l.n l.p (suc l.p + j)) (state l.initial.a (by_columns l.n l.initial.v) k)
