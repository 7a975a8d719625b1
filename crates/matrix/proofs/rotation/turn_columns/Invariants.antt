use mathlib.Core.Path.{◌≡◌}
use Prim.Native.Nat.{◌+◌, ◌*◌}
use Rattle.leaves.specs.Loops.{loop}
use Rattle.matrix.specs.Rotation.{turn}
use Rattle.matrix.proofs.rotation.turn_columns.Given as goal

abbrev pub invariant-loop-k : goal.invariant-loop-k
invariant-loop-k l = l.a ≡ loop l.k (λ k. turn l.c l.s (k * l.n + l.p) (k * l.n + l.q)) l.initial.a
