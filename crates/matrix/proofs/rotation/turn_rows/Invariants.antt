use mathlib.Core.Path.{◌≡◌}
use Prim.Native.Nat.{◌≤◌, ◌+◌, ◌*◌}
use Rattle.leaves.specs.Loops.{loop}
use Rattle.matrix.specs.Rotation.{turn}
use Rattle.matrix.proofs.rotation.turn_rows.Given as goal

abbrev pub invariant-loop-k : goal.invariant-loop-k
invariant-loop-k l = (l.a ≡ loop l.k (λ k. turn l.c l.s (l.p * l.n + k) (l.q * l.n + k)) l.initial.a) × (l.pn + l.n ≤ l.n * l.n) × (l.qn + l.n ≤ l.n * l.n)
