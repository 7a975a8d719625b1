use mathlib.Core.Path.{◌≡◌}
use Prim.Native.Nat.{◌≤◌, ◌+◌, ◌*◌}
use lib.ListN.{length}
use Rattle.leaves.specs.Loops.{loop}
use Rattle.matrix.proofs.Symmetry.{copied}
use Rattle.matrix.proofs.symmetric.mirror.Given as goal

abbrev pub invariant-loop-k : goal.invariant-loop-k
invariant-loop-k l = (l.k ≤ l.n) × (l.a ≡ loop l.k (copied l.n l.p l.q) l.initial.a) × (length l.a ≡ length l.initial.a) × (l.pn + l.n ≤ l.n * l.n) × (l.qn + l.n ≤ l.n * l.n)
