use Prim.Native.Nat.{ℕ}
use lib.ListN.{length, get_or}
use Rattle.leaves.specs.Numbers.{float}
use Rattle.leaves.proofs.Invariants.{Filled}
use Rattle.paper.proofs.floats.fill_floats.Given as goal

abbrev pub invariant-loop-i : goal.invariant-loop-i
invariant-loop-i l = Filled (λ (k : ℕ). float (get_or l.bits k 0)) l.i (length l.bits) l.initial.to l.to
