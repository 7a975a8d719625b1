use Rattle.std.proofs.Common.{length}
use Rattle.leaves.specs.Numbers.{◌⊕◌, ◌⊗◌}
use Rattle.leaves.specs.Loops.{nth}
use Rattle.leaves.proofs.Invariants.{Filled}
use Rattle.tables.proofs.vectors.add_times.Given as goal

abbrev pub invariant-loop-k : goal.invariant-loop-k
invariant-loop-k l = Filled (λ k. nth l.initial.out k ⊕ l.a ⊗ nth l.xs k) l.k (length l.initial.out) l.initial.out l.out
