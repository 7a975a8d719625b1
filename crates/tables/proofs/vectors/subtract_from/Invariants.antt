use Rattle.std.proofs.Common.{length}
use Rattle.leaves.specs.Numbers.{◌⊖◌}
use Rattle.leaves.specs.Loops.{nth}
use Rattle.leaves.proofs.Invariants.{Filled}
use Rattle.tables.proofs.vectors.subtract_from.Given as goal

abbrev pub invariant-loop-k : goal.invariant-loop-k
invariant-loop-k l = Filled (λ k. nth l.xs k ⊖ nth l.initial.out k) l.k (length l.initial.out) l.initial.out l.out
