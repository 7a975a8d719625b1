use Rattle.std.proofs.Common.{length}
use Rattle.leaves.specs.Numbers.{◌⊘◌}
use Rattle.leaves.specs.Loops.{nth}
use Rattle.leaves.proofs.Invariants.{Filled}
use Rattle.tables.proofs.vectors.divide.Given as goal

abbrev pub invariant-loop-y : goal.invariant-loop-y
invariant-loop-y l = Filled (λ k. nth l.initial.out k ⊘ l.x) l.y-index (length l.initial.out) l.initial.out l.out
