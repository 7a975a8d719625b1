use Rattle.std.proofs.Common.{length}
use Rattle.leaves.specs.Numbers.{◌⊗◌}
use Rattle.leaves.specs.Loops.{nth}
use Rattle.leaves.proofs.Invariants.{Filled}
use Rattle.covariances.proofs.targets.put_row.Given as goal

abbrev pub invariant-loop-j : goal.invariant-loop-j
invariant-loop-j l = Filled (λ j. l.r ⊗ nth l.volatilities l.i ⊗ nth l.volatilities j) l.j (length l.initial.out) l.initial.out l.out
