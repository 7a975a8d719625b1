use Rattle.std.proofs.Common.{length}
use Rattle.leaves.specs.Numbers.{◌⊘◌}
use Rattle.leaves.specs.Loops.{nth}
use Rattle.leaves.proofs.Invariants.{Filled}
use Rattle.means.proofs.gather.divide.Given as goal

abbrev pub invariant-loop-i : goal.invariant-loop-i
invariant-loop-i l = Filled (λ i. nth l.xs i ⊘ nth l.volatilities i) l.i (length l.initial.out) l.initial.out l.out
