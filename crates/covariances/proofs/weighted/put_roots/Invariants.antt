use Rattle.std.proofs.Common.{length}
use Rattle.leaves.specs.Numbers.{◌⊘◌}
use Rattle.leaves.specs.Loops.{nth}
use Rattle.leaves.specs.Root.{sqrt}
use Rattle.leaves.proofs.Invariants.{Filled}
use Rattle.covariances.proofs.weighted.put_roots.Given as goal

abbrev pub invariant-loop-t : goal.invariant-loop-t
invariant-loop-t l = Filled (λ t. sqrt (nth l.weights t ⊘ l.denominator)) l.t (length l.initial.out) l.initial.out l.out
