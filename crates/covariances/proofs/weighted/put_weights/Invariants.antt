use Rattle.std.proofs.Common.{◌-◌, length}
use Rattle.leaves.specs.Numbers.{◌⊗◌, count}
use Rattle.leaves.specs.Exp.{exp}
use Rattle.leaves.proofs.Invariants.{Filled}
use Rattle.covariances.proofs.weighted.put_weights.Given as goal

abbrev pub invariant-loop-t : goal.invariant-loop-t
invariant-loop-t l = Filled (λ t. exp (count (length l.initial.out - 1 - t) ⊗ l.l)) l.t (length l.initial.out) l.initial.out l.out
