use Rattle.std.proofs.Common.{◌≡◌}
use Rattle.leaves.specs.Numbers.{one}
use Rattle.leaves.specs.Exp.{horner}
use Rattle.leaves.proofs.exponential.horner.Given as goal

abbrev pub invariant-loop-k : goal.invariant-loop-k
invariant-loop-k l = horner l.r l.d l.k l.p ≡ horner l.r l.d l.n one
