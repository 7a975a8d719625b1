use Rattle.std.proofs.Common.{◌≡◌}
use Rattle.leaves.specs.Log.{series}
use Rattle.leaves.proofs.logarithm.series.Given as goal

abbrev pub invariant-loop-k : goal.invariant-loop-k
invariant-loop-k l = series l.z l.k l.q ≡ series l.z l.n l.first
