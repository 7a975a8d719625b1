use Rattle.leaves.proofs.Invariants.{Filled}
use Rattle.matrix.specs.Matrix.{at}
use Rattle.rules.specs.Sample.{volatility}
use Rattle.covariances.proofs.sample.put_volatilities.Given as goal

abbrev pub invariant-loop-i : goal.invariant-loop-i
invariant-loop-i l = Filled (volatility (at l.s l.n)) l.i l.n l.initial.out l.out
