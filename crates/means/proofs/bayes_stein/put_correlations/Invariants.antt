use Rattle.std.proofs.Common.{◌*◌, ◌/◌, ◌%◌}
use Rattle.leaves.specs.Loops.{nth}
use Rattle.leaves.proofs.Invariants.{Filled}
use Rattle.matrix.specs.Matrix.{at}
use Rattle.rules.specs.Sample.{correlation_by}
use Rattle.means.proofs.bayes_stein.put_correlations.Given as goal

abbrev pub invariant-loop-k : goal.invariant-loop-k
invariant-loop-k l = Filled (λ k. correlation_by (nth l.volatilities) (at l.covariance l.n) (k / l.n) (k % l.n)) l.k (l.n * l.n) l.initial.out l.out
