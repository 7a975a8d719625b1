use Rattle.std.proofs.Common.{length}
use Rattle.leaves.specs.Loops.{nth}
use Rattle.leaves.proofs.Invariants.{Filled}
use Rattle.rules.specs.BayesStein.{shrunk_mean, exponent_at}
use Rattle.means.specs.Stein.{mean_shrinkage}
use Rattle.means.proofs.bayes_stein.put_shrunk.Given as goal

abbrev pub invariant-loop-i : goal.invariant-loop-i
invariant-loop-i l = Filled (λ i. shrunk_mean (mean_shrinkage l.intensity l.target) (nth l.means i) (exponent_at l.exponents i)) l.i (length l.initial.out) l.initial.out l.out
