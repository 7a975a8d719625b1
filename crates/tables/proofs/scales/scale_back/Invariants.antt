use Rattle.std.proofs.Common.{length}
use Rattle.leaves.specs.Loops.{nth}
use Rattle.leaves.specs.Scaling.{pow2_scaled}
use Rattle.leaves.proofs.Invariants.{Filled}
use Rattle.rules.specs.BayesStein.{exponent_at}
use Rattle.tables.proofs.scales.scale_back.Given as goal

abbrev pub invariant-loop-k : goal.invariant-loop-k
invariant-loop-k l = Filled (λ k. pow2_scaled (nth l.initial.out k) (exponent_at l.exponents k)) l.k (length l.initial.out) l.initial.out l.out
