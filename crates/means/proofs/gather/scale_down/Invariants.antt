use Rattle.std.proofs.Common.{length, ◌-ℤ◌, neg_ℤ}
use Rattle.leaves.specs.Loops.{nth}
use Rattle.leaves.specs.Scaling.{pow2_scaled}
use Rattle.leaves.proofs.Invariants.{Filled}
use Rattle.rules.specs.BayesStein.{exponent_at}
use Rattle.means.proofs.gather.scale_down.Given as goal

abbrev pub invariant-loop-i : goal.invariant-loop-i
invariant-loop-i l = Filled (λ i. pow2_scaled (nth l.initial.out i) (neg_ℤ (exponent_at l.exponents i) -ℤ l.e)) l.i (length l.initial.out) l.initial.out l.out
