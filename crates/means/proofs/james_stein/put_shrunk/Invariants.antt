use Rattle.std.proofs.Common.{length}
use Rattle.leaves.specs.Loops.{nth}
use Rattle.leaves.specs.Scaling.{pow2_scaled}
use Rattle.leaves.proofs.Invariants.{Filled}
use Rattle.rules.specs.JamesStein.{towards}
use Rattle.means.proofs.james_stein.put_shrunk.Given as goal

abbrev pub invariant-loop-i : goal.invariant-loop-i
invariant-loop-i l = Filled (λ i. pow2_scaled (towards l.intensity l.target (nth l.means i)) l.exponent) l.i (length l.initial.out) l.initial.out l.out
