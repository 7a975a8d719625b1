use Rattle.std.proofs.Common.{◌≡◌}
use Rattle.leaves.specs.Numbers.{◌⊗◌}
use Rattle.leaves.specs.Loops.{sum_to, nth}
use Rattle.matrix.specs.Matrix.{at}
use Rattle.means.proofs.forms.Decomposed.project_on.Given as goal

abbrev pub invariant-loop-i : goal.invariant-loop-i
invariant-loop-i l = l.s ≡ sum_to l.i (λ i. at l.self.vectors.now l.self.n i l.e ⊗ nth l.x i)
