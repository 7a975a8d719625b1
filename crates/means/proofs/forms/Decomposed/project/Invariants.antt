use Rattle.leaves.specs.Numbers.{◌⊗◌}
use Rattle.leaves.specs.Loops.{sum_to, nth}
use Rattle.leaves.proofs.Invariants.{Filled}
use Rattle.matrix.specs.Matrix.{at}
use Rattle.means.proofs.forms.Decomposed.project.Given as goal

abbrev pub invariant-loop-e : goal.invariant-loop-e
invariant-loop-e l = Filled (λ e. sum_to l.self.n (λ i. at l.self.vectors.now l.self.n i e ⊗ nth l.x i)) l.e l.self.n l.initial.out l.out
