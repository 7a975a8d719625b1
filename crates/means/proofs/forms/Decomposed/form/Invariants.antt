use Rattle.std.proofs.Common.{◌≡◌}
use Rattle.leaves.specs.Numbers.{◌⊗◌, ◌⊘◌}
use Rattle.leaves.specs.Loops.{sum_to, nth}
use Rattle.means.proofs.forms.Decomposed.form.Given as goal

abbrev pub invariant-loop-e : goal.invariant-loop-e
invariant-loop-e l = l.s ≡ sum_to l.e (λ e. nth l.x e ⊗ nth l.y e ⊘ nth l.self.values.now e)
