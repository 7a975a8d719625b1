-- `means::forms::Decomposed::form` meets its contract. The invariant: the sum of the quotients passed.
use Rattle.std.proofs.Common.{refl, arith}
use lib.Ieee.{of_bits}
use Rattle.leaves.specs.Numbers.{◌⊗◌, ◌⊘◌}
use Rattle.leaves.specs.Loops.{sum_to, nth}
use Rattle.leaves.proofs.Invariants.{sum_none, sum_turn, at_end}
use Rattle.rules.specs.BayesStein.{form}
use Rattle.means.proofs.forms.Decomposed.form.Goals as goal

pub loop-e-init : goal.loop-e-init
unfolding of_bits
loop-e-init c = sum_none _

pub loop-e-preserved : goal.loop-e-preserved
loop-e-preserved c = sum_turn _ _ _ _ c.loop-e.invariant refl

pub returns : goal.returns
unfolding form
returns c d h = let a = c.args in rw h (at_end (λ k. sum_to k (λ e. nth a.x.now e ⊗ nth a.y.now e ⊘ nth a.self.now.values.now e)) _ _ _ c.loop-e.invariant (omega arith) (omega arith))
