-- `means::forms::Decomposed::project_on` meets its contract. The invariant: the sum of the products passed.
use Rattle.std.proofs.Common.{refl}
use lib.Ieee.{of_bits}
use Rattle.leaves.proofs.Invariants.{sum_none, sum_turn}
use Rattle.means.proofs.forms.Decomposed.project_on.Goals as goal

pub loop-i-init : goal.loop-i-init
unfolding of_bits
loop-i-init c = sum_none _

pub loop-i-preserved : goal.loop-i-preserved
loop-i-preserved c = sum_turn _ _ _ _ c.loop-i.invariant refl
