-- `means::james_stein::largest_deviation` meets its contract. The invariant: the largest distance of the means passed.
use lib.Ieee.{of_bits}
use Rattle.leaves.proofs.Invariants.{amax_none, amax_turn}
use Rattle.rules.specs.JamesStein.{largest_deviation}
use Rattle.means.proofs.james_stein.largest_deviation.Goals as goal

pub loop-x-init : goal.loop-x-init
unfolding of_bits largest_deviation
loop-x-init c = amax_none _

pub loop-x-preserved : goal.loop-x-preserved
unfolding largest_deviation
loop-x-preserved c = amax_turn _ _ _ _ _ c.loop-x.invariant c.abs.ensures c.larger-m.ensures
