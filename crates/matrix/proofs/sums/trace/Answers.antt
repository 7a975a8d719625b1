-- `matrix::sums::trace` meets its contract. The invariant: the sum of the diagonal numbers passed.
use mathlib.Core.Path.{ap}
use native.Mathlib.Omega.{arith}
use lib.Ieee.{Float, of_bits}
use Rattle.leaves.specs.Numbers.{◌⊕◌}
use Rattle.leaves.specs.Loops.{sum_to}
use Rattle.leaves.proofs.Invariants.{sum_none, sum_turn, at_end}
use Rattle.matrix.specs.Matrix.{at, trace}
use Rattle.matrix.proofs.sums.trace.Goals as goal

pub loop-i-init : goal.loop-i-init
unfolding of_bits
loop-i-init c = sum_none _

pub loop-i-preserved : goal.loop-i-preserved
loop-i-preserved c = sum_turn _ _ _ _ c.loop-i.invariant (ap (λ (y : Float). c.loop-i.s ⊕ y) c.get-s.ensures)

pub returns : goal.returns
unfolding trace
returns c = let a = c.args in at_end (λ k. sum_to k (λ k. at a.a.now a.n k k)) _ _ _ c.loop-i.invariant (omega arith) (omega arith)
