-- `matrix::sums::squares` meets its contract. The invariant: the sum of the squares passed.
use mathlib.Core.Path.{refl}
use native.Mathlib.Omega.{arith}
use lib.Ieee.{of_bits}
use Rattle.leaves.specs.Numbers.{◌⊗◌}
use Rattle.leaves.specs.Loops.{sum_to, nth}
use Rattle.leaves.proofs.Invariants.{sum_none, sum_turn, at_end}
use Rattle.matrix.specs.Matrix.{squares}
use Rattle.matrix.proofs.SumOver.{sum_stored}
use Rattle.matrix.proofs.sums.squares.Goals as goal

pub loop-x-init : goal.loop-x-init
unfolding of_bits
loop-x-init c = sum_none _

pub loop-x-preserved : goal.loop-x-preserved
loop-x-preserved c = sum_turn _ _ _ _ c.loop-x.invariant refl

pub returns : goal.returns
unfolding squares
returns c = let a = c.args.a.now in sum_stored (λ x. x ⊗ x) a c.args.n (at_end (λ k. sum_to k (λ k. nth a k ⊗ nth a k)) _ _ _ c.loop-x.invariant (omega arith) (omega arith)) c.requires
