use mathlib.Core.Path.{◌≡◌}
use Rattle.leaves.specs.Numbers.{◌⊗◌}
use Rattle.leaves.specs.Loops.{sum_to, nth}
use Rattle.matrix.proofs.sums.squares.Given as goal

abbrev pub invariant-loop-x : goal.invariant-loop-x
invariant-loop-x l = l.s ≡ sum_to l.x-index (λ k. nth l.a k ⊗ nth l.a k)
