use Rattle.std.proofs.Common.{◌≡◌, ℕ, List, ℤ}
use lib.Ieee.{Float}
use Rattle.leaves.specs.Numbers.{◌⊖◌, ◌⊗◌}
use Rattle.leaves.specs.Loops.{sum_to, nth}
use Rattle.leaves.specs.Scaling.{pow2_scaled}
use Rattle.means.proofs.james_stein.spread.Given as goal

abbrev pub square : List Float → Float → ℤ → ℕ → Float
square means target k i = let d = pow2_scaled (nth means i ⊖ target) k in d ⊗ d

abbrev pub invariant-loop-x : goal.invariant-loop-x
invariant-loop-x l = l.s ≡ sum_to l.x-index (square l.means l.target l.down)
