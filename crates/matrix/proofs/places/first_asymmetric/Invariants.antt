use mathlib.Core.Path.{◌≡◌}
use mathlib.Core.Bool.{Bool}
use mathlib.Core.List.{List}
use mathlib.Core.Option.{none}
use Prim.Native.Nat.{ℕ, ◌≤◌, ◌-◌, ◌/◌, ◌%◌, ◌*◌}
use lib.Ieee.{Float, lt}
use Rattle.leaves.specs.Numbers.{◌⊖◌, abs}
use Rattle.leaves.specs.Loops.{first_to}
use Rattle.matrix.specs.Matrix.{at}
use Rattle.matrix.proofs.places.first_asymmetric.Given as goal

abbrev pub differs : List Float → ℕ → Float → ℕ → ℕ → Bool
differs a n tolerance i j = lt tolerance (abs (at a n i j ⊖ at a n j i))

abbrev pub invariant-loop-k : goal.invariant-loop-k
invariant-loop-k l = (l.k ≤ l.n * l.n) × (first_to l.k (λ j. differs l.a l.n l.tolerance (j / l.n) (j % l.n)) ≡ none)
