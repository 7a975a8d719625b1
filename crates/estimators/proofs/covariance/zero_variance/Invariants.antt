use mathlib.Core.Path.{◌≡◌}
use mathlib.Core.Bool.{Bool}
use mathlib.Core.List.{List}
use mathlib.Core.Option.{none}
use Prim.Native.Nat.{ℕ}
use lib.Ieee.{Float, eq}
use Rattle.leaves.specs.Numbers.{zero⁺}
use Rattle.leaves.specs.Loops.{first_to}
use Rattle.matrix.specs.Matrix.{at}
use Rattle.estimators.proofs.covariance.zero_variance.Given as goal

abbrev pub flat : List Float → ℕ → ℕ → Bool
flat b n i = eq (at b n i i) zero⁺

abbrev pub invariant-loop-i : goal.invariant-loop-i
invariant-loop-i l = first_to l.i (flat l.b l.n) ≡ none
