-- The adjusted covariance by one list of checks: the opening of every call, the given matrix's, and those of the settings and of the answer. Assumes
-- nothing.
use mathlib.Core.Path.{◌≡◌}
use mathlib.Core.List.{List, ◌++◌}
use Prim.Native.Nat.{ℕ, ◌*◌}
use lib.ListN.{length}
use lib.Ieee.{Float}
use Rattle.leaves.specs.Loops.{nth}
use Rattle.matrix.specs.Matrix.{at}
use Rattle.rules.specs.Refusals.{Check}
use Rattle.rules.specs.Given.{average}
use Rattle.rules.specs.Adjusted.{decomposition_of, intensity, base_of, adjusted_of}
use Rattle.rules.specs.Order.{by_shape, by_returns, opening, of_given, of_settings, adjusted_order}
use Rattle.rules.specs.Calls.{adjusted_with, adjusted_returns, adjusted_covariance}
use Rattle.rules.specs.declared.Settings.{Settings}
use Rattle.std.specs.Prelude.{Ok}
use Rattle.rules.specs.declared.Answer.TheVariants.{Covariance}
use Rattle.rules.proofs.Opened.{settle_then, answer_of}

module _ (r : List Float) (n T : ℕ) (s : Settings) (given : List Float) (side : ℕ) where
  abbrev pub asked : Float
  asked = intensity s.shrinkage T n (at r n)

  abbrev pub estimated : List Float
  estimated = base_of s T n (at r n) (average given side)

  abbrev pub covariances : List Float
  covariances = adjusted_of s asked n estimated

  -- the checks of the settings and of the answer
  abbrev pub of_answer : List Check
  of_answer = of_settings s asked T n side (at r n) (at estimated n) (at covariances n)

  pub adjusted_is : (slice : List Float) → let d = decomposition_of s given side in
      adjusted_covariance r n T s given side slice ≡ answer_of r n T (n * n) (of_given s given side ++ of_answer) (Ok (Covariance asked d.sweeps d.rotations)) (nth covariances) slice
  unfolding adjusted_covariance adjusted_returns adjusted_with adjusted_order opening
  adjusted_is slice = settle_then (by_shape (length r) n T (n * n) (length slice)) (by_returns T n (at r n) ++ of_given s given side ++ of_answer) slice _
