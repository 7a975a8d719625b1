-- Three of the calls by their parts: what a call answers, as a function of its decomposition and of the checks that know the sweep limit. Assumes nothing.
use mathlib.Core.Path.{◌≡◌, refl}
use Prim.Native.Nat.{ℕ, ◌*◌}
use mathlib.Core.List.{List, [], ◌∷◌, ◌++◌}
use lib.IntN.{ℤ}
use lib.Ieee.{Float}
use Rattle.leaves.specs.Loops.{fill, nth}
use Rattle.leaves.specs.Scaling.{binary_exponent, pow2_scaled}
use Rattle.matrix.specs.Matrix.{at, amax}
use Rattle.matrix.specs.Jacobi.{Decomposition}
use Rattle.rules.specs.Refusals.{Check, first}
use Rattle.rules.specs.Moments.{Moments}
use Rattle.rules.specs.Adjusted.{decomposition_of}
use Rattle.rules.specs.JamesStein.{james_stein_intensity, towards}
use Rattle.rules.specs.BayesStein.{MeanShrinkage, bayes_stein_shrinkage, shrunk_mean, exponents_of, correlations}
use Rattle.rules.specs.Order.{opening, bad_sweep_limit, of_given, not_found, of_correlations, james_stein_order, bayes_stein_order}
use Rattle.rules.specs.Calls.{Answered, answered, settle, adjusted_covariance, james_stein_mean, bayes_stein_mean}
use Rattle.rules.specs.declared.Settings.{Settings}
use Rattle.rules.specs.declared.Answer.TheVariants.{Covariance, Shrunk}
use Rattle.std.specs.Prelude.{Ok}
use Rattle.rules.proofs.Opened.{answer_of}
use Rattle.rules.proofs.AdjustedCall.{asked, covariances, of_answer, adjusted_is}
use Rattle.law.proofs.JamesStein as James
use Rattle.law.proofs.Columns.{column_moments, Σ, decomposed_correlations, size_of}

-- ---- the adjusted covariance
module _ (r : List Float) (n P : ℕ) (s : Settings) (given : List Float) (side : ℕ) where
  abbrev pub covariance_by : List Float → Decomposition → List Check → Answered
  covariance_by slice d cs =
      settle (first (opening r n P (n * n) slice ++ cs ++ of_answer r n P s given side)) slice
      (answered (Ok (Covariance (asked r n P s given side) d.sweeps d.rotations)) (fill (n * n) (nth (covariances r n P s given side)) slice))

  pub covariance_is : (slice : List Float) → adjusted_covariance r n P s given side slice ≡ covariance_by slice (decomposition_of s given side) (of_given s given side)
  unfolding opening
  covariance_is slice = adjusted_is r n P s given side slice

-- ---- the James-Stein mean
module _ (r : List Float) (n P : ℕ) where
  abbrev pub unit : ℤ
  unit = binary_exponent (amax P n (at r n))

  abbrev pub in_unit : Moments
  in_unit = James.unit_moments P n (at r n)

  abbrev pub unit_grand_mean : Float
  unit_grand_mean = James.grand_mean_of n in_unit

  abbrev pub james_decomposition : ℕ → Decomposition
  james_decomposition limit = (James.shrunk limit P n (at r n)).decomposition

  abbrev pub james_by : List Float → Decomposition → Check → Answered
  james_by slice d c =
      let α = james_stein_intensity n in_unit unit_grand_mean d in
      answer_of r n P n (c ∷ not_found d ∷ []) (Ok (Shrunk α (pow2_scaled unit_grand_mean unit) d.sweeps d.rotations)) (λ i. pow2_scaled (towards α unit_grand_mean (nth in_unit.mean i)) unit) slice

  pub james_is : (limit : ℕ) (slice : List Float) → james_stein_mean r n P limit slice ≡ james_by slice (james_decomposition limit) (bad_sweep_limit limit)
  unfolding james_stein_mean james_stein_order
  james_is limit slice = refl

  -- ---- the Bayes-Stein mean
  abbrev pub shrinkage_from : Decomposition → MeanShrinkage
  shrinkage_from d = let m = column_moments P n (at r n) in bayes_stein_shrinkage n m.periods (nth m.mean) (Σ n m) (exponents_of P n (at r n)) d

  abbrev pub bayes_by : List Float → Decomposition → Check → Answered
  bayes_by slice d c =
      let m = column_moments P n (at r n) in
      answer_of r n P n (c ∷ of_correlations n (size_of P n (at r n)) (Σ n m) (correlations n m) d) (Ok (Shrunk (shrinkage_from d).intensity (shrinkage_from d).target d.sweeps d.rotations))
      (λ i. shrunk_mean (shrinkage_from d) (nth m.mean i) (exponents_of P n (at r n) i)) slice

  pub bayes_is : (limit : ℕ) (slice : List Float) → bayes_stein_mean r n P limit slice ≡ bayes_by slice (decomposed_correlations limit n (column_moments P n (at r n))) (bad_sweep_limit limit)
  unfolding bayes_stein_mean bayes_stein_order
  bayes_is limit slice = refl
