-- Document 01, "Estimators": the estimate, shrunk and regularized (covariance.rs, `adjusted_covariance`). Definitions only.
use Rattle.std.specs.Prelude.{ℕ, Bool, true, false, ◌||◌, List, Float}
use Rattle.std.specs.Float.Ieee.{lt}
use Rattle.leaves.specs.Numbers.{◌⊕◌, ◌⊖◌, ◌⊗◌, zero⁺, one}
use Rattle.matrix.specs.Matrix.{Matrix, at, rows, identity}
use Rattle.matrix.specs.Jacobi.{Decomposition, unturned}
use Rattle.rules.specs.Sample.{covariance}
use Rattle.rules.specs.Weighted.{log_decay, weighted_covariance}
use Rattle.rules.specs.Semi.{semicovariance, semicovariance_below}
use Rattle.rules.specs.Given.{average, decompose_given}
use Rattle.rules.specs.LedoitWolf.{average_variance, constant_correlation, ledoit_wolf}
use Rattle.rules.specs.declared.Estimate.{Estimate}
use Rattle.rules.specs.declared.Estimate.TheVariants.{Sample, Given, Weighted, Semi, SemiBelow}
use Rattle.rules.specs.declared.Target.{Target}
use Rattle.rules.specs.declared.Target.TheVariants.{ConstantVariance, ConstantCorrelation}
use Rattle.rules.specs.declared.Shrinkage.{Shrinkage}
use Rattle.rules.specs.declared.Shrinkage.TheVariants.{Unshrunk, Fixed, LedoitWolf}
use Rattle.rules.specs.declared.Regularization.{Regularization}
use Rattle.rules.specs.declared.Regularization.TheVariants.{Unregularized, Ridge}
use Rattle.rules.specs.declared.Settings.{Settings}

abbrev pub is_sample : Estimate Float → Bool
is_sample Sample = true
is_sample Given = false
is_sample (Weighted decay) = false
is_sample Semi = false
is_sample (SemiBelow threshold) = false

-- of any numbers
abbrev pub is_given : {A : Type 0} → Estimate A → Bool
is_given Sample = false
is_given Given = true
is_given (Weighted decay) = false
is_given Semi = false
is_given (SemiBelow threshold) = false

-- the decomposition of the given matrix, averaged with its transpose; nothing is done for the other estimates
unfoldable pub decomposition_of : Settings → List Float → ℕ → Decomposition
decomposition_of s given side = elim (is_given s.estimate) [ true ↦ decompose_given s.limit side (average given side) | false ↦ unturned 0 true ]

-- what the adjustments apply to
unfoldable pub base : Estimate Float → ℕ → Matrix → Matrix → Matrix
base Sample T x g = covariance T x
base Given T x g = g
base (Weighted decay) T x g = weighted_covariance T (log_decay decay) x
base Semi T x g = semicovariance T x
base (SemiBelow threshold) T x g = semicovariance_below threshold T x

-- δ, 0 if there is none
unfoldable pub intensity : Shrinkage Float → ℕ → ℕ → Matrix → Float
intensity Unshrunk T n x = zero⁺
intensity (Fixed δ) T n x = δ
intensity (LedoitWolf F) T n x = ledoit_wolf F T n x

-- δ F, for constant variance as (δ m) I
unfoldable pub weighted_target : Target → Float → ℕ → Matrix → Matrix
weighted_target ConstantVariance δ n b i j = δ ⊗ average_variance n b ⊗ identity i j
weighted_target ConstantCorrelation δ n b i j = δ ⊗ constant_correlation n b i j

-- δ F + (1 - δ) B
unfoldable pub mixed : Target → Float → ℕ → Matrix → Matrix
mixed F δ n b i j = weighted_target F δ n b i j ⊕ (one ⊖ δ) ⊗ b i j

unfoldable pub shrunk : Shrinkage Float → Float → ℕ → Matrix → Matrix
shrunk Unshrunk δ n b = b
shrunk (Fixed fixed) δ n b = mixed ConstantVariance δ n b
shrunk (LedoitWolf F) δ n b = mixed F δ n b

-- A + ε I
unfoldable pub regularized : Regularization Float → Matrix → Matrix
regularized Unregularized a i j = a i j
regularized (Ridge ridge) a i j = a i j ⊕ ridge ⊗ identity i j

unfoldable pub adjusted : Settings → Float → ℕ → Matrix → Matrix
adjusted s δ n b = regularized s.regularization (shrunk s.shrinkage δ n b)

-- an intensity or a regularization above 0
unfoldable pub is_adjusted : Float → Regularization Float → Bool
is_adjusted δ Unregularized = lt zero⁺ δ
is_adjusted δ (Ridge ridge) = lt zero⁺ δ || lt zero⁺ ridge

-- ---- stored by rows

-- for the averaged given matrix g
abbrev pub base_of : Settings → ℕ → ℕ → Matrix → Matrix → List Float
base_of s T n x g = rows n n (base s.estimate T x g)

-- of the estimate b
abbrev pub adjusted_of : Settings → Float → ℕ → List Float → List Float
adjusted_of s δ n b = rows n n (adjusted s δ n (at b n))
