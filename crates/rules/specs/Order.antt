-- Document 01, "Causes", the paragraph "Order": which refusals a call looks for, in their order; document 02, "Paper 1", field 6. Definitions only.
use Rattle.std.specs.Prelude.{ℕ, ◌*◌, Bool, true, false, not, ◌&&◌, ◌||◌, List, [], ◌∷◌, ◌++◌, eqb, ltb, length, Float}
use Rattle.std.specs.Float.Ieee.{le, eq}
use Rattle.leaves.specs.Numbers.{◌⊗◌, zero⁺, one, is_finite}
use Rattle.leaves.specs.Loops.{first_to}
use Rattle.matrix.specs.Limits.{max_side, max_sweeps}
use Rattle.matrix.specs.Matrix.{Matrix, at, amax, trace, averaged, first_not_finite, all_finite}
use Rattle.matrix.specs.Jacobi.{Decomposition, smallest_value}
use Rattle.rules.specs.Refusals.{Check, passes, when, when_some}
use Rattle.rules.specs.Sample.{covariance, largest, constant_asset}
use Rattle.rules.specs.Weighted.{accepted_decay}
use Rattle.rules.specs.Given.{asymmetry, indefinite}
use Rattle.rules.specs.BayesStein.{singular}
use Rattle.rules.specs.Adjusted.{is_sample, is_given, decomposition_of, is_adjusted}
use Rattle.rules.specs.declared.Decay.{Decay}
use Rattle.rules.specs.declared.Decay.TheVariants.{HalfLife, Lambda}
use Rattle.rules.specs.declared.Estimate.{Estimate}
use Rattle.rules.specs.declared.Estimate.TheVariants.{Sample, Given, Weighted, Semi, SemiBelow}
use Rattle.rules.specs.declared.Target.{Target}
use Rattle.rules.specs.declared.Target.TheVariants.{ConstantVariance, ConstantCorrelation}
use Rattle.rules.specs.declared.Shrinkage.{Shrinkage}
use Rattle.rules.specs.declared.Shrinkage.TheVariants.{Unshrunk, Fixed, LedoitWolf}
use Rattle.rules.specs.declared.Regularization.{Regularization}
use Rattle.rules.specs.declared.Regularization.TheVariants.{Unregularized, Ridge}
use Rattle.rules.specs.declared.Settings.{Settings}
use Rattle.rules.specs.declared.Field.{Field}
use Rattle.rules.specs.declared.Field.TheVariants.{RegularizationField, ShrinkageField, HalfLifeField, ThresholdField, SweepLimitField, DecayFactorField}
use Rattle.rules.specs.declared.Refusal.TheVariants.{NoAssets, TooLarge, TooFewPeriods, WrongLength, NotFinite, CovarianceNotFinite, BadSetting, NotTheSample, ZeroVariance, WrongSide, Asymmetric, Indefinite, NotDecomposed, Singular}

-- the fewest and the most periods; the most assets are the matrices' `max_side`
abbrev pub min_periods : ℕ
min_periods = 2

abbrev pub max_periods : ℕ
max_periods = 4096

-- 5, at the first row and column
unfoldable pub not_finite : ℕ → ℕ → Matrix → Check
not_finite m n a = when_some (first_not_finite m n a) (λ p. NotFinite p.0 p.1)

-- 1 to 4, by the lengths of the two slices
abbrev pub by_shape : ℕ → ℕ → ℕ → ℕ → ℕ → List Check
by_shape length n T needed room =
    when (eqb n 0) NoAssets ∷
    when (ltb max_side n || ltb max_periods T) TooLarge ∷
    when (ltb T min_periods) (TooFewPeriods T) ∷
    when (not (eqb length (T * n)) || ltb room needed) WrongLength ∷
    []

-- 5, sample 6
abbrev pub by_returns : ℕ → ℕ → Matrix → List Check
by_returns T n x = not_finite T n x ∷ when (not (all_finite n n (covariance T x))) CovarianceNotFinite ∷ []

-- 1, 2, 3, 4, 5, sample 6: for every call, with the length that its answer slice needs
unfoldable pub opening : List Float → ℕ → ℕ → ℕ → List Float → List Check
opening r n T needed answer = by_shape (length r) n T needed (length answer) ++ by_returns T n (at r n)

-- sweep limit: for given, James-Stein and Bayes-Stein
unfoldable pub bad_sweep_limit : ℕ → Check
bad_sweep_limit limit = when (ltb max_sweeps limit) (BadSetting SweepLimitField)

-- given's 1, 2, 10 (slice)
abbrev pub by_sizes : ℕ → ℕ → List Check
by_sizes size n = when (eqb n 0) NoAssets ∷ when (ltb max_side n) TooLarge ∷ when (not (eqb size (n * n))) (WrongSide n) ∷ []

-- 11, at the first row and column
abbrev pub asymmetric : ℕ → Matrix → Check
asymmetric n g = when_some (asymmetry n g) (λ p. Asymmetric p.0 p.1)

-- given's 5, 11
abbrev pub by_entries : ℕ → Matrix → List Check
by_entries n g = not_finite n n g ∷ asymmetric n g ∷ []

-- 13, and 12, by the decomposition d of the averaged matrix a
abbrev pub not_decomposed : Decomposition → Check
not_decomposed d = when (not d.found) NotDecomposed

abbrev pub not_semidefinite : ℕ → Matrix → Decomposition → Check
not_semidefinite n a d = when (indefinite n d) (Indefinite (smallest_value n d ⊗ amax n n a))

abbrev pub by_values : ℕ → Matrix → Decomposition → List Check
by_values n a d = not_decomposed d ∷ not_semidefinite n a d ∷ []

abbrev pub by_numbers : ℕ → Matrix → Decomposition → List Check
by_numbers n g d = by_entries n g ++ by_values n (averaged g) d

-- the sweep limit; given's 1, 2, 10 (slice), 5, 11, 13, 12
unfoldable pub of_given : Settings → List Float → ℕ → List Check
of_given s g side =
    elim (is_given s.estimate) [
      | true ↦ bad_sweep_limit s.limit ∷ by_sizes (length g) side ++ by_numbers side (at g side) (decomposition_of s g side)
      | false ↦ []
    ]

-- field 1: finite and at least 0, as -0 is
unfoldable pub bad_regularization : Regularization Float → Check
bad_regularization Unregularized = passes
bad_regularization (Ridge ridge) = when (not (is_finite ridge && le zero⁺ ridge)) (BadSetting RegularizationField)

-- field 2: in [0, 1]
unfoldable pub bad_shrinkage : Shrinkage Float → Check
bad_shrinkage Unshrunk = passes
bad_shrinkage (Fixed δ) = when (not (le zero⁺ δ && le δ one)) (BadSetting ShrinkageField)
bad_shrinkage (LedoitWolf F) = passes

-- field 3, or 6 in its place
abbrev pub decay_field : Decay Float → Field
decay_field (HalfLife h) = HalfLifeField
decay_field (Lambda f) = DecayFactorField

unfoldable pub bad_decay : Decay Float → Check
bad_decay decay = when (not (accepted_decay decay)) (BadSetting (decay_field decay))

-- fields 3, 6 and 4
unfoldable pub bad_estimate : Estimate Float → Check
bad_estimate Sample = passes
bad_estimate Given = passes
bad_estimate (Weighted decay) = bad_decay decay
bad_estimate Semi = passes
bad_estimate (SemiBelow threshold) = when (not (is_finite threshold)) (BadSetting ThresholdField)

-- 8
unfoldable pub not_the_sample : Shrinkage Float → Estimate Float → Check
not_the_sample Unshrunk estimate = passes
not_the_sample (Fixed δ) estimate = passes
not_the_sample (LedoitWolf F) estimate = when (not (is_sample estimate)) NotTheSample

-- 9 at the first asset that is constant under the covariance s, and at the first variance of b that is 0
abbrev pub constant_returns : ℕ → Matrix → (ℕ → Float) → Check
constant_returns n s largest = when_some (constant_asset n s largest) ZeroVariance

abbrev pub zero_variance : ℕ → Matrix → Check
zero_variance n b = when_some (first_to n (λ i. eq (b i i) zero⁺)) ZeroVariance

-- 9 by constant correlation
unfoldable pub no_correlation : Shrinkage Float → ℕ → ℕ → Matrix → Check
no_correlation Unshrunk T n x = passes
no_correlation (Fixed δ) T n x = passes
no_correlation (LedoitWolf ConstantVariance) T n x = passes
no_correlation (LedoitWolf ConstantCorrelation) T n x = constant_returns n (covariance T x) (largest T x)

-- unadjusted 9: a given variance is exact, one from the returns is 0 to rounding
unfoldable pub no_variance : Bool → Estimate Float → ℕ → ℕ → Matrix → Matrix → Check
no_variance true estimate T n x b = passes
no_variance false estimate T n x b = elim (is_given estimate) [ true ↦ zero_variance n b | false ↦ constant_returns n b (largest T x) ]

-- 10 (side)
abbrev pub wrong_side : Estimate Float → ℕ → ℕ → Check
wrong_side estimate side n = when (is_given estimate && not (eqb side n)) (WrongSide side)

-- fields 1, 2, 3 or 6, 4; 8; 9 by constant correlation; 10 (side)
abbrev pub by_settings : Settings → ℕ → ℕ → ℕ → Matrix → List Check
by_settings s T n side x =
    bad_regularization s.regularization ∷
    bad_shrinkage s.shrinkage ∷
    bad_estimate s.estimate ∷
    not_the_sample s.shrinkage s.estimate ∷
    no_correlation s.shrinkage T n x ∷
    wrong_side s.estimate side n ∷
    []

-- 6 and 14, by the answer a
abbrev pub by_answer : ℕ → Matrix → List Check
by_answer n a = when (not (all_finite n n a)) CovarianceNotFinite ∷ when (eq (trace n a) zero⁺) Singular ∷ []

-- unadjusted 9, by the estimate b; then by the answer
abbrev pub by_estimate : Settings → Float → ℕ → ℕ → Matrix → Matrix → Matrix → List Check
by_estimate s δ T n x b a = no_variance (is_adjusted δ s.regularization) s.estimate T n x b ∷ by_answer n a

-- fields 1, 2, 3 or 6, 4; 8; 9 by constant correlation; 10 (side); unadjusted 9; 6; 14. b is the estimate, a the answer
unfoldable pub of_settings : Settings → Float → ℕ → ℕ → ℕ → Matrix → Matrix → Matrix → List Check
of_settings s δ T n side x b a = by_settings s T n side x ++ by_estimate s δ T n x b a

-- 9, and 14 by the correlations C
abbrev pub by_correlations : ℕ → (ℕ → Float) → Matrix → Matrix → List Check
by_correlations n largest Σ C = constant_returns n Σ largest ∷ when (not (all_finite n n C)) Singular ∷ []

-- 14 of a mean whose decomposition fails
abbrev pub not_found : Decomposition → Check
not_found d = when (not d.found) Singular

-- 14 by the correlations' decomposition
abbrev pub by_decomposition : ℕ → Decomposition → List Check
by_decomposition n d = not_found d ∷ when (singular n d) Singular ∷ []

-- Bayes-Stein's 9 and 14
abbrev pub of_correlations : ℕ → (ℕ → Float) → Matrix → Matrix → Decomposition → List Check
of_correlations n largest Σ C d = by_correlations n largest Σ C ++ by_decomposition n d

-- ---- the five calls

-- after 1 to 4; x are the returns
unfoldable pub adjusted_order : ℕ → ℕ → Settings → List Float → ℕ → Matrix → Float → Matrix → Matrix → List Check
adjusted_order n T s given side x δ b a = by_returns T n x ++ of_given s given side ++ of_settings s δ T n side x b a

unfoldable pub ledoit_wolf_order : List Float → ℕ → ℕ → Target → List Check
ledoit_wolf_order r n T F = opening r n T 0 [] ++ no_correlation (LedoitWolf F) T n (at r n) ∷ []

unfoldable pub weighted_order : List Float → ℕ → ℕ → Decay Float → List Float → List Check
weighted_order r n T decay slice = opening r n T n slice ++ bad_decay decay ∷ []

unfoldable pub james_stein_order : List Float → ℕ → ℕ → ℕ → List Float → Decomposition → List Check
james_stein_order r n T limit slice d = opening r n T n slice ++ bad_sweep_limit limit ∷ not_found d ∷ []

-- in each asset's unit: the largest returns, the covariance Σ, and its correlations C with their decomposition
unfoldable pub bayes_stein_order : List Float → ℕ → ℕ → ℕ → List Float → (ℕ → Float) → Matrix → Matrix → Decomposition → List Check
bayes_stein_order r n T limit slice largest Σ C d = opening r n T n slice ++ bad_sweep_limit limit ∷ of_correlations n largest Σ C d
