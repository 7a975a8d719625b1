-- The power-of-two law is not empty: for the adjusted covariance, pairs of inputs at the ends of the ranges.
use mathlib.Core.Path.{◌≡◌, refl}
use mathlib.Core.Bool.{false}
use mathlib.Core.List.{[]}
use lib.IntN.{ℤ}
use lib.Ieee.{Float, fin}
use Rattle.leaves.specs.Numbers.{half, one}
use Rattle.matrix.specs.Limits.{max_sweeps}
use Rattle.rules.specs.declared.Decay.TheVariants.{HalfLife, Lambda}
use Rattle.rules.specs.declared.Estimate.{Estimate}
use Rattle.rules.specs.declared.Estimate.TheVariants.{Sample, Given, Weighted, SemiBelow}
use Rattle.rules.specs.declared.Target.TheVariants.{ConstantCorrelation}
use Rattle.rules.specs.declared.Shrinkage.{Shrinkage}
use Rattle.rules.specs.declared.Shrinkage.TheVariants.{Unshrunk, Fixed, LedoitWolf}
use Rattle.rules.specs.declared.Regularization.{Regularization}
use Rattle.rules.specs.declared.Regularization.TheVariants.{Unregularized, Ridge}
use Rattle.rules.specs.declared.Settings.{Settings}
use Rattle.rules.specs.Settings.{settings}
use Rattle.rules.specs.Adjusted.{is_sample}
use Rattle.examples.proofs.Evaluated.{evaluated}
use Rattle.law.specs.Law as Law
use Rattle.law.specs.Law.{Question, Input, adjusted, EstimateInRange, RegularizationInRange, ShrinkageInRange, SettingsInRange, CopiedEstimate, CopiedRegularization, CopiedSettings, sample, given, semi_below, unregularized, ridge, covariance}
use Rattle.law_examples.proofs.Inputs.{factor, low_return, high_return, low_covariance, high_covariance, matrix}
use Rattle.law_examples.proofs.Pairs.{Pair, pair}

-- ---- no matrix given: the question, its settings in range, and its settings scaled
abbrev ungiven : Estimate Float → Shrinkage Float → Regularization Float → Question
ungiven e h r = adjusted (settings e h r max_sweeps) [] 0

in_range : {a : Input} {s : Settings} → EstimateInRange a.periods s.estimate → RegularizationInRange s.regularization → ShrinkageInRange s.shrinkage (is_sample s.estimate) a.returns a.assets a.periods → SettingsInRange a s []
in_range e r h = record { estimate = e; given = λ g. tt; regularization = r; shrinkage = h }

copied : {k : ℤ} {s s' : Settings} → CopiedEstimate k s.estimate s'.estimate → CopiedRegularization k s.regularization s'.regularization → s.shrinkage ≡ s'.shrinkage → s.limit ≡ s'.limit → CopiedSettings k s s' [] []
copied e r h l = record { estimate = e; shrinkage = h; regularization = r; limit = l; given_length = refl; given = λ g. tt }

-- the sample covariance
pub sample_pair : Pair (ungiven Sample Unshrunk Unregularized) (ungiven Sample Unshrunk Unregularized)
unfolding evaluated
sample_pair = pair refl refl (in_range tt tt tt) (in_range tt tt tt) (covariance (copied sample unregularized refl refl))

-- shrunk by Ledoit and Wolf to constant correlation, and regularized by the smallest and the largest number of the range
pub shrunk_pair : Pair (ungiven Sample (LedoitWolf ConstantCorrelation) (Ridge (fin false 1 low_covariance))) (ungiven Sample (LedoitWolf ConstantCorrelation) (Ridge (fin false 1 high_covariance)))
unfolding evaluated
shrunk_pair = pair refl refl (in_range tt tt (tt, tt)) (in_range tt tt (tt, tt)) (covariance (copied sample (ridge (refl, refl)) refl refl))

-- exponentially weighted, half-life 1
pub weighted_pair : Pair (ungiven (Weighted (HalfLife one)) Unshrunk Unregularized) (ungiven (Weighted (HalfLife one)) Unshrunk Unregularized)
unfolding evaluated
weighted_pair = pair refl refl (in_range tt tt tt) (in_range tt tt tt) (covariance (copied Law.CopiedEstimate.weighted unregularized refl refl))

-- exponentially weighted, decay factor 0.94
pub factor_pair : Pair (ungiven (Weighted (Lambda factor)) Unshrunk Unregularized) (ungiven (Weighted (Lambda factor)) Unshrunk Unregularized)
unfolding evaluated
factor_pair = pair refl refl (in_range tt tt tt) (in_range tt tt tt) (covariance (copied Law.CopiedEstimate.weighted unregularized refl refl))

-- the semicovariance below the smallest and the largest threshold of the range
pub semi_pair : Pair (ungiven (SemiBelow (fin false 1 low_return)) Unshrunk Unregularized) (ungiven (SemiBelow (fin false 1 high_return)) Unshrunk Unregularized)
unfolding evaluated
semi_pair = pair refl refl (in_range tt tt tt) (in_range tt tt tt) (covariance (copied (semi_below (refl, refl)) unregularized refl refl))

-- ---- a given matrix of entries at the ends of the range, shrunk by a half
pub given_pair : Pair (adjusted (settings Given (Fixed half) Unregularized max_sweeps) (matrix low_covariance) 2) (adjusted (settings Given (Fixed half) Unregularized max_sweeps) (matrix high_covariance) 2)
unfolding evaluated
given_pair = pair refl refl (record { estimate = tt; given = λ g. (tt, (tt, (tt, (tt, tt)))); regularization = tt; shrinkage = (tt, tt) }) (record { estimate = tt; given = λ g. (tt, (tt, (tt, (tt, tt)))); regularization = tt; shrinkage = (tt, tt) }) (covariance (record { estimate = given; shrinkage = refl; regularization = unregularized; limit = refl; given_length = refl; given = λ g. ((refl, refl), ((refl, refl), ((refl, refl), ((refl, refl), tt)))) }))
