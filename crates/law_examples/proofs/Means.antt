-- The power-of-two law is not empty: for the intensity and the three means, pairs of inputs at the ends of the ranges.
use mathlib.Core.Path.{refl}
use Rattle.leaves.specs.Numbers.{one}
use Rattle.matrix.specs.Limits.{max_sweeps}
use Rattle.rules.specs.declared.Decay.TheVariants.{HalfLife, Lambda}
use Rattle.rules.specs.declared.Target.TheVariants.{ConstantVariance}
use Rattle.examples.proofs.Evaluated.{evaluated}
use Rattle.law.specs.Law as Law
use Rattle.law.specs.Law.{intensity, weighted_mean, james_stein, bayes_stein, ledoit_wolf, james, bayes}
use Rattle.law_examples.proofs.Inputs.{factor}
use Rattle.law_examples.proofs.Pairs.{Pair, pair}

-- Ledoit and Wolf's intensity, to constant variance
pub intensity_pair : Pair (intensity ConstantVariance) (intensity ConstantVariance)
unfolding evaluated
intensity_pair = pair refl refl tt tt ledoit_wolf

-- the exponentially weighted mean, half-life 1
pub mean_pair : Pair (weighted_mean (HalfLife one)) (weighted_mean (HalfLife one))
unfolding evaluated
mean_pair = pair refl refl (tt, (tt, (tt, tt))) (tt, (tt, (tt, tt))) Law.CopiedQuestion.weighted

-- the exponentially weighted mean, decay factor 0.94
pub factor_mean_pair : Pair (weighted_mean (Lambda factor)) (weighted_mean (Lambda factor))
unfolding evaluated
factor_mean_pair = pair refl refl (tt, (tt, (tt, tt))) (tt, (tt, (tt, tt))) Law.CopiedQuestion.weighted

-- the James-Stein mean
pub james_pair : Pair (james_stein max_sweeps) (james_stein max_sweeps)
unfolding evaluated
james_pair = pair refl refl (tt, (tt, (tt, (tt, tt)))) (tt, (tt, (tt, (tt, tt)))) james

-- the Bayes-Stein mean
pub bayes_pair : Pair (bayes_stein max_sweeps) (bayes_stein max_sweeps)
unfolding evaluated
bayes_pair = pair refl refl (tt, (tt, (tt, (tt, tt)))) (tt, (tt, (tt, (tt, tt)))) bayes
