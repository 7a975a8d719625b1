-- `covariances::adjusted::shrink` meets its contract, by the cases of the shrinkage and its target.
use Rattle.std.proofs.Common.{◌∙◌}
use Rattle.matrix.proofs.Stored.{whole}
use Rattle.rules.specs.Adjusted.{shrunk}
use Rattle.covariances.proofs.adjusted.shrink.Goals as goal

pub returns-in-Unshrunk : goal.returns-in-Unshrunk
unfolding shrunk
returns-in-Unshrunk c = rw c.in-Unshrunk.is (c.copy.ensures ∙ whole _ _ c.requires.2)

pub returns-in-Fixed : goal.returns-in-Fixed
unfolding shrunk
returns-in-Fixed c = rw c.in-Fixed.is c.mix_variance.ensures

pub returns-in-ConstantVariance : goal.returns-in-ConstantVariance
unfolding shrunk
returns-in-ConstantVariance c = rw (c.in-LedoitWolf.is, c.in-ConstantVariance.is) c.mix_variance-in-ConstantVariance.ensures

pub returns-in-ConstantCorrelation : goal.returns-in-ConstantCorrelation
unfolding shrunk
returns-in-ConstantCorrelation c = rw (c.in-LedoitWolf.is, c.in-ConstantCorrelation.is) c.mix_correlation.ensures
