-- `estimators::covariance::intensity` meets its contract, by the cases of the shrinkage.
use lib.Ieee.{of_bits}
use Rattle.rules.specs.Adjusted.{intensity}
use Rattle.estimators.proofs.covariance.intensity.Goals as goal

pub returns-in-Unshrunk : goal.returns-in-Unshrunk
unfolding intensity of_bits
returns-in-Unshrunk c = rw c.in-Unshrunk.is

pub returns-in-Fixed : goal.returns-in-Fixed
unfolding intensity
returns-in-Fixed c = rw c.in-Fixed.is

pub returns-in-LedoitWolf : goal.returns-in-LedoitWolf
unfolding intensity
returns-in-LedoitWolf c = rw c.in-LedoitWolf.is c.ledoit_wolf.ensures
