-- `covariances::adjusted::is_adjusted` meets its contract, by the cases of the regularization and of the first test.
use lib.Ieee.{of_bits}
use Rattle.rules.specs.Adjusted.{is_adjusted}
use Rattle.covariances.proofs.adjusted.is_adjusted.Goals as goal

pub returns-in-Unregularized : goal.returns-in-Unregularized
unfolding is_adjusted of_bits
returns-in-Unregularized c = rw c.in-Unregularized.is

pub returns-then-intensity : goal.returns-then-intensity
unfolding is_adjusted of_bits
returns-then-intensity c = rw (c.in-Ridge.is, c.if-intensity.true)

pub returns-else-intensity : goal.returns-else-intensity
unfolding is_adjusted of_bits
returns-else-intensity c = rw (c.in-Ridge.is, c.if-intensity.false)
