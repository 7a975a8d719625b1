-- `estimators::covariance::no_variance` meets its contract, by the two tests.
use Rattle.rules.specs.Order.{no_variance}
use Rattle.estimators.proofs.covariance.no_variance.Goals as goal

pub returns-then-adjusted : goal.returns-then-adjusted
unfolding no_variance
returns-then-adjusted c = rw c.if-adjusted.true

pub returns-then-is_given : goal.returns-then-is_given
unfolding no_variance
returns-then-is_given c = rw (c.if-adjusted.false, ← c.is_given.ensures, c.if-is_given.true) c.zero_variance.ensures

pub returns-else-is_given : goal.returns-else-is_given
unfolding no_variance
returns-else-is_given c = rw (c.if-adjusted.false, ← c.is_given.ensures, c.if-is_given.false) c.check_constant.ensures
