-- `covariances::targets::average_variance` meets its contract: what its two calls ensure, divided.
use Rattle.leaves.specs.Numbers.{◌⊘◌}
use Rattle.rules.specs.LedoitWolf.{average_variance}
use Rattle.covariances.proofs.targets.average_variance.Goals as goal

pub returns : goal.returns
unfolding average_variance
returns c = λ t. c.trace.ensures t ⊘ c.nearest_u64_to_f64.ensures t
