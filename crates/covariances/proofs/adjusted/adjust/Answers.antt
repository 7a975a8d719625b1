-- `covariances::adjusted::adjust` meets its contract: `regularize` after `shrink`, in arrays of the largest size.
use Rattle.rules.specs.Adjusted.{adjusted}
use Rattle.covariances.proofs.adjusted.adjust.Goals as goal

pub returns : goal.returns
unfolding adjusted
returns c = c.regularize.ensures _ c.shrink.ensures
