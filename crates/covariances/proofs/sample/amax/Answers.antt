-- `covariances::sample::amax` meets its contract: there are no units, and the rows are the returns.
use Rattle.std.proofs.Common.{◌∙◌}
use Rattle.tables.specs.Rows.{return_at}
use Rattle.covariances.proofs.Samples.{largest_of_lem}
use Rattle.covariances.proofs.sample.amax.Goals as goal

pub returns : goal.returns
returns c = let r = c.args.r.now in c.amax.ensures ∙ largest_of_lem r.assets r.periods _ (return_at r)
