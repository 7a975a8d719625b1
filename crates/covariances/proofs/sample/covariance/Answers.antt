-- `covariances::sample::covariance` meets its contract: there are no units.
use Rattle.std.proofs.Common.{◌∙◌}
use Rattle.rules.proofs.SameReturns.{covariance_same}
use Rattle.tables.specs.Rows.{return_at}
use Rattle.tables.proofs.Formed.{unit_none}
use Rattle.covariances.proofs.sample.covariance.Goals as goal

pub returns : goal.returns
returns c =
    let r = c.args.r.now in
    c.covariance_in_units.ensures c.means_in_units.ensures ∙ covariance_same r.assets r.periods _ _ (λ t i ht. unit_none r.assets (return_at r) t i)
