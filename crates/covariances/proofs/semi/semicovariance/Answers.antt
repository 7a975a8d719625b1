-- `covariances::semi::semicovariance` meets its contract: below the means.
use Rattle.rules.specs.Sample.{mean}
use Rattle.rules.specs.Semi.{semicovariance}
use Rattle.tables.specs.Rows.{return_at}
use Rattle.covariances.proofs.semi.semicovariance.Goals as goal

pub returns : goal.returns
unfolding semicovariance
returns c = let r = c.args.r.now in c.put_below.ensures (mean r.periods (return_at r)) c.means.ensures
