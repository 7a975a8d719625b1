-- `estimators::covariance::estimate_in` meets its contract: the settings are looked at first, then the estimate is made and finished.
use Rattle.tables.specs.Rows.{return_at}
use Rattle.estimators.proofs.Estimated.{estimated_refused, estimated_accepted}
use Rattle.estimators.proofs.covariance.estimate_in.Goals as goal

pub returns-in_err-check_settings : goal.returns-in_err-check_settings
returns-in_err-check_settings c g same =
    let a = c.args in
    let r = a.r.now in
    estimated_refused a.settings r.periods r.assets a.side (return_at r) a.made a.out.now g _ c.from_residual.ensures.1 c.in_err-check_settings.ensures

pub returns : goal.returns
returns c g same =
    let a = c.args in
    let r = a.r.now in
    estimated_accepted a.settings r.periods r.assets a.side (return_at r) a.made a.out.now a.given.now g
    c.in_ok-check_settings.ensures same c.intensity-delta.ensures c.put_base.ensures c.finish_in.ensures
