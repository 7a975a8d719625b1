-- `estimators::covariance::ledoit_wolf_in` meets its contract: the returns and the correlations are looked at, then the intensity is taken.
use Rattle.estimators.proofs.LedoitWolfCall.{returns_refuse, correlation_refuses, accepted}
use Rattle.estimators.proofs.covariance.ledoit_wolf_in.Goals as goal

pub returns-in_err-check_returns : goal.returns-in_err-check_returns
returns-in_err-check_returns c =
    let a = c.args in
    let r = a.r.now in
    returns_refuse r.numbers.now r.assets r.periods a.target _ c.from_residual.ensures.1 r.shaped c.in_err-check_returns.ensures.1

pub returns-in_err-no_correlation : goal.returns-in_err-no_correlation
returns-in_err-no_correlation c =
    let a = c.args in
    let r = a.r.now in
    correlation_refuses r.numbers.now r.assets r.periods a.target _ c.from_residual-in_err-no_correlation.ensures.1 r.shaped c.in_ok-check_returns.ensures.1 c.in_err-no_correlation.ensures

pub returns : goal.returns
returns c =
    let a = c.args in
    let r = a.r.now in
    accepted r.numbers.now r.assets r.periods a.target r.shaped c.in_ok-check_returns.ensures.1 c.in_ok-no_correlation.ensures c.ledoit_wolf.ensures
