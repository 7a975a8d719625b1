-- `estimators::expected_returns::bayes_stein_mean` meets its contract: each return is the case of the call that the checks pick.
use mathlib.Core.Path.{◌∙◌}
use Rattle.estimators.proofs.MeanCalls.{bayes_stein_refused, bayes_stein_accepted}
use Rattle.estimators.proofs.expected_returns.bayes_stein_mean.Goals as goal

pub returns-in_err-check_limited : goal.returns-in_err-check_limited
returns-in_err-check_limited c =
    let a = c.args in
    let r = a.r.now in
    bayes_stein_refused r.numbers.now r.assets r.periods a.out.now r.shaped c.requires a.limit _ c.from_residual.ensures.1 c.in_err-check_limited.ensures.0

pub returns : goal.returns
returns c =
    let a = c.args in
    let r = a.r.now in
    c.bayes_stein_in.ensures ∙ bayes_stein_accepted r.numbers.now r.assets r.periods a.out.now r.shaped c.requires a.limit c.in_ok-check_limited.ensures.0
