-- `estimators::expected_returns::exponentially_weighted_mean` meets its contract: the returns and the decay are looked at, then the means are written.
use Rattle.estimators.proofs.MeanCalls.{weighted_refused, decay_refused, weighted_accepted}
use Rattle.estimators.proofs.expected_returns.exponentially_weighted_mean.Goals as goal

pub returns-in_err-check_opened : goal.returns-in_err-check_opened
returns-in_err-check_opened c =
    let a = c.args in
    let r = a.r.now in
    weighted_refused r.numbers.now r.assets r.periods a.out.now r.shaped c.requires a.decay _ c.from_residual.ensures.1 c.in_err-check_opened.ensures

pub returns-in_err-bad_decay : goal.returns-in_err-bad_decay
returns-in_err-bad_decay c =
    let a = c.args in
    let r = a.r.now in
    decay_refused r.numbers.now r.assets r.periods a.out.now r.shaped c.requires a.decay _ c.from_residual-in_err-bad_decay.ensures.1 c.in_ok-check_opened.ensures c.in_err-bad_decay.ensures

pub returns : goal.returns
returns c =
    let a = c.args in
    let r = a.r.now in
    weighted_accepted r.numbers.now r.assets r.periods a.out.now r.shaped c.requires a.decay c.in_ok-check_opened.ensures c.in_ok-bad_decay.ensures c.log_decay-l.ensures c.mean_of.ensures
