-- `estimators::covariance::finish_in` meets its contract: the answer is copied where its checks pass.
use Rattle.tables.specs.Rows.{return_at}
use Rattle.estimators.proofs.Estimated.{finished_early, finished_late, finished_accepted}
use Rattle.estimators.proofs.covariance.finish_in.Goals as goal

pub returns-in_err-no_variance : goal.returns-in_err-no_variance
returns-in_err-no_variance c =
    let a = c.args in
    let r = a.r.now in
    finished_early a.settings a.intensity r.periods r.assets (return_at r) a.b.now a.made a.out.now c.is_adjusted-adjusted.ensures _ c.from_residual.ensures.1 c.in_err-no_variance.ensures

pub returns-in_err-check_answer : goal.returns-in_err-check_answer
returns-in_err-check_answer c =
    let a = c.args in
    let r = a.r.now in
    finished_late a.settings a.intensity r.periods r.assets (return_at r) a.b.now a.made a.out.now c.is_adjusted-adjusted.ensures
    c.adjust.ensures c.in_ok-no_variance.ensures _ c.from_residual-in_err-check_answer.ensures.1 c.in_err-check_answer.ensures

pub returns : goal.returns
returns c =
    let a = c.args in
    let r = a.r.now in
    finished_accepted a.settings a.intensity r.periods r.assets (return_at r) a.b.now a.made a.out.now c.is_adjusted-adjusted.ensures
    c.adjust.ensures c.in_ok-no_variance.ensures c.in_ok-check_answer.ensures c.copy.ensures
