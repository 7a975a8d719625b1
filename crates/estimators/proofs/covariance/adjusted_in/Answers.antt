-- `estimators::covariance::adjusted_in` meets its contract: the returns, the given matrix, then the rest.
use mathlib.Core.Path.{sym}
use Rattle.estimators.proofs.OfGiven.{examined_refused, examined_accepted, same_side}
use Rattle.estimators.proofs.Estimated.{returns_refuse, given_refuses, given_passes}
use Rattle.estimators.proofs.covariance.adjusted_in.Goals as goal

pub returns-in_err-check_returns : goal.returns-in_err-check_returns
returns-in_err-check_returns c =
    let a = c.args in
    let r = a.r.now in
    returns_refuse r.numbers.now r.assets r.periods a.settings a.given.now a.side a.out.now r.shaped c.requires.4 _ c.from_residual.ensures.1 c.in_err-check_returns.ensures.1

pub returns-in_err-made : goal.returns-in_err-made
returns-in_err-made c =
    let a = c.args in
    let r = a.r.now in
    given_refuses r.numbers.now r.assets r.periods a.settings a.given.now a.side a.out.now r.shaped c.requires.4 c.in_ok-check_returns.ensures.1 _ c.from_residual-in_err-made.ensures.1
    (examined_refused _ _ c.in_err-made.ensures.0)

pub returns : goal.returns
returns c =
    let a = c.args in
    let r = a.r.now in
    let e = c.in_ok-made.ensures in
    let found = examined_accepted _ _ e.0 in
    given_passes r.numbers.now r.assets r.periods a.settings a.given.now a.side a.out.now r.shaped c.requires.4 c.in_ok-check_returns.ensures.1 found
    (c.estimate_in.ensures _ (λ given same. same_side a.side r.assets _ _ (e.1 given (sym found.0)) same))
