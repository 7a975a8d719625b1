-- `estimators::calls::adjusted_covariance` meets its contract: the shape is looked at, then the rest in as much of the slice as the answer fills.
use mathlib.Core.Path.{sym, ◌∙◌}
use Prim.Native.Nat.{◌*◌}
use lib.Seq.{length-take-le}
use Rattle.matrix.proofs.Lent.{square_fits}
use Rattle.rules.proofs.Opened.{shape_fits_lem}
use Rattle.rules.proofs.AdjustedCall.{adjusted_is}
use Rattle.estimators.proofs.Refusing.{fits, by_its_shape}
use Rattle.estimators.proofs.calls.adjusted_covariance.Goals as goal

pub returns-in_err-check_shape : goal.returns-in_err-check_shape
returns-in_err-check_shape c =
    let a = c.args in
    by_its_shape a.returns.now a.n a.periods (a.n * a.n) a.answer.now _ _ _ _ c.from_residual.ensures.1 c.in_err-check_shape.ensures
    ∙ sym (adjusted_is a.returns.now a.n a.periods a.settings a.given.now a.side a.answer.now)

pub invariant_of-r : goal.invariant_of-r
invariant_of-r c = record { shaped = (fits c.in_ok-check_shape.ensures).0 }

pub overflow_mul-size : goal.overflow_mul-size
overflow_mul-size c = square_fits _ (fits c.in_ok-check_shape.ensures).0.1

pub slice_bounds-adjusted_covariance-end : goal.slice_bounds-adjusted_covariance-end
slice_bounds-adjusted_covariance-end c = (fits c.in_ok-check_shape.ensures).1

pub slice_bounds-adjusted_covariance-end-2 : goal.slice_bounds-adjusted_covariance-end-2
slice_bounds-adjusted_covariance-end-2 c = sym (length-take-le _ _ (fits c.in_ok-check_shape.ensures).1)

pub adjusted_covariance-requires : goal.adjusted_covariance-requires
adjusted_covariance-requires c = length-take-le _ _ (fits c.in_ok-check_shape.ensures).1

pub returns : goal.returns
returns c =
    let a = c.args in
    let s = fits c.in_ok-check_shape.ensures in
    shape_fits_lem a.returns.now a.n a.periods (a.n * a.n) a.answer.now _ _ _ s.0 s.1
    (c.adjusted_covariance.ensures ∙ adjusted_is a.returns.now a.n a.periods a.settings a.given.now a.side _)
    ∙ sym (adjusted_is a.returns.now a.n a.periods a.settings a.given.now a.side a.answer.now)
