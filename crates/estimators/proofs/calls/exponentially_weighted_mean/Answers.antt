-- `estimators::calls::exponentially_weighted_mean` meets its contract: the shape is looked at, then the rest in as much of the slice as the answer fills.
use mathlib.Core.Path.{sym}
use lib.Seq.{length-take-le}
use Rattle.rules.specs.Order.{weighted_order}
use Rattle.rules.specs.Calls.{exponentially_weighted_mean}
use Rattle.rules.proofs.Opened.{shape_fits_lem}
use Rattle.estimators.proofs.Refusing.{fits, by_its_shape}
use Rattle.estimators.proofs.calls.exponentially_weighted_mean.Goals as goal

pub returns-in_err-check_shape : goal.returns-in_err-check_shape
unfolding exponentially_weighted_mean weighted_order
returns-in_err-check_shape c =
    let a = c.args in
    by_its_shape a.returns.now a.n a.periods a.n a.answer.now _ _ _ _ c.from_residual.ensures.1 c.in_err-check_shape.ensures

pub invariant_of-r : goal.invariant_of-r
invariant_of-r c = record { shaped = (fits c.in_ok-check_shape.ensures).0 }

pub slice_bounds-exponentially_weighted_mean-end : goal.slice_bounds-exponentially_weighted_mean-end
slice_bounds-exponentially_weighted_mean-end c = (fits c.in_ok-check_shape.ensures).1

pub slice_bounds-exponentially_weighted_mean-end-2 : goal.slice_bounds-exponentially_weighted_mean-end-2
slice_bounds-exponentially_weighted_mean-end-2 c = sym (length-take-le _ _ (fits c.in_ok-check_shape.ensures).1)

pub exponentially_weighted_mean-requires : goal.exponentially_weighted_mean-requires
exponentially_weighted_mean-requires c = length-take-le _ _ (fits c.in_ok-check_shape.ensures).1

pub returns : goal.returns
unfolding exponentially_weighted_mean weighted_order
returns c =
    let a = c.args in
    let s = fits c.in_ok-check_shape.ensures in
    shape_fits_lem a.returns.now a.n a.periods a.n a.answer.now _ _ _ s.0 s.1 c.exponentially_weighted_mean.ensures
