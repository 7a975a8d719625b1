-- `estimators::calls::ledoit_wolf` meets its contract: the shape is looked at, then the rest.
use Rattle.estimators.proofs.LedoitWolfCall.{shape_refuses}
use Rattle.estimators.proofs.Refusing.{fits}
use Rattle.estimators.proofs.calls.ledoit_wolf.Goals as goal

pub returns-in_err-check_shape : goal.returns-in_err-check_shape
returns-in_err-check_shape c =
    let a = c.args in
    shape_refuses a.returns.now a.n a.periods a.target _ c.from_residual.ensures.1 c.in_err-check_shape.ensures

pub invariant_of-r : goal.invariant_of-r
invariant_of-r c = record { shaped = (fits {m = 0} {room = 0} c.in_ok-check_shape.ensures).0 }
