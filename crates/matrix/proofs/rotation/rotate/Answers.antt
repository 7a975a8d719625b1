-- `matrix::rotation::rotate` meets its contract: what its calls ensure, put together.
use Rattle.matrix.proofs.RotateSteps.{still, made}
use Rattle.matrix.proofs.rotation.rotate.Goals as goal

pub returns-in-None : goal.returns-in-None
returns-in-None c = still _ _ _ _ _ c.in-None.ensures

pub returns-in-Some : goal.returns-in-Some
returns-in-Some c = made _ _ _ _ _ c.in-Some.ensures c.turn_both.ensures c.turn_columns.ensures
