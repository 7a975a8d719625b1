-- `matrix::by_columns::rotate` meets its contract: what its calls ensure, put together; the rows turned in v are V's columns.
use mathlib.Core.Path.{◌∙◌, ap}
use Rattle.matrix.specs.Inner.{by_columns}
use Rattle.matrix.proofs.RotateSteps.{still, made}
use Rattle.matrix.proofs.Flip.{flip_rows}
use Rattle.matrix.proofs.by_columns.rotate.Goals as goal

pub returns-in-None : goal.returns-in-None
returns-in-None c = still _ _ _ _ _ c.in-None.ensures

pub returns-in-Some : goal.returns-in-Some
returns-in-Some c =
    let columns = ap (by_columns c.args.n) c.turn_rows.ensures ∙ flip_rows _ _ _ _ _ _ c.requires.0 c.requires.1 c.requires.3 in
    made _ _ _ _ _ c.in-Some.ensures c.turn_symmetric.ensures columns
