-- `matrix::rotation::turn` meets its contract: it is `turn`'s text.
use mathlib.Core.Path.{refl}
use Rattle.matrix.specs.Rotation.{turn}
use Rattle.matrix.proofs.rotation.turn.Goals as goal

pub returns : goal.returns
unfolding turn
returns c = refl
