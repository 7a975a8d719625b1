-- `matrix::tables::flip` meets its contract: the transpose, copied back.
use mathlib.Core.Path.{◌∙◌}
use Rattle.matrix.proofs.tables.flip.Goals as goal

pub returns : goal.returns
returns c = c.copy.ensures ∙ c.put_transpose.ensures
