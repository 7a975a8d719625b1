-- `paper::answer::bits` meets its contract, test by test.
use mathlib.Core.Path.{sym, ◌∙◌}
use lib.Ieee.{to_bits}
use Rattle.paper.proofs.Screens.{only_nan}
use Rattle.paper.proofs.answer.bits.Goals as goal

pub returns-then-is_nan : goal.returns-then-is_nan
unfolding to_bits
returns-then-is_nan c = rw (only_nan _ (sym c.is_nan.ensures.value ∙ c.if-is_nan.true))
