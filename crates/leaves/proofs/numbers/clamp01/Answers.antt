-- `leaves::numbers::clamp01` meets its contract: it is std's definition, at 0 and 1.
use lib.Ieee.{of_bits}
use Rattle.leaves.specs.Numbers.{clamp01}
use Rattle.leaves.proofs.numbers.clamp01.Goals as goal

pub returns : goal.returns
unfolding clamp01 of_bits
returns c = c.clamp.ensures.value
