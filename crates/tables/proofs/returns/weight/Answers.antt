-- `tables::returns::weight` meets its contract: NaN past the end of the list.
use Rattle.std.proofs.Common.{arith}
use lib.Ieee.{nan, of_bits}
use Rattle.tables.proofs.returns.weight.Goals as goal

pub returns-in-None : goal.returns-in-None
unfolding of_bits
returns-in-None c = c.in-None.ensures.lookup.4 (omega arith) nan
