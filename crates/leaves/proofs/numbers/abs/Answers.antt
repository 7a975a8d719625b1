-- `leaves::numbers::abs` meets its contract: std's definition has the same cases.
use Rattle.std.proofs.Common.{◌∙◌}
use Rattle.leaves.proofs.NumbersStd.{std_abs}
use Rattle.leaves.proofs.numbers.abs.Goals as goal

pub returns : goal.returns
returns c = c.abs.ensures.value ∙ std_abs c.args.x
