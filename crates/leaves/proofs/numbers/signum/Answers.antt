-- `leaves::numbers::signum` meets its contract: std's definition has the same cases.
use Rattle.std.proofs.Common.{◌∙◌}
use Rattle.leaves.proofs.NumbersStd.{std_signum}
use Rattle.leaves.proofs.numbers.signum.Goals as goal

pub returns : goal.returns
returns c = c.signum.ensures ∙ std_signum c.args.x
