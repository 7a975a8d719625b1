use Rattle.std.proofs.Common.{◌-◌}
use Rattle.leaves.proofs.Exponent.{field}
use Rattle.leaves.proofs.scaling.+binary_exponent.Given as goal

abbrev pub decreases-binary_exponent : goal.decreases-binary_exponent
decreases-binary_exponent l = 1 - field l.x
