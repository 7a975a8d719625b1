use Rattle.std.proofs.Common.{◌+◌}
use Rattle.leaves.proofs.Whole.{pos_part, neg_part}
use Rattle.leaves.proofs.scaling.+pow2_scaled.Given as goal

abbrev pub decreases-pow2_scaled : goal.decreases-pow2_scaled
decreases-pow2_scaled l = pos_part l.k + neg_part l.k
