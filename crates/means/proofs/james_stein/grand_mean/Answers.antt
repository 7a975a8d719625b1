-- `means::james_stein::grand_mean` meets its contract: the sum over the count.
use Rattle.std.proofs.Common.{length-take-le}
use Rattle.leaves.specs.Numbers.{◌⊘◌}
use Rattle.matrix.proofs.Lent.{lent}
use Rattle.rules.specs.JamesStein.{grand_mean}
use Rattle.means.proofs.james_stein.grand_mean.Goals as goal

pub returns : goal.returns
unfolding grand_mean
returns c = let a = c.args in λ i. rw (length-take-le a.m.n a.m.mean (search lent)) at c.sum.ensures i ⊘ c.nearest_u64_to_f64.ensures i
