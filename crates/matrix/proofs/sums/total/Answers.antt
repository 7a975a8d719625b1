-- `matrix::sums::total` meets its contract: the numbers of the slice are the entries, row by row.
use Rattle.matrix.specs.Matrix.{total}
use Rattle.matrix.proofs.SumOver.{sum_stored}
use Rattle.matrix.proofs.sums.total.Goals as goal

pub returns : goal.returns
unfolding total
returns c = let a = c.args in sum_stored (λ x. x) a.a.now a.n c.sum.ensures c.requires
