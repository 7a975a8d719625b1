-- `means::moments::Moments::over` meets its contract: `of_returns`, with the same exponent for every asset.
use Rattle.std.proofs.Common.{pos, neg_ℤ, ◌∙◌, arith}
use Rattle.leaves.specs.Scaling.{pow2_scaled}
use Rattle.leaves.proofs.Ints.{read_back}
use Rattle.matrix.specs.Limits.{max_side}
use Rattle.matrix.proofs.Lent.{part_at}
use Rattle.rules.specs.Sample.{scaled}
use Rattle.rules.proofs.SameReturns.{moments_same}
use Rattle.tables.specs.Rows.{return_at}
use Rattle.tables.proofs.Exponents.{read}
use Rattle.means.proofs.moments.Moments.over.Goals as goal

pub returns : goal.returns
unfolding scaled
returns c =
    let a = c.args in
    let r = a.r.now in
    let k = read a.exponent (omega arith) in
    let e = c.of_returns.ensures in
    (e.0, e.1 ∙ moments_same r.assets r.periods _ _ (λ t i ht b j. pow2_scaled (return_at r t i) (neg_ℤ ((part_at (read_back a.exponent) max_side r.assets r.shaped.1 (pos 0) i b ∙ k) j))))
