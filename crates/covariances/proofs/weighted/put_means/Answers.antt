-- `covariances::weighted::put_means` meets its contract: the rows that are summed up are the weights times the returns in their units.
use Rattle.std.proofs.Common.{◌∙◌}
use Rattle.leaves.proofs.Lists.{tab_long}
use Rattle.tables.specs.Rows.{return_at}
use Rattle.covariances.proofs.WeightedMeans.{mean_sums}
use Rattle.covariances.proofs.weighted.put_means.Goals as goal

pub returns : goal.returns
returns c =
    let a = c.args in
    let r = a.r.now in
    let h = c.requires in
    let u = c.put_units in
    c.divide.ensures
    ∙ mean_sums r.periods r.assets (return_at r) a.exponents.now a.weights.now _ _ _ _ (tab_long _ _ _ c.sum.ensures) h.2 u.ensures.0 u.ensures.1 c.sum.ensures c.sum-2.ensures
