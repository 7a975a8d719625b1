-- `covariances::sample::means_in_units` meets its contract: the columns' sums over the count of periods.
use Rattle.std.proofs.Common.{◌∙◌}
use Rattle.leaves.proofs.Lists.{tab_long}
use Rattle.tables.specs.Rows.{return_at}
use Rattle.covariances.proofs.Samples.{means_of}
use Rattle.covariances.proofs.sample.means_in_units.Goals as goal

pub returns : goal.returns
returns c =
    let a = c.args in
    let r = a.r.now in
    c.divide.ensures
    ∙ means_of _ r.assets r.periods a.units.now _ _ (return_at r) _ _ (tab_long _ _ _ c.sum.ensures) c.nearest_u64_to_f64.ensures c.sum.ensures
