-- `covariances::sample::covariance_in_units` meets its contract: the second moments of the deviations over the count of periods less one.
use Rattle.tables.specs.Rows.{return_at}
use Rattle.covariances.proofs.Samples.{covariance_of_lem}
use Rattle.covariances.proofs.sample.covariance_in_units.Goals as goal

pub returns : goal.returns
returns c h =
    let a = c.args in
    let r = a.r.now in
    covariance_of_lem r.assets r.periods a.units.now a.means.now _ (return_at r) c.nearest_u64_to_f64.ensures c.gram.ensures h c.divide.ensures
