-- `covariances::weighted::means` meets its contract: each mean is put back from its unit.
use Rattle.std.proofs.Common.{◌∙◌, length-take-le}
use Rattle.leaves.proofs.Lists.{tab_long}
use Rattle.tables.specs.Rows.{return_at}
use Rattle.covariances.proofs.WeightedMeans.{mean_back}
use Rattle.covariances.proofs.weighted.means.Goals as goal

pub returns : goal.returns
returns c =
    let r = c.args.r.now in
    let p = c.put_exponents in
    let m = c.put_means in
    let l = c.amax in
    c.scale_back.ensures
    ∙ mean_back r.periods r.assets (return_at r) _ c.args.weights.now _ _ (length-take-le _ _ r.shaped.1) (tab_long _ _ _ m.ensures) l.ensures p.ensures.0 m.ensures
