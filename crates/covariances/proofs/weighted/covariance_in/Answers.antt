-- `covariances::weighted::covariance_in` meets its contract: the rows that are formed are the deviations times the roots.
use Rattle.std.proofs.Common.{ℕ, ap, ◌∙◌}
use Rattle.rules.specs.Weighted.{weights}
use Rattle.tables.specs.Rows.{return_at}
use Rattle.covariances.proofs.Grams.{weighted_alike}
use Rattle.covariances.proofs.weighted.covariance_in.Goals as goal

pub returns : goal.returns
returns c =
    let a = c.args in
    let r = a.r.now in
    let h = c.requires in
    weighted_alike r.periods r.assets _ a.l (return_at r) h.1
    (c.put_weights.ensures ∙ ap (λ (m : ℕ). weights m a.l) h.0) c.denominator.ensures c.means.ensures c.put_roots.ensures c.gram.ensures
