-- `covariances::base::put_base` meets its contract, by the cases of the estimate.
use Rattle.std.proofs.Common.{sym, ap, ◌∙◌}
use lib.Ieee.{Float}
use Rattle.matrix.specs.Matrix.{rows}
use Rattle.matrix.proofs.Stored.{whole}
use Rattle.matrix.proofs.OfStored.{rows_long}
use Rattle.rules.specs.Weighted.{weighted_covariance}
use Rattle.rules.specs.Adjusted.{base}
use Rattle.tables.specs.Rows.{return_at}
use Rattle.covariances.proofs.base.put_base.Goals as goal

pub copy-requires : goal.copy-requires
copy-requires c = let h = c.requires in rows_long _ _ _ h.0 ∙ sym h.2

pub returns-in-Sample : goal.returns-in-Sample
unfolding base
returns-in-Sample c = rw c.in-Sample.is (c.copy.ensures ∙ c.requires.0)

pub returns-in-Given : goal.returns-in-Given
unfolding base
returns-in-Given c = rw c.in-Given.is (c.copy-in-Given.ensures ∙ whole _ _ c.requires.1)

pub returns-in-Weighted : goal.returns-in-Weighted
unfolding base
returns-in-Weighted c =
    let r = c.args.r.now in
    rw c.in-Weighted.is (c.covariance.ensures ∙ ap (λ (l : Float). rows r.assets r.assets (weighted_covariance r.periods l (return_at r))) c.log_decay.ensures)

pub returns-in-Semi : goal.returns-in-Semi
unfolding base
returns-in-Semi c = rw c.in-Semi.is c.semicovariance.ensures

pub returns-in-SemiBelow : goal.returns-in-SemiBelow
unfolding base
returns-in-SemiBelow c = rw c.in-SemiBelow.is c.semicovariance_below.ensures
