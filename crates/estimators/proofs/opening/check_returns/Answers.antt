-- `estimators::opening::check_returns` meets its contract: the two checks, one after the other.
use mathlib.Core.Path.{ap, ◌∙◌}
use mathlib.Core.Bool.{Bool, not}
use Rattle.matrix.specs.Matrix.{at}
use Rattle.matrix.proofs.Alike.{finite_alike}
use Rattle.matrix.proofs.OfStored.{at_stored}
use Rattle.rules.specs.Refusals.{when}
use Rattle.rules.specs.Sample.{covariance}
use Rattle.rules.specs.declared.Refusal.TheVariants.{CovarianceNotFinite}
use Rattle.rules.proofs.Firsts.{first_alone, head_refuses, head_passes}
use Rattle.inputs.proofs.Refused.{refused}
use Rattle.tables.specs.Rows.{return_at}
use Rattle.estimators.proofs.opening.check_returns.Goals as goal

pub returns-in_err-check_finite : goal.returns-in_err-check_finite
returns-in_err-check_finite c = (c.covariance.ensures, refused _ c.from_residual.ensures.1 (head_refuses _ c.in_err-check_finite.ensures))

pub returns : goal.returns
returns c =
    let r = c.args.r.now in
    let table = c.covariance.ensures in
    let finite = c.all_finite.ensures ∙ finite_alike r.assets r.assets (at c.covariance.new.out r.assets) (covariance r.periods (return_at r)) (at_stored r.assets (covariance r.periods (return_at r)) table) in
    (table, c.when.ensures ∙ ap (λ (b : Bool). when (not b) CovarianceNotFinite) finite ∙ first_alone _ ∙ head_passes _ c.in_ok-check_finite.ensures)
