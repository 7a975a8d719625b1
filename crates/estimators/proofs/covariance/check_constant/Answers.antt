-- `estimators::covariance::check_constant` meets its contract: the rule, by the volatilities under s and the largest returns.
use mathlib.Core.Path.{ap, ◌∙◌}
use Rattle.rules.specs.Refusals.{when_some}
use Rattle.rules.specs.declared.Refusal.TheVariants.{ZeroVariance}
use Rattle.rules.proofs.Constant.{constant_sizes}
use Rattle.estimators.proofs.covariance.check_constant.Goals as goal

pub returns : goal.returns
returns c =
    let l = c in
    c.constant_returns.ensures _ l.put_volatilities.ensures
    ∙ ap (λ o. when_some o ZeroVariance) (constant_sizes _ _ _ _ l.amax.ensures)
