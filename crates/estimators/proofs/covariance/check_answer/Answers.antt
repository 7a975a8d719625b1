-- `estimators::covariance::check_answer` meets its contract: its two checks, one after the other.
use mathlib.Core.Path.{ap, ◌∙◌}
use mathlib.Core.Bool.{Bool, not}
use lib.Ieee.{Float, eq, of_bits}
use Rattle.leaves.specs.Numbers.{zero⁺}
use Rattle.rules.specs.Refusals.{when}
use Rattle.rules.specs.declared.Refusal.TheVariants.{CovarianceNotFinite, Singular}
use Rattle.rules.proofs.Firsts.{first_alone, head_refuses, head_passes}
use Rattle.inputs.proofs.Refused.{refused}
use Rattle.estimators.proofs.covariance.check_answer.Goals as goal

pub returns-in_err-when : goal.returns-in_err-when
returns-in_err-when c = refused _ c.from_residual.ensures.1 (head_refuses _ (c.in_err-when.ensures ∙ ap (λ (b : Bool). when (not b) CovarianceNotFinite) c.all_finite.ensures))

pub returns : goal.returns
unfolding of_bits
returns c =
    c.when-2.ensures ∙ ap (λ (t : Float). when (eq t zero⁺) Singular) c.trace-flat.ensures ∙ first_alone _
    ∙ head_passes _ (c.in_ok-when.ensures ∙ ap (λ (b : Bool). when (not b) CovarianceNotFinite) c.all_finite.ensures)
