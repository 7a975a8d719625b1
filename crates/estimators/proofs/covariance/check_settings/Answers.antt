-- `estimators::covariance::check_settings` meets its contract: the checks, one after the other.
use mathlib.Core.Path.{◌∙◌}
use Rattle.rules.proofs.Firsts.{first_alone, head_refuses, head_passes}
use Rattle.inputs.proofs.Refused.{refused}
use Rattle.estimators.proofs.covariance.check_settings.Goals as goal

pub returns-in_err-bad_regularization : goal.returns-in_err-bad_regularization
returns-in_err-bad_regularization c = refused _ c.from_residual.ensures.1 (head_refuses _ c.in_err-bad_regularization.ensures)

pub returns-in_err-bad_shrinkage : goal.returns-in_err-bad_shrinkage
returns-in_err-bad_shrinkage c = refused _ c.from_residual-in_err-bad_shrinkage.ensures.1 (head_refuses _ c.in_err-bad_shrinkage.ensures ∙ head_passes _ c.in_ok-bad_regularization.ensures)

pub returns-in_err-bad_estimate : goal.returns-in_err-bad_estimate
returns-in_err-bad_estimate c =
    refused _ c.from_residual-in_err-bad_estimate.ensures.1
    (head_refuses _ c.in_err-bad_estimate.ensures ∙ head_passes _ c.in_ok-bad_shrinkage.ensures ∙ head_passes _ c.in_ok-bad_regularization.ensures)

pub returns-in_err-not_the_sample : goal.returns-in_err-not_the_sample
returns-in_err-not_the_sample c =
    refused _ c.from_residual-in_err-not_the_sample.ensures.1
    (head_refuses _ c.in_err-not_the_sample.ensures ∙ head_passes _ c.in_ok-bad_estimate.ensures ∙ head_passes _ c.in_ok-bad_shrinkage.ensures ∙ head_passes _ c.in_ok-bad_regularization.ensures)

pub returns-in_err-no_correlation : goal.returns-in_err-no_correlation
returns-in_err-no_correlation c =
    refused _ c.from_residual-in_err-no_correlation.ensures.1
    (head_refuses _ c.in_err-no_correlation.ensures ∙ head_passes _ c.in_ok-not_the_sample.ensures ∙ head_passes _ c.in_ok-bad_estimate.ensures ∙ head_passes _ c.in_ok-bad_shrinkage.ensures
    ∙ head_passes _ c.in_ok-bad_regularization.ensures)

pub returns : goal.returns
returns c =
    c.wrong_side.ensures ∙ first_alone _ ∙ head_passes _ c.in_ok-no_correlation.ensures ∙ head_passes _ c.in_ok-not_the_sample.ensures ∙ head_passes _ c.in_ok-bad_estimate.ensures
    ∙ head_passes _ c.in_ok-bad_shrinkage.ensures ∙ head_passes _ c.in_ok-bad_regularization.ensures
