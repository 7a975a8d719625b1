-- `estimators::covariance::no_correlation` meets its contract, by the cases of the shrinkage.
use mathlib.Core.Logic.{inl, inr}
use mathlib.Core.Path.{ap, ◌∙◌}
use Rattle.rules.specs.Refusals.{when_some}
use Rattle.rules.specs.Order.{no_correlation}
use Rattle.rules.specs.declared.Refusal.TheVariants.{ZeroVariance}
use Rattle.rules.proofs.Constant.{constant_stored}
use Rattle.estimators.proofs.covariance.no_correlation.Goals as goal

pub returns-in-Unshrunk : goal.returns-in-Unshrunk
unfolding no_correlation
returns-in-Unshrunk c = elim c.in-Unshrunk.is [ inl e ↦ rw e | inr e ↦ rw e.1 ]

pub returns-in-ConstantVariance : goal.returns-in-ConstantVariance
unfolding no_correlation
returns-in-ConstantVariance c = rw (c.in-LedoitWolf.is, c.in-ConstantVariance.is)

pub returns-in-ConstantCorrelation : goal.returns-in-ConstantCorrelation
unfolding no_correlation
returns-in-ConstantCorrelation c =
    rw (c.in-LedoitWolf.is, c.in-ConstantCorrelation.is)
    (c.check_constant.ensures ∙ ap (λ o. when_some o ZeroVariance) (constant_stored _ _ _ _ c.requires))
