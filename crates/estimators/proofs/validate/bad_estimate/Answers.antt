-- `estimators::validate::bad_estimate` meets its contract, by the cases of the estimate.
use mathlib.Core.Logic.{inl, inr}
use Rattle.rules.specs.Order.{bad_estimate}
use Rattle.estimators.proofs.validate.bad_estimate.Goals as goal

pub returns-in-Sample : goal.returns-in-Sample
unfolding bad_estimate
returns-in-Sample c = elim c.in-Sample.is [ inl e ↦ rw e | inr (inl e) ↦ rw e | inr (inr e) ↦ rw e ]

pub returns-in-Weighted : goal.returns-in-Weighted
unfolding bad_estimate
returns-in-Weighted c = rw c.in-Weighted.is c.bad_decay.ensures

pub returns-in-SemiBelow : goal.returns-in-SemiBelow
unfolding bad_estimate
returns-in-SemiBelow c = rw c.in-SemiBelow.is (rw c.is_finite.ensures at c.when.ensures)
