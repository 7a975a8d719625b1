-- `estimators::validate::not_the_sample` meets its contract, by the cases of the shrinkage.
use mathlib.Core.Logic.{inl, inr}
use Rattle.rules.specs.Order.{not_the_sample}
use Rattle.estimators.proofs.validate.not_the_sample.Goals as goal

pub returns-in-Unshrunk : goal.returns-in-Unshrunk
unfolding not_the_sample
returns-in-Unshrunk c = elim c.in-Unshrunk.is [ inl e ↦ rw e | inr e ↦ rw e.1 ]

pub returns-in-LedoitWolf : goal.returns-in-LedoitWolf
unfolding not_the_sample
returns-in-LedoitWolf c = rw (c.in-LedoitWolf.is, ← c.is_sample.ensures) c.when.ensures
