-- `estimators::validate::bad_shrinkage` meets its contract, by the cases of the setting and of the first test.
use mathlib.Core.Logic.{inl, inr}
use lib.Ieee.{of_bits}
use Rattle.rules.specs.Order.{bad_shrinkage}
use Rattle.estimators.proofs.validate.bad_shrinkage.Goals as goal
use Rattle.estimators.proofs.validate.bad_shrinkage.Goals.{then-intensity, else-intensity}

pub returns-in-Unshrunk : goal.returns-in-Unshrunk
unfolding bad_shrinkage
returns-in-Unshrunk c = elim c.in-Unshrunk.is [ inl e ↦ rw e | inr e ↦ rw e.1 ]

pub returns-after-intensity : goal.returns-after-intensity
unfolding bad_shrinkage of_bits
returns-after-intensity c =
    let x = c.in-Fixed.is in
    elim c.if-intensity.branch [
      | then-intensity w ↦ rw (x, w.if-intensity.true) (rw w.good-is at c.when.ensures)
      | else-intensity w ↦ rw (x, w.if-intensity.false) (rw (w.good-is, w.if-intensity.false) at c.when.ensures)
    ]
