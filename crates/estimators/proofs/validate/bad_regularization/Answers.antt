-- `estimators::validate::bad_regularization` meets its contract, by the cases of the setting and of the first test.
use lib.Ieee.{of_bits}
use Rattle.rules.specs.Order.{bad_regularization}
use Rattle.estimators.proofs.validate.bad_regularization.Goals as goal
use Rattle.estimators.proofs.validate.bad_regularization.Goals.{then-is_finite, else-is_finite}

pub returns-in-Unregularized : goal.returns-in-Unregularized
unfolding bad_regularization
returns-in-Unregularized c = rw c.in-Unregularized.is

pub returns-after-is_finite : goal.returns-after-is_finite
unfolding bad_regularization of_bits
returns-after-is_finite c =
    let x = c.in-Ridge.is in
    elim c.if-is_finite.branch [
      | then-is_finite w ↦ rw (x, ← c.is_finite.ensures, w.if-is_finite.true) (rw w.good-is at c.when.ensures)
      | else-is_finite w ↦ rw (x, ← c.is_finite.ensures, w.if-is_finite.false) (rw (w.good-is, w.if-is_finite.false) at c.when.ensures)
    ]
