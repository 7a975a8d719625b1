-- `prices::shape::check_shape` meets its contract: the price slice is looked at, and then the room.
use Rattle.std.proofs.Common.{◌∙◌, mul-le-mul, le_trans, sub-le, arith}
use mir.Facts.{Fits-below}
use Rattle.inputs.proofs.Refused.{refused}
use Rattle.inputs.proofs.Tables.{fitting, room_refuses, room_answers}
use Rattle.prices.proofs.shape.check_shape.Goals as goal

pub returns-in_err-check_table : goal.returns-in_err-check_table
returns-in_err-check_table c = refused _ c.from_residual.ensures.1 (room_refuses _ _ _ _ _ _ _ _ _ c.in_err-check_table.ensures)

pub overflow_sub-rows : goal.overflow_sub-rows
overflow_sub-rows c = let s = fitting _ _ _ _ _ c.in_ok-check_table.ensures in omega (arith, s.enough)

pub overflow_mul-rows : goal.overflow_mul-rows
overflow_mul-rows c = let s = fitting _ _ _ _ _ c.in_ok-check_table.ensures in Fits-below tt (mul-le-mul (le_trans (sub-le _ 1) s.few) s.narrow)

pub returns : goal.returns
returns c = c.when.ensures ∙ room_answers _ _ _ _ _ _ _ _ _ c.in_ok-check_table.ensures
