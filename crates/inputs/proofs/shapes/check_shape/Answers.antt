-- `inputs::shapes::check_shape` meets its contract: the return slice is looked at, and then the room.
use Rattle.std.proofs.Common.{ap, ◌∙◌}
use lib.Dec.{ltb}
use Rattle.rules.specs.Refusals.{when}
use Rattle.rules.specs.declared.Refusal.TheVariants.{WrongLength}
use Rattle.inputs.proofs.Refused.{refused}
use Rattle.inputs.proofs.Tables.{fitting, room_refuses, room_answers}
use Rattle.inputs.proofs.shapes.check_shape.Goals as goal

pub returns-in_err-check_table : goal.returns-in_err-check_table
returns-in_err-check_table c = refused _ c.from_residual.ensures.1 (room_refuses _ _ _ _ _ _ _ _ _ c.in_err-check_table.ensures)

pub needed-requires : goal.needed-requires
needed-requires c = (fitting _ _ _ _ _ c.in_ok-check_table.ensures).narrow

pub returns : goal.returns
returns c =
    let a = c.args in
    c.when.ensures ∙ ap (λ m. when (ltb a.room m) WrongLength) c.needed.ensures ∙ room_answers _ _ _ _ _ _ _ _ _ c.in_ok-check_table.ensures
