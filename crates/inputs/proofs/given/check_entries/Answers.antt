-- `inputs::given::check_entries` meets its contract: the two checks, one after the other.
use Rattle.std.proofs.Common.{◌∙◌}
use Rattle.rules.proofs.Firsts.{first_alone, head_refuses, head_passes}
use Rattle.inputs.proofs.Refused.{refused}
use Rattle.inputs.proofs.given.check_entries.Goals as goal

pub returns-in_err-check_finite : goal.returns-in_err-check_finite
returns-in_err-check_finite c = refused _ c.from_residual.ensures.1 (head_refuses _ c.in_err-check_finite.ensures)

pub returns : goal.returns
returns c = c.check_symmetric.ensures ∙ first_alone _ ∙ head_passes _ c.in_ok-check_finite.ensures
