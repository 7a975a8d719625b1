-- `paper::marking::examine` meets its contract: the returns and the given entries as floats, and their answer.
use mathlib.Core.Path.{ap, ◌∙◌}
use Rattle.paper.specs.Text.{write}
use Rattle.paper.specs.Answer.{outcome_text}
use Rattle.paper.proofs.Pieces.{floats_filled}
use Rattle.paper.proofs.marking.examine.Goals as goal

pub returns : goal.returns
returns c =
    let g = c in
    let r = g in
    let a = r.args in
    c.answer.ensures ∙ ap (write _) (ap outcome_text (rw (floats_filled a.returns.now _ _ r.fill_floats.ensures, floats_filled a.given.now _ _ g.fill_floats-2.ensures)))
