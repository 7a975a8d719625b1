-- `paper::marking::answer` meets its contract: the slice that is lent is as long as the answer, and zero.
use mathlib.Core.Path.{ap, ◌∙◌}
use Rattle.paper.specs.Text.{write}
use Rattle.paper.specs.Answer.{outcome_text}
use Rattle.paper.specs.Marking.{printed}
use Rattle.paper.proofs.Marks.{answer_is}
use Rattle.paper.proofs.marking.answer.Goals as goal

pub returns : goal.returns
returns c =
    let q = c.args.q in
    c.put_answer.ensures ∙ ap (write _) (ap outcome_text (ap (printed q.assets c.columns-c.result) c.ask-a.ensures ∙ answer_is q _ c.requires c.columns-c.ensures _ _))
