-- `paper::answer::put_answer` meets its contract, case by case.
use mathlib.Core.Path.{ap, ◌∙◌}
use Rattle.paper.specs.Text.{write}
use Rattle.paper.specs.Answer.{outcome, outcome_text, refused}
use Rattle.paper.proofs.answer.put_answer.Goals as goal

pub returns-in-Ok : goal.returns-in-Ok
unfolding outcome
returns-in-Ok c = rw c.in-Ok.is c.put_ok.ensures

pub returns-in-Err : goal.returns-in-Err
unfolding outcome
returns-in-Err c = rw c.in-Err.is (c.put_refused.ensures ∙ ap (write _) (ap (λ k. outcome_text (refused k)) c.number.ensures))
