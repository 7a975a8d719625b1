-- `paper::answer::put_refused` meets its contract, call after call.
use Rattle.paper.specs.Answer.{outcome_text}
use Rattle.paper.proofs.Writes.{then}
use Rattle.paper.proofs.answer.put_refused.Goals as goal

pub returns : goal.returns
unfolding outcome_text
returns c = then _ _ _ c.put_text-a.ensures c.put_decimal.ensures
