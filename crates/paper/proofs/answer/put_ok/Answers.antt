-- `paper::answer::put_ok` meets its contract, call after call.
use Rattle.paper.specs.Text.{decimal}
use Rattle.paper.specs.Answer.{outcome_text}
use Rattle.paper.proofs.Writes.{then, then_after}
use Rattle.paper.proofs.answer.put_ok.Goals as goal

pub returns : goal.returns
unfolding outcome_text
returns c =
    let m = c in
    let n = m in
    let t = n in
    then _ _ _ t.put_text-a.ensures (then_after _ (decimal _) 32 _ n.put_decimal-b.ensures (then_after _ (decimal _) 10 _ m.put_decimal-c.ensures c.put_lines.ensures))
