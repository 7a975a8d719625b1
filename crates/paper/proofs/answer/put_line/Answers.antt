-- `paper::answer::put_line` meets its contract, call after call.
use Rattle.paper.specs.Text.{decimal}
use Rattle.paper.specs.Answer.{bits_text, line_text}
use Rattle.paper.proofs.Writes.{then, then_after}
use Rattle.paper.proofs.answer.put_line.Goals as goal

pub returns : goal.returns
unfolding line_text
returns c =
    let d = c in
    let b = d in
    let j = b in
    let i = j in
    then_after _ (decimal _) 32 _ i.put_decimal-a.ensures (then_after _ (decimal _) 32 _ j.put_decimal-b.ensures (then_after _ (bits_text _) 32 _ b.put_bits-c.ensures
    (then _ _ _ d.put_screen-d.ensures c.put.ensures)))
