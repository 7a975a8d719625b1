-- `paper::answer::put_bits` meets its contract, call after call.
use mathlib.Core.Path.{ap, ◌∙◌}
use Rattle.paper.specs.Text.{write, digits}
use Rattle.paper.proofs.Writes.{then}
use Rattle.paper.proofs.answer.put_bits.Goals as goal

pub returns : goal.returns
returns c =
    let d = c in
    then _ _ _ (d.put_digits-next.ensures ∙ ap (write _) (ap (digits 16 16) d.bits.ensures)) c.put.ensures
