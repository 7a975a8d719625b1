-- `paper::text::put_decimal` meets its contract: the digits without the zeros in front are the number's own.
use mathlib.Core.Path.{ap, ◌∙◌}
use Rattle.paper.specs.Text.{write, max_digits}
use Rattle.paper.proofs.Digits.{all_but_zeros}
use Rattle.paper.proofs.Writes.{then}
use Rattle.paper.proofs.text.put_decimal.Goals as goal

pub returns : goal.returns
returns c =
    let b = c in
    let s = b.significant-first in
    let f = b.fill_digits in
    then _ _ _ (b.put_text-next.ensures ∙ ap (write _) (all_but_zeros _ max_digits _ s.result _ f.ensures s.ensures.1)) c.put.ensures
