-- `paper::text::put_digits` meets its contract: the last of the digits that were filled in are those asked for.
use mathlib.Core.Path.{refl, ap, ◌∙◌}
use native.Mathlib.Omega.{arith}
use Rattle.paper.specs.Text.{write, max_digits}
use Rattle.paper.proofs.Digits.{last_digits}
use Rattle.paper.proofs.text.put_digits.Goals as goal

pub returns : goal.returns
returns c = c.put_text.ensures ∙ ap (write _)
    (last_digits _ max_digits _ _ _ c.fill_digits.ensures _ (omega arith) refl)
