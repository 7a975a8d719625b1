-- `paper::screen::put_shown` meets its contract, case by case.
use Rattle.paper.specs.Text.{point, decimal}
use Rattle.paper.specs.Screen.{shown_text}
use Rattle.paper.proofs.Writes.{then, then_after}
use Rattle.paper.proofs.screen.put_shown.Goals as goal

pub returns-in-Big : goal.returns-in-Big
unfolding shown_text
returns-in-Big c = rw c.in-Big.is c.put_text.ensures

pub returns-in-Number : goal.returns-in-Number
unfolding shown_text
returns-in-Number c =
    let d = c in
    let m = d in
    rw m.in-Number.is (then _ _ _ m.put_minus-a.ensures (then_after _ (decimal _) point _ d.put_decimal-b.ensures c.put_digits.ensures))
