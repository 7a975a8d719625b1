-- `paper::screen::put_minus` meets its contract: a minus, or nothing.
use Rattle.paper.proofs.Writes.{write_none}
use Rattle.paper.proofs.screen.put_minus.Goals as goal

pub returns-else-minus : goal.returns-else-minus
returns-else-minus c = rw c.if-minus.false (write_none _)
