-- `paper::text::put` meets its contract: one element is stored, or the buffer is full.
use Rattle.paper.proofs.Writes.{put_in, put_full}
use Rattle.paper.proofs.text.put.Goals as goal

pub returns-then-at-out : goal.returns-then-at-out
returns-then-at-out g c = put_in _ _ _ c.if-at-out.true

pub returns-else-at-out : goal.returns-else-at-out
returns-else-at-out g c = put_full _ _ _ c.if-at-out.false
