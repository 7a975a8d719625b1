-- `paper::reader::number` meets its contract: the bytes of the number, with zeros above them.
use mathlib.Core.Path.{◌∙◌}
use native.Mathlib.Nat.{add-sub_cancel_left}
use native.Mathlib.Omega.{arith}
use lib.ListN.{take, drop, length-drop}
use lib.Seq.{length-take-le}
use Rattle.paper.proofs.Little.{padded}
use Rattle.paper.proofs.reader.number.Goals as goal

pub returns : goal.returns
returns c =
    let a = c.args in
    let bytes = take a.len (drop a.at a.file.now) in
    c.from_le_bytes.ensures ∙ rw (c.copy_from_slice.ensures.after, add-sub_cancel_left a.at a.len)
    (padded bytes a.len (length-take-le a.len (drop a.at a.file.now) (rw length-drop (omega arith))) c.requires.0)
