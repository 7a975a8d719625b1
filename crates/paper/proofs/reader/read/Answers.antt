-- `paper::reader::read` meets its contract: the file is scanned, nothing is left over, and the rules are met.
use mathlib.Core.Path.{sym, ◌∙◌}
use native.Mathlib.Omega.{arith}
use Rattle.paper.proofs.Readings.{read_some, read_unruly, read_longer}
use Rattle.paper.proofs.reader.read.Goals as goal
use Rattle.paper.proofs.reader.read.Goals.{else-s-file-via-then-s-file+else-well_formed, else-s-file-via-else-s-file}

pub returns-then-well_formed : goal.returns-then-well_formed
returns-then-well_formed c =
    read_some _ _ _ _ c.scan-s.ensures (omega arith) (omega arith) c.if-s-file.true (sym c.well_formed-then-s-file.ensures ∙ c.if-well_formed.true)

pub returns-else-s-file : goal.returns-else-s-file
returns-else-s-file c =
    let s = c.scan-s in
    elim c.else-s-file.branch [
      | else-s-file-via-then-s-file+else-well_formed w ↦ read_unruly _ _ _ _ s.ensures (omega arith) (omega arith) w.if-s-file.true (sym w.well_formed-then-s-file.ensures ∙ w.if-well_formed.false)
      | else-s-file-via-else-s-file w ↦ read_longer _ _ _ _ s.ensures (omega arith) (omega arith) w.if-s-file.false
    ]
