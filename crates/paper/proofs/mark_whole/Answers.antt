-- `paper::mark_whole` meets its contract: the buffer has room for every text.
use native.Mathlib.Omega.{arith}
use Rattle.paper.proofs.Lengths.{whole_text}
use Rattle.paper.proofs.mark_whole.Goals as goal

pub returns : goal.returns
returns c =
    let e = c.mark.ensures in
    let w = whole_text _ _ _ _ (omega arith) e.result_after in
    record { out_after = w.0; out_unchanged = w.1; counts = e.counts }
