-- `writer::files::put_records` meets its contract. The invariant: what is written, with the records that are left, is all of them.
use mathlib.Core.Path.{◌∙◌}
use native.Mathlib.Omega.{arith}
use lib.ListN.{drop}
use Rattle.paper.specs.Text.{out as into}
use Rattle.paper.proofs.Writes.{onward, ended}
use Rattle.writer.specs.Files.{records}
use Rattle.writer.proofs.Left.{records_more, records_none}
use Rattle.writer.proofs.files.put_records.Goals as goal

pub loop-body-preserved : goal.loop-body-preserved
loop-body-preserved c =
    let l = c.loop-body in
    let a = c.args in
    let i = l.body-index in
    onward (into l.out l.at) _ _ (records a.k (drop i a.bodies.now)) c.put_record-at.ensures (records_more a.k i a.bodies.now (omega arith)) ∙ l.invariant

pub returns : goal.returns
returns c =
    let l = c.loop-body in
    let a = c.args in
    let i = l.body-index in
    ended _ _ (records a.k (drop i a.bodies.now)) (records_none a.k i a.bodies.now (omega arith)) l.invariant
