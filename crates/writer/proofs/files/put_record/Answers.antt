-- `writer::files::put_record` meets its contract: the kind's byte, then the body.
use mathlib.Core.Path.{ap, ◌∙◌}
use Rattle.paper.specs.Text.{write}
use Rattle.paper.proofs.Writes.{then}
use Rattle.writer.proofs.Left.{one_record}
use Rattle.writer.proofs.files.put_record.Goals as goal

pub returns : goal.returns
returns c =
    let p = c in
    let a = p.args in
    then _ _ _ p.put-next.ensures c.put_body.ensures ∙ ap (write _) (one_record a.k a.body)
