-- `writer::files::put_kind` meets its contract, test by test.
use mathlib.Core.Path.{ap, ◌∙◌}
use Rattle.paper.specs.Text.{write}
use Rattle.writer.proofs.Held.{pick_returns, pick_given, pick_none, pick_first}
use Rattle.writer.proofs.Left.{records_empty}
use Rattle.writer.specs.Files.{records}
use Rattle.writer.proofs.files.put_kind.Goals as goal

pub returns-then-k-eq-RETURN : goal.returns-then-k-eq-RETURN
returns-then-k-eq-RETURN c =
    let a = c.args in
    c.put_records.ensures ∙ ap (write _) (ap (records a.k) (pick_returns a.k a.count a.first a.returns.now a.given.now c.if-k-eq-RETURN.true))

pub returns-then-k-eq-GIVEN_ENTRY : goal.returns-then-k-eq-GIVEN_ENTRY
returns-then-k-eq-GIVEN_ENTRY c =
    let a = c.args in
    c.put_records-then-k-eq-GIVEN_ENTRY.ensures ∙ ap (write _) (ap (records a.k) (pick_given a.k a.count a.first a.returns.now a.given.now c.if-k-eq-RETURN.false c.if-k-eq-GIVEN_ENTRY.true))

pub returns-then-count-eq0 : goal.returns-then-count-eq0
returns-then-count-eq0 c =
    let a = c.args in
    records_empty a.k _ _ (pick_none a.k a.count a.first a.returns.now a.given.now c.if-k-eq-RETURN.false c.if-k-eq-GIVEN_ENTRY.false c.if-count-eq0.true)

pub returns : goal.returns
returns c =
    let a = c.args in
    c.put_record.ensures ∙ ap (write _) (ap (records a.k) (pick_first a.k a.count a.first a.returns.now a.given.now c.if-k-eq-RETURN.false c.if-k-eq-GIVEN_ENTRY.false c.if-count-eq0.false))
