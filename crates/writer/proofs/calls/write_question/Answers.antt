-- `writer::calls::write_question` meets its contract: the record, the rules, the length, and then the file.
use mathlib.Core.Path.{sym, ◌∙◌}
use native.Mathlib.Omega.{arith}
use borrow.Author.Tests.{not-true, not-false}
use Rattle.writer.proofs.Kept.{record_sizes}
use Rattle.writer.proofs.Writing.{broken_record, broken_rules, length_small, too_short, all_written}
use Rattle.std.proofs.Common.{ap}
use mathlib.Core.Bool.{not}
use Rattle.writer.proofs.calls.write_question.Goals as goal

pub returns-then-not-record_kept : goal.returns-then-not-record_kept
returns-then-not-record_kept c = broken_record _ _ _ _ (sym c.record_kept.ensures ∙ not-true _ (ap not c.if-not-record_kept.true))

pub outline_of-o-requires : goal.outline_of-o-requires
outline_of-o-requires c = record_sizes _ _ (sym c.record_kept.ensures ∙ not-false _ (ap not c.if-not-record_kept.false))

pub returns-then-not-well_formed : goal.returns-then-not-well_formed
returns-then-not-well_formed c =
    let f = c in
    broken_rules _ _ _ _ (sym f.record_kept.ensures ∙ not-false _ (ap not f.if-not-record_kept.false)) _ c.outline_of-o.ensures (sym c.well_formed-2.ensures ∙ not-true _ (ap not c.if-not-well_formed.true))

pub file_length-size-requires : goal.file_length-size-requires
file_length-size-requires c =
    let g = c in
    let f = g in
    let a = f.args in
    let kept = sym f.record_kept.ensures ∙ not-false _ (ap not f.if-not-record_kept.false) in
    let ruled = sym g.well_formed-2.ensures ∙ not-false _ (ap not g.if-not-well_formed.false) in
    length_small a.q a.returns.now a.given.now a.out.now kept _ g.outline_of-o.ensures ruled

pub returns-then-out-size : goal.returns-then-out-size
returns-then-out-size c =
    let g = c in
    let f = g in
    too_short _ _ _ _ (sym f.record_kept.ensures ∙ not-false _ (ap not f.if-not-record_kept.false)) _ g.outline_of-o.ensures (sym g.well_formed-2.ensures ∙ not-false _ (ap not g.if-not-well_formed.false))
    _ c.file_length-size.ensures (omega arith)

pub returns : goal.returns
returns c =
    let n = c in
    let g = n in
    let f = g in
    all_written _ _ _ _ (sym f.record_kept.ensures ∙ not-false _ (ap not f.if-not-record_kept.false)) _ g.outline_of-o.ensures (sym g.well_formed-2.ensures ∙ not-false _ (ap not g.if-not-well_formed.false))
    _ n.file_length-size.ensures (omega arith) _ _ c.put_file.ensures
