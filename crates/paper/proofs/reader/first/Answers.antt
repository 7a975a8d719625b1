-- `paper::reader::first` meets its contract, test by test.
use mathlib.Core.Path.{sym, ◌∙◌}
use Rattle.paper.proofs.Taking.{fits_in, first_yes, first_no}
use Rattle.paper.proofs.reader.first.Goals as goal

pub number-requires : goal.number-requires
number-requires c =
    let a = c.args in
    (c.requires.0, fits_in a.k a.at a.file.now (sym c.starts.ensures ∙ c.if-starts.true))

pub returns-then-starts : goal.returns-then-starts
returns-then-starts c =
    let b = c in
    c.number.ensures ∙ first_yes b.args.k b.args.at b.args.file.now b.args.k.most b.requires.1 (sym c.starts.ensures ∙ c.if-starts.true)

pub returns-else-starts : goal.returns-else-starts
returns-else-starts c =
    let a = c.args in
    first_no a.k a.k.most _ (sym c.starts.ensures ∙ c.if-starts.false)
