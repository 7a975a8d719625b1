-- `tables::tables::add_rows` meets its contract. The invariant: the rows of the table passed have theirs added.
use Rattle.matrix.specs.Matrix.{at}
use Rattle.matrix.proofs.ByRows.{passed_none, passed_all, each_more}
use Rattle.tables.specs.Rows.{stored, plus_all}
use Rattle.tables.proofs.tables.add_rows.Goals as goal

pub loop-i-init : goal.loop-i-init
loop-i-init g c = passed_none _ _ _ c.requires.2

pub loop-i-preserved : goal.loop-i-preserved
loop-i-preserved g c =
    let a = c.args in
    each_more a.n _ (plus_all g.row.K a.term (at a.s.now a.n) (stored a.d.now)) a.out.now _ _ c.loop-i.invariant c.add_row.ensures

pub returns : goal.returns
returns g c = passed_all _ _ c.args.out.now _ _ c.loop-i-test.false c.loop-i.invariant
