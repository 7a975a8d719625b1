-- `tables::tables::mirror` meets its contract. The invariant: the rows passed are mirrored.
use Rattle.matrix.proofs.ByRows.{passed_none, passed_all}
use Rattle.tables.proofs.Mirror.{mirrored_more}
use Rattle.tables.proofs.tables.mirror.Goals as goal

pub loop-i-init : goal.loop-i-init
loop-i-init c = passed_none _ _ _ c.requires

pub loop-i-preserved : goal.loop-i-preserved
loop-i-preserved c = mirrored_more c.args.n _ c.args.out.now _ _ c.loop-i.invariant c.mirror_row.ensures

pub returns : goal.returns
returns c = passed_all _ _ c.args.out.now _ _ c.loop-i-test.false c.loop-i.invariant
