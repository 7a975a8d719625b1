-- `tables::tables::mirror_row` meets its contract. The invariant: row i is mirrored up to column j.
use Rattle.std.proofs.Common.{arith}
use Rattle.tables.proofs.Mirror.{mirror_none, mirror_more}
use Rattle.tables.proofs.tables.mirror_row.Goals as goal

pub loop-j-init : goal.loop-j-init
loop-j-init c = mirror_none _ _ _ c.requires.1

pub loop-j-preserved : goal.loop-j-preserved
loop-j-preserved c =
    let a = c.args in
    mirror_more a.n a.i a.out.now _ _ c.requires.0 c.loop-j-test.true (omega arith) c.loop-j.invariant
