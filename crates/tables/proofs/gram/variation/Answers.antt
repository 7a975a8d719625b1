-- `tables::gram::variation` meets its contract: the half that is summed up is mirrored, and products commute.
use Rattle.tables.specs.Rows.{matrix_of}
use Rattle.tables.proofs.Halves.{variation_over}
use Rattle.tables.proofs.gram.variation.Goals as goal

pub returns : goal.returns
returns c =
    let m = c in
    let s = m in
    let a = s.args in
    let z = a.z.now in
    variation_over a.s.now (matrix_of z) z.returns.assets z.returns.periods _ c.nearest_u64_to_f64.ensures s.requires.1 s.sum.ensures m.mirror.ensures c.divide.ensures
