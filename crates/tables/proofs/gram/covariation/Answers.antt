-- `tables::gram::covariation` meets its contract: every column is summed up.
use Rattle.tables.specs.Rows.{matrix_of}
use Rattle.tables.proofs.Halves.{covariation_over}
use Rattle.tables.proofs.gram.covariation.Goals as goal

pub returns : goal.returns
returns c =
    let s = c in
    let a = s.args in
    let z = a.z.now in
    covariation_over a.s.now (matrix_of z) z.returns.assets z.returns.periods _ c.nearest_u64_to_f64.ensures s.sum.ensures c.divide.ensures
