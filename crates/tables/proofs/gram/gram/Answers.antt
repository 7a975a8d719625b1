-- `tables::gram::gram` meets its contract: the half that is summed up is mirrored, and products commute.
use Rattle.std.proofs.Common.{[], ◌∙◌}
use Rattle.matrix.specs.Matrix.{at}
use Rattle.tables.specs.Rows.{matrix_of}
use Rattle.tables.proofs.Halves.{gram_mirrored}
use Rattle.tables.proofs.gram.gram.Goals as goal

pub returns : goal.returns
returns c =
    let p = c in
    let z = p.args.z.now in
    c.mirror.ensures ∙ gram_mirrored (at [] z.returns.assets) (matrix_of z) _ _ _ p.sum.ensures
