-- `tables::scales::exponent` meets its contract: `binary_exponent`, of an f64.
use Rattle.std.proofs.Common.{◌∙◌}
use Rattle.leaves.proofs.Ints.{back_i32}
use Rattle.tables.proofs.Exponents.{exponent_size}
use Rattle.tables.proofs.scales.exponent.Goals as goal

pub returns : goal.returns
returns c =
    let b = c.binary_exponent in
    let e = back_i32 b.result b.type_inv ∙ b.ensures in
    (e, rw e (exponent_size c.args.x c.well_formed.0.1))
