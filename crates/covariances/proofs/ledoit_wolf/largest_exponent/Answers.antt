-- `covariances::ledoit_wolf::largest_exponent` meets its contract: the largest of the columns' largest, and its exponent.
use Rattle.std.proofs.Common.{ap, ◌∙◌}
use Rattle.leaves.specs.Scaling.{binary_exponent}
use Rattle.leaves.proofs.Ints.{back_i32}
use Rattle.tables.specs.Rows.{return_at}
use Rattle.covariances.proofs.Centered.{largest_is}
use Rattle.covariances.proofs.ledoit_wolf.largest_exponent.Goals as goal

pub returns : goal.returns
returns c =
    let e = c.exponent in
    let r = c.args.r.now in
    let back = back_i32 e.result e.type_inv in
    (rw back e.ensures.1, λ ec. back ∙ e.ensures.0 ∙ ap binary_exponent (largest_is r.periods r.assets (return_at r) ec c.amax.ensures c.amax-2.ensures))
