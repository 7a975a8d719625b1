-- `prices::calls::check` meets its contract: the shape is looked at, then the prices.
use Rattle.std.proofs.Common.{refl, length, arith, ◌∙◌}
use Rattle.matrix.specs.Matrix.{at}
use Rattle.rules.specs.Prices.{by_price_shape, by_prices}
use Rattle.rules.proofs.Firsts.{front_refuses, front_passes}
use Rattle.inputs.proofs.Refused.{refused}
use Rattle.prices.proofs.Shapes.{shape_passes}
use Rattle.prices.proofs.calls.check.Goals as goal

pub returns-in_err-check_shape : goal.returns-in_err-check_shape
returns-in_err-check_shape c =
    let a = c.args in
    refused _ c.from_residual.ensures.1
    (front_refuses (by_price_shape (length a.prices.now) a.n a.rows a.room) (by_prices a.rows a.n (at a.prices.now a.n)) c.in_err-check_shape.ensures)

pub invariant_of-table-clause-whole : goal.invariant_of-table-clause-whole
invariant_of-table-clause-whole c = let a = c.args in (shape_passes (length a.prices.now) a.n a.rows a.room refl c.in_ok-check_shape.ensures).long

pub invariant_of-table-clause-some : goal.invariant_of-table-clause-some
invariant_of-table-clause-some c =
    let a = c.args in
    let s = shape_passes (length a.prices.now) a.n a.rows a.room refl c.in_ok-check_shape.ensures in
    omega (arith, s.three)

pub returns : goal.returns
returns c =
    let a = c.args in
    c.check.ensures
    ∙ front_passes (by_price_shape (length a.prices.now) a.n a.rows a.room) (by_prices a.rows a.n (at a.prices.now a.n)) c.in_ok-check_shape.ensures
