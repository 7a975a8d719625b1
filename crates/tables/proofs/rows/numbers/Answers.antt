-- `tables::rows::numbers` meets its contract: where there are units, the numbers are formed of the scaled ones.
use Rattle.std.proofs.Common.{◌∙◌, arith, length-take-le}
use Rattle.tables.proofs.Formed.{scaled_numbers, plain_numbers}
use Rattle.tables.proofs.rows.numbers.Goals as goal

pub returns-then-n-units : goal.returns-then-n-units
returns-then-n-units c =
    let p = c in
    let q = p in
    let a = q.args in
    p.entries.ensures
    ∙ scaled_numbers _ _ a.xs.now _ a.centers.now a.w _ _ (length-take-le _ _ (omega arith)) q.if-n-units.true q.to_units.ensures

pub returns-else-n-units : goal.returns-else-n-units
returns-else-n-units c =
    let p = c in
    let a = p.args in
    c.entries-else-n-units.ensures ∙ plain_numbers _ _ a.xs.now _ a.centers.now a.w p.if-n-units.false
