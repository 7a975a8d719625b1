-- `tables::returns::Rows::form` meets its contract: its part of the returns is row t.
use Rattle.std.proofs.Common.{refl, ◌∙◌, take_at, length-take-le}
use Rattle.matrix.proofs.Lent.{lent}
use Rattle.tables.proofs.Formed.{row_formed}
use Rattle.tables.proofs.returns.Rows.form.Goals as goal

pub returns : goal.returns
returns c =
    let p = c in
    let a = p.args in
    let z = a.self.now in
    take_at c.numbers.new.out _ z.returns.assets (c.numbers.auto.out ∙ length-take-le _ _ (search lent))
    ∙ c.numbers.ensures ∙ row_formed z.row _ _ _ a.t z.returns.numbers.now z.units.now z.centers.now _ _ (length-take-le _ _ (search lent)) refl p.weight-w.ensures
