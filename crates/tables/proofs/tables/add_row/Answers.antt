-- `tables::tables::add_row` meets its contract: its part of the table is row i from its first column on.
use Rattle.std.proofs.Common.{refl, rules}
use Rattle.tables.proofs.Sums.{part_room, part_sized, rows_added}
use Rattle.tables.proofs.tables.add_row.Goals as goal

pub add_terms-requires : goal.add_terms-requires
add_terms-requires g c =
    let a = c.args in
    let h = c.requires in
    let e = c.first_column-from.ensures in
    (search rules, (search rules, (part_room a.term a.n a.i _ _ _ a.out.now h.3 h.0 e refl refl _ h.1, part_sized a.term a.n a.i _ _ _ a.out.now h.3 h.0 e refl refl a.s.now h.2)))

pub returns : goal.returns
returns g c =
    let f = c in
    let a = f.args in
    let h = f.requires in
    rows_added a.term a.n a.i _ _ _ a.out.now h.3 h.0 f.first_column-from.ensures refl refl g.row.K a.s.now _ _ f.factors-a.ensures _ c.add_terms.ensures
