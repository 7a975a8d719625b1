use Rattle.std.proofs.Common.{◌≡◌}
use Rattle.matrix.specs.Matrix.{at}
use Rattle.matrix.proofs.ByRows.{passed}
use Rattle.tables.specs.Rows.{stored, plus_all}
use Rattle.tables.proofs.tables.add_rows.Given as goal

abbrev pub invariant-loop-i : goal.invariant-loop-i
invariant-loop-i g l = l.out ≡ passed l.n l.i (λ p q. plus_all g.row.K l.term (at l.s l.n) (stored l.d) p q (at l.initial.out l.n p q)) l.initial.out
