use Rattle.leaves.proofs.Invariants.{Filled}
use Rattle.matrix.specs.Matrix.{at}
use Rattle.tables.specs.Rows.{stored, factor}
use Rattle.tables.proofs.tables.factors.Given as goal

abbrev pub invariant-loop-j : goal.invariant-loop-j
invariant-loop-j g l = Filled (λ j. factor l.term (at l.s l.n) (stored l.d j) l.i) l.j g.row.K l.initial.a l.a
