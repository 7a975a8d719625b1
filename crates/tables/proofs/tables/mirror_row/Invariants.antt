use Rattle.std.proofs.Common.{◌≡◌}
use Rattle.matrix.specs.Matrix.{rows}
use Rattle.tables.specs.Rows.{mirrored_to}
use Rattle.tables.proofs.tables.mirror_row.Given as goal

abbrev pub invariant-loop-j : goal.invariant-loop-j
invariant-loop-j l = l.out ≡ rows l.n l.n (mirrored_to l.n l.i l.j l.initial.out)
