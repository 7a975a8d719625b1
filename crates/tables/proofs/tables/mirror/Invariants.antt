use Rattle.std.proofs.Common.{◌≡◌}
use Rattle.matrix.proofs.ByRows.{passed}
use Rattle.tables.specs.Rows.{mirrored}
use Rattle.tables.proofs.tables.mirror.Given as goal

abbrev pub invariant-loop-i : goal.invariant-loop-i
invariant-loop-i l = l.out ≡ passed l.n l.i (mirrored l.n l.initial.out) l.initial.out
