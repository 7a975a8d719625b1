use Rattle.std.proofs.Common.{◌≡◌, ◌*◌, length}
use Rattle.matrix.specs.Matrix.{at}
use Rattle.matrix.proofs.ByRows.{passed}
use Rattle.rules.specs.LedoitWolf.{constant_correlation}
use Rattle.covariances.proofs.targets.put_constant_correlation.Given as goal

abbrev pub invariant-loop-i : goal.invariant-loop-i
invariant-loop-i l = (length l.out ≡ l.n * l.n) × (l.out ≡ passed l.n l.i (constant_correlation l.n (at l.s l.n)) l.initial.out)
