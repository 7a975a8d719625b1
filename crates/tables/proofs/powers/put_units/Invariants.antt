use Rattle.std.proofs.Common.{◌≡◌, ◌+◌, ◌≤◌, length}
use Rattle.tables.specs.Powers.{UnitsTo}
use Rattle.tables.proofs.powers.put_units.Given as goal

abbrev pub invariant-loop-i : goal.invariant-loop-i
invariant-loop-i l = (l.i ≤ l.n) × (length l.out ≡ l.n + l.n) × UnitsTo l.n l.i l.exponents l.out
