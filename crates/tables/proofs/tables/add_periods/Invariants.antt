use Rattle.std.proofs.Common.{◌≡◌, ℕ, ◌+◌, ◌<◌, length}
use Rattle.tables.specs.Rows.{matrix_of, stored}
use Rattle.tables.proofs.tables.add_periods.Given as goal

abbrev pub invariant-loop-j : goal.invariant-loop-j
invariant-loop-j g l = (length l.d ≡ g.row.K) × ((j : ℕ) → j < l.j → (k : ℕ) → k < l.z.returns.assets → stored l.d j k ≡ matrix_of l.z (l.t + j) k)
