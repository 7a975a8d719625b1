use mathlib.Core.Path.{◌≡◌}
use mathlib.Core.Bool.{Bool, not}
use mathlib.Core.List.{List}
use mathlib.Core.Option.{none}
use Prim.Native.Nat.{ℕ, ◌-◌, ◌*◌, ◌/◌, ◌%◌, ◌≤◌}
use lib.Ieee.{Float}
use Rattle.leaves.specs.Numbers.{is_finite}
use Rattle.leaves.specs.Loops.{first_to}
use Rattle.matrix.specs.Matrix.{at}
use Rattle.rules.specs.Prices.{simple_returns}
use Rattle.prices.proofs.checks.PriceTable.check_returns.Given as goal

abbrev pub bad : List Float → ℕ → ℕ → ℕ → Bool
bad p n t i = not (is_finite (simple_returns (at p n) t i))

abbrev pub invariant-loop-k : goal.invariant-loop-k
invariant-loop-k l = (l.k ≤ l.size) × (l.size ≡ (l.self.rows - 1) * l.n) × (first_to l.k (λ j. bad l.self.numbers.now l.n (j / l.n) (j % l.n)) ≡ none)
