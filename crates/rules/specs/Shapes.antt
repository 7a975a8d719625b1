-- What only the contracts of inner functions and laws cite: the shapes and lengths that pass (document 01, "Causes", numbers 1 to 4), but for the answer's room. Definitions only.
use Rattle.std.specs.Prelude.{◌≡◌, ℕ, ◌*◌, ◌≤◌, ◌<◌}
use Rattle.matrix.specs.Limits.{max_side}
use Rattle.rules.specs.Order.{min_periods, max_periods}

abbrev pub Shaped : ℕ → ℕ → ℕ → Type 0
Shaped length n T = (0 < n) × (n ≤ max_side) × (min_periods ≤ T) × (T ≤ max_periods) × (length ≡ T * n)
