-- What only the contracts of inner functions cite: the returns of prices that stand row by row, in the order in which they are stored. Definitions only.
use Rattle.std.specs.Prelude.{ℕ, ◌+◌, List, Float}
use Rattle.leaves.specs.Numbers.{◌⊖◌, ◌⊘◌, one}
use Rattle.leaves.specs.Loops.{nth}

-- return k, of n in a row
unfoldable pub return_at : List Float → ℕ → ℕ → Float
return_at p n k = nth p (k + n) ⊘ nth p k ⊖ one
