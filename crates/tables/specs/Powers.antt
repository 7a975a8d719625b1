-- What only the contracts of inner functions cite: powers of two as two factors, by which a number is multiplied one after the other.
-- Definitions only.
use Rattle.std.specs.Prelude.{◌≡◌, ℕ, ◌+◌, ◌<◌, List, ℤ, neg_ℤ, Float}
use Rattle.leaves.specs.Numbers.{◌⊗◌}
use Rattle.leaves.specs.Loops.{nth}
use Rattle.leaves.specs.Scaling.{pow2_scaled}
use Rattle.rules.specs.BayesStein.{exponent_at}

-- times near, times far: every number is multiplied by 2 ^ k
abbrev pub Factored : Float → Float → ℤ → Type 0
Factored near far k = (x : Float) → x ⊗ near ⊗ far ≡ pow2_scaled x k

-- the first k of n columns have their 2 ^ -e in the list, the near factor at the column's place and the far one n places on
abbrev pub UnitsTo : ℕ → ℕ → List ℤ → List Float → Type 0
UnitsTo n k es units = (i : ℕ) → i < k → Factored (nth units i) (nth units (n + i)) (neg_ℤ (exponent_at es i))

abbrev pub Units : ℕ → List ℤ → List Float → Type 0
Units n = UnitsTo n n
