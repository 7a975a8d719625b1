-- What only the contracts of inner functions cite: the sizes of exponents, so that sums of a few are i32. Definitions only.
use Rattle.std.specs.Prelude.{ℕ, ◌+◌, ◌<◌, ◌≤◌, List, length, ℤ, unsigned_abs}
use Rattle.rules.specs.BayesStein.{exponent_at}

-- b(x) of an f64 is at most this in size
abbrev pub max_exponent : ℕ
max_exponent = 1074

-- each is one of an f64
abbrev pub Exponents : List ℤ → Type 0
Exponents es = (i : ℕ) → i < length es → unsigned_abs (exponent_at es i) ≤ max_exponent

-- a sum of two of them is at most this in size
abbrev pub two_exponents : ℕ
two_exponents = max_exponent + max_exponent
