-- What only the contracts of inner functions cite: numbers gathered over one power of two. Definitions only.
use Rattle.std.specs.Prelude.{◌≡◌, ℕ, ◌≤◌, List, ℤ, Option as Optional, Some, None, unsigned_abs, Float}
use Rattle.std.proofs.Math.Option.{Option, none, some}
use Rattle.rules.specs.BayesStein.{or_zero, common_exponent, gathered}
use Rattle.tables.specs.Exponents.{two_exponents}

-- the Option of the definitions
abbrev pub largest_of : Optional ℤ → Option ℤ
largest_of None = none
largest_of (Some k) = some k

-- it is at most a sum of two exponents in size
abbrev pub WithinTwoExponents : Option ℤ → Type 0
WithinTwoExponents found = unsigned_abs (or_zero found) ≤ two_exponents

-- the numbers m i * 2 ^ k i, gathered, are the list l and the power e
pub record Gathered (n : ℕ) (m : ℕ → Float) (k : ℕ → ℤ) (e : ℤ) (l : List Float) : Type 0 where
  pub power : e ≡ common_exponent n m k
  pub numbers : l ≡ gathered n m k e
  pub size : unsigned_abs e ≤ two_exponents
