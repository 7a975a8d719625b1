-- Document 02, "Paper 4. Questions in prices": the returns that prices give (returns.rs, `compute_returns`), which refusals the call looks for, in their order,
-- and what it returns, with its return slice, for all inputs. Definitions only.
-- p t i is the price of asset i in row t; there are R rows.
use Rattle.std.specs.Prelude.{ℕ, suc, ◌-◌, ◌*◌, not, ◌||◌, List, [], ◌∷◌, ◌++◌, eqb, ltb, length, Float}
use Rattle.std.specs.Float.Ieee.{le}
use Rattle.leaves.specs.Numbers.{◌⊖◌, ◌⊘◌, zero⁺, one}
use Rattle.leaves.specs.Loops.{fill, nth}
use Rattle.matrix.specs.Limits.{max_side}
use Rattle.matrix.specs.Matrix.{Matrix, at, rows, first_entry}
use Rattle.rules.specs.Refusals.{Check, passes, refuses, when, when_some, first}
use Rattle.rules.specs.Order.{not_finite}
use Rattle.rules.specs.declared.Refusal.TheVariants.{NoAssets, TooLarge, TooFewPeriods, WrongLength, NonPositivePrice}

-- the fewest and the most rows of prices
abbrev pub min_price_rows : ℕ
min_price_rows = 3

abbrev pub max_price_rows : ℕ
max_price_rows = 4097

-- a price over the one before, minus 1
unfoldable pub simple_returns : Matrix → Matrix
simple_returns p t i = p (suc t) i ⊘ p t i ⊖ one

-- ---- the refusals

-- 1 to 4, by the lengths of the two slices
abbrev pub by_price_shape : ℕ → ℕ → ℕ → ℕ → List Check
by_price_shape length n R room =
    when (eqb n 0) NoAssets ∷
    when (ltb max_side n || ltb max_price_rows R) TooLarge ∷
    when (ltb R min_price_rows) (TooFewPeriods R) ∷
    when (not (eqb length (R * n)) || ltb room ((R - 1) * n)) WrongLength ∷
    []

-- 16, at the first row and column
unfoldable pub non_positive : ℕ → ℕ → Matrix → Check
non_positive R n p = when_some (first_entry R n (λ t i. le (p t i) zero⁺)) (λ place. NonPositivePrice place.0 place.1)

-- 5 for the prices, 16, 5 for the returns
abbrev pub by_prices : ℕ → ℕ → Matrix → List Check
by_prices R n p = not_finite R n p ∷ non_positive R n p ∷ not_finite (R - 1) n (simple_returns p) ∷ []

unfoldable pub prices_order : List Float → ℕ → ℕ → List Float → List Check
prices_order prices n R slice = by_price_shape (length prices) n R (length slice) ++ by_prices R n (at prices n)

-- ---- the call

-- whether it refuses, and the full return slice
pub record Converted : Type 0 where
  pub check : Check
  pub slice : List Float

abbrev pub converted : Check → List Float → Converted
converted check slice = record { check = check; slice = slice }

-- a refusal leaves the return slice as it was
unfoldable pub convert : Check → ℕ → List Float → List Float → Converted
convert passes m returns slice = converted passes (fill m (nth returns) slice)
convert (refuses c) m returns slice = converted (refuses c) slice

unfoldable pub returns_from_prices : List Float → ℕ → ℕ → List Float → Converted
returns_from_prices prices n R slice =
    let returns = rows (R - 1) n (simple_returns (at prices n)) in
    convert (first (prices_order prices n R slice)) ((R - 1) * n) returns slice
