-- Document 02, "Paper 4. Questions in prices", the law that it asks for: its statement, over the definition of the call. Each field of the hypotheses is a part of its sentence.
use Rattle.std.specs.Prelude.{ℕ, ◌-◌, ◌*◌, ◌%◌, ◌<◌, ◌≡◌, List, ℤ, length, take, Float}
use Rattle.leaves.specs.Loops.{nth}
use Rattle.rules.specs.Refusals.{passes}
use Rattle.rules.specs.Prices.{Converted, returns_from_prices}
use Rattle.law.specs.Law.{All, Sized, Copy}

pub record PriceInput : Type 0 where
  pub prices : List Float
  pub assets : ℕ
  pub rows : ℕ
  pub slice : List Float

abbrev pub converted_by : PriceInput → Converted
converted_by a = returns_from_prices a.prices a.assets a.rows a.slice

-- a price is of size 2^-400 to 2^400; here it may also be 0, which is refused
abbrev pub price_range : ℕ
price_range = 400

-- the second input is the first one, with each column of prices times a power of two of its own
pub record ScaledPrices (k : ℕ → ℤ) (a b : PriceInput) : Type 0 where
  -- "a column of prices times one power of two": price j stands in column j % assets
  pub prices : (j : ℕ) → j < length a.prices → Copy (k (j % a.assets)) (nth a.prices j) (nth b.prices j)
  pub price_length : length a.prices ≡ length b.prices
  pub assets : a.assets ≡ b.assets
  pub rows : a.rows ≡ b.rows
  pub slice_length : length a.slice ≡ length b.slice
  -- "all prices, before and after, are of size 2^−400 to 2^400"
  pub before : All (Sized price_range) a.prices
  pub after : All (Sized price_range) b.prices

-- the same record, and, where it is accepted, the same m returns, bit for bit
pub record SameReturns (m : ℕ) (x y : Converted) : Type 0 where
  pub check : x.check ≡ y.check
  pub returns : x.check ≡ passes → take m x.slice ≡ take m y.slice

-- "gives the same returns"
abbrev pub PricesLaw : Type 0
PricesLaw = (k : ℕ → ℤ) (a b : PriceInput) → ScaledPrices k a b → SameReturns ((a.rows - 1) * a.assets) (converted_by a) (converted_by b)
