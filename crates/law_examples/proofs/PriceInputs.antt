-- The inputs of the pairs of `Prices`, and the power of two for each of their columns.
use Prim.Native.Nat.{ℕ, zero, suc}
use mathlib.Core.Bool.{Bool, false}
use mathlib.Core.List.{List, [], ◌∷◌}
use lib.IntN.{ℤ, pos, neg_ℤ, ◌+ℤ◌}
use lib.Ieee.{Float, fin}
use Rattle.leaves.specs.Numbers.{zero⁺, one}
use Rattle.law.specs.Prices.{PriceInput, price_range}

-- the first column's prices are 2^e and 2^(e + 1), the second's 2^(f + 1) and 2^f; s is the sign of the price in the middle of the first
abbrev pub prices : Bool → ℤ → ℤ → List Float
prices s e f = fin false 1 e ∷ fin false 1 (f +ℤ pos 1) ∷ fin s 1 (e +ℤ pos 1) ∷ fin false 1 f ∷ fin false 1 e ∷ fin false 1 (f +ℤ pos 1) ∷ []

abbrev pub low : ℤ
low = neg_ℤ (pos price_range)

-- a power of two below the upper end, which the other prices of its column have
abbrev pub high : ℤ
high = pos 399

abbrev pub blank : List Float
blank = zero⁺ ∷ zero⁺ ∷ zero⁺ ∷ zero⁺ ∷ one ∷ []

abbrev pub input : Bool → ℤ → ℤ → PriceInput
input s e f = record { prices = prices s e f; assets = 2; rows = 3; slice = blank }

-- 2^799 and 2^-799
abbrev pub powers : ℕ → ℤ
powers zero = pos 799
powers (suc i) = neg_ℤ (pos 799)
