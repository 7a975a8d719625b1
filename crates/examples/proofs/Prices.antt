-- Document 02, "Paper 4. Questions in prices", of the definitions, by computation: the returns of prices, refusals and their order, and the covariance that the returns then have.
use mathlib.Core.Path.{◌≡◌, refl}
use mathlib.Core.Bool.{true, false}
use mathlib.Core.List.{List, [], ◌∷◌}
use lib.IntN.{pos, negsuc}
use lib.ListN.{take}
use lib.Ieee.{Float, nan, fin, neg}
use Rattle.leaves.specs.Numbers.{float, count, zero⁺, one}
use Rattle.matrix.specs.Limits.{max_sweeps}
use Rattle.rules.specs.Settings.{settings}
use Rattle.rules.specs.Refusals.{passes, refuses}
use Rattle.rules.specs.Calls.{Answered, answered, adjusted_covariance}
use Rattle.rules.specs.Prices.{Converted, converted, returns_from_prices}
use Rattle.rules.specs.declared.Estimate.TheVariants.{Sample}
use Rattle.rules.specs.declared.Shrinkage.TheVariants.{Unshrunk}
use Rattle.rules.specs.declared.Regularization.TheVariants.{Unregularized}
use Rattle.rules.specs.declared.Refusal.{Refusal}
use Rattle.rules.specs.declared.Refusal.TheVariants.{TooLarge, TooFewPeriods, WrongLength, NotFinite, CovarianceNotFinite, NonPositivePrice}
use Rattle.rules.specs.declared.Answer.TheVariants.{Covariance}
use Rattle.std.specs.Prelude.{Ok, Err}
use Rattle.examples.proofs.Evaluated.{evaluated}

-- the least and the largest number of f64, -0 and 1e200
abbrev least : Float
least = fin false 1 (negsuc 1073)

abbrev largest : Float
largest = float 0x7FEF_FFFF_FFFF_FFFF

abbrev minus_zero : Float
minus_zero = fin true 0 (pos 0)

abbrev 1e200 : Float
1e200 = float 0x6974_E718_D7D7_625A

-- a return slice of three numbers
abbrev blank : List Float
blank = count 7 ∷ count 8 ∷ count 9 ∷ []

-- three prices of one asset, and the two returns before what is left of the slice
abbrev asset : Float → Float → Float → Converted
asset a b c = returns_from_prices (a ∷ b ∷ c ∷ []) 1 3 blank

abbrev returns : Float → Float → Converted
returns r s = converted passes (r ∷ s ∷ count 9 ∷ [])

abbrev refused : Refusal → Converted
refused c = converted (refuses c) blank

-- the sample covariance of the two returns
abbrev covariance_of : Converted → Answered
covariance_of c = adjusted_covariance (take 2 c.slice) 1 2 (settings Sample Unshrunk Unregularized max_sweeps) [] 0 (zero⁺ ∷ [])

pub record PriceCases : Type 0 where
  -- a quotient, then minus 1: two roundings
  pub rounded_twice : asset (count 100) (count 110) (count 99) ≡ returns (float 0x3FB9_9999_9999_99A0) (float 0xBFB9_9999_9999_9998)
  -- a quotient that is 0 after rounding is no refusal
  pub underflows : asset largest least least ≡ returns (neg one) zero⁺
  -- an infinite return, at its row among the returns
  pub overflows : (asset least one one ≡ refused (NotFinite 0 0)) × (asset one least one ≡ refused (NotFinite 1 0))
  pub second_asset : returns_from_prices (one ∷ one ∷ one ∷ least ∷ least ∷ one ∷ []) 2 3 (zero⁺ ∷ blank) ≡ converted (refuses (NotFinite 1 1)) (zero⁺ ∷ blank)
  -- -0 is a zero price
  pub minus_zero_lem : asset one minus_zero zero⁺ ≡ refused (NonPositivePrice 1 0)
  -- 5 of any price before 16, and 16 of any price before 5 of a return
  pub in_order : (asset zero⁺ nan one ≡ refused (NotFinite 1 0)) × (asset least one zero⁺ ≡ refused (NonPositivePrice 2 0))
  -- two rows, also of 25 assets; and a price too many
  pub two_rows : (returns_from_prices (one ∷ one ∷ []) 1 2 blank ≡ refused (TooFewPeriods 2)) × (returns_from_prices [] 25 2 blank ≡ refused TooLarge)
  pub four_prices : returns_from_prices (one ∷ one ∷ one ∷ one ∷ []) 1 3 blank ≡ refused WrongLength
  -- prices, then a covariance of their returns; and returns whose covariance is refused with 6
  pub then_covariance : covariance_of (asset (count 100) (count 110) (count 99)) ≡ answered (Ok (Covariance zero⁺ 0 0)) (float 0x3F94_7AE1_47AE_147F ∷ [])
  pub then_refused : (asset one 1e200 one ≡ returns 1e200 (neg one)) × (covariance_of (asset one 1e200 one) ≡ answered (Err CovarianceNotFinite) (zero⁺ ∷ []))

pub price_cases : PriceCases
unfolding evaluated
price_cases = record {
  rounded_twice = refl;
  underflows = refl;
  overflows = (refl, refl);
  second_asset = refl;
  minus_zero_lem = refl;
  in_order = (refl, refl);
  two_rows = (refl, refl);
  four_prices = refl;
  then_covariance = refl;
  then_refused = (refl, refl);
}
