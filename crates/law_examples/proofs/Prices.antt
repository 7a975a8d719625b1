-- The law of prices is not empty: two assets in three rows, the first from the lower end of the range to the upper, the second back. One pair is accepted,
-- with returns 1 and -1/2, and one is refused with 16.
use Prim.Native.Nat.{ℕ, zero, suc, ◌%◌, ◌<◌}
use native.Mathlib.Omega.{arith}
use mathlib.Core.Path.{◌≡◌, refl}
use mathlib.Core.Bool.{Bool, true, false}
use mathlib.Core.List.{[], ◌∷◌}
use lib.Ieee.{neg}
use Rattle.leaves.specs.Numbers.{half, one}
use Rattle.leaves.specs.Loops.{nth}
use Rattle.rules.specs.Refusals.{passes, refuses}
use Rattle.rules.specs.Prices.{Converted, converted}
use Rattle.rules.specs.declared.Refusal.TheVariants.{NonPositivePrice}
use Rattle.examples.proofs.Evaluated.{evaluated}
use Rattle.law.specs.Law.{All, Sized, Copy}
use Rattle.law.specs.Prices.{converted_by, price_range, ScaledPrices}
use Rattle.law_examples.proofs.PriceInputs.{prices, low, high, blank, input, powers}

copies : (s : Bool) (j : ℕ) → j < 6 → Copy (powers (j % 2)) (nth (prices s low high) j) (nth (prices s high low) j)
unfolding evaluated
copies s zero h = (refl, refl)
copies s (suc zero) h = (refl, refl)
copies false (suc (suc zero)) h = (refl, refl)
copies true (suc (suc zero)) h = (refl, refl)
copies s (suc (suc (suc zero))) h = (refl, refl)
copies s (suc (suc (suc (suc zero)))) h = (refl, refl)
copies s (suc (suc (suc (suc (suc zero))))) h = (refl, refl)
copies s (suc (suc (suc (suc (suc (suc j)))))) h = absurd (omega arith)

sized : (s : Bool) → All (Sized price_range) (prices s low high) × All (Sized price_range) (prices s high low)
unfolding evaluated
sized false = ((tt, (tt, (tt, (tt, (tt, (tt, tt)))))), (tt, (tt, (tt, (tt, (tt, (tt, tt)))))))
sized true = ((tt, (tt, (tt, (tt, (tt, (tt, tt)))))), (tt, (tt, (tt, (tt, (tt, (tt, tt)))))))

pub scaled : (s : Bool) → ScaledPrices powers (input s low high) (input s high low)
scaled s = record { prices = copies s; price_length = refl; assets = refl; rows = refl; slice_length = refl; before = (sized s).0; after = (sized s).1 }

-- what both inputs of a pair are converted to
abbrev Both : Bool → Converted → Type 0
Both s c = (converted_by (input s low high) ≡ c) × (converted_by (input s high low) ≡ c)

pub accepted_pair : Both false (converted passes (one ∷ neg half ∷ neg half ∷ one ∷ one ∷ []))
unfolding evaluated
accepted_pair = (refl, refl)

pub refused_pair : Both true (converted (refuses (NonPositivePrice 1 0)) blank)
unfolding evaluated
refused_pair = (refl, refl)
