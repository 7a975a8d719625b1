-- Document 01, "Twelve cases", of the definitions, by computation, joined in one table.
use Prim.Native.Nat.{ℕ}
use mathlib.Core.Path.{◌≡◌, refl}
use mathlib.Core.Bool.{false}
use mathlib.Core.List.{List, [], ◌∷◌}
use lib.IntN.{pos, negsuc}
use lib.Ieee.{Float, inf, fin, neg}
use Rattle.leaves.specs.Numbers.{float, count, zero⁺, half, one, two}
use Rattle.leaves.specs.Scaling.{binary_exponent, pow2, pow2_scaled}
use Rattle.leaves.specs.Root.{sqrt}
use Rattle.matrix.specs.Limits.{max_sweeps}
use Rattle.rules.specs.Settings.{settings}
use Rattle.rules.specs.Refusals.{passes, refuses}
use Rattle.rules.specs.Weighted.{log_decay, weights}
use Rattle.rules.specs.Order.{bad_decay}
use Rattle.rules.specs.Calls.{Answered, answered, adjusted_covariance, exponentially_weighted_mean, james_stein_mean}
use Rattle.rules.specs.declared.Estimate.TheVariants.{Sample, Given}
use Rattle.rules.specs.declared.Shrinkage.{Shrinkage}
use Rattle.rules.specs.declared.Shrinkage.TheVariants.{Unshrunk, Fixed}
use Rattle.rules.specs.declared.Regularization.{Regularization}
use Rattle.rules.specs.declared.Regularization.TheVariants.{Unregularized, Ridge}
use Rattle.rules.specs.declared.Decay.TheVariants.{HalfLife}
use Rattle.rules.specs.declared.Field.TheVariants.{HalfLifeField}
use Rattle.rules.specs.declared.Refusal.TheVariants.{BadSetting, ZeroVariance, Indefinite, NotDecomposed, Singular}
use Rattle.rules.specs.declared.Answer.TheVariants.{Covariance, Mean, Shrunk}
use Rattle.std.specs.Prelude.{Ok, Err}
use Rattle.examples.proofs.Evaluated.{evaluated}

-- rows (1,2), (3,6) or (1,1), (1,1)
abbrev rows : List Float
rows = count 1 ∷ count 2 ∷ count 3 ∷ count 6 ∷ []

abbrev equal : List Float
equal = one ∷ one ∷ one ∷ one ∷ []

abbrev blank : List Float
blank = zero⁺ ∷ zero⁺ ∷ zero⁺ ∷ zero⁺ ∷ []

abbrev two_assets : List Float → Shrinkage Float → Regularization Float → Answered
two_assets r shrinkage regularization =
    adjusted_covariance r 2 2 (settings Sample shrinkage regularization max_sweeps) [] 0 blank

-- one asset, returns 1, 3, and a given variance
abbrev one_asset : Float → Regularization Float → ℕ → Answered
one_asset g regularization limit =
    adjusted_covariance (one ∷ count 3 ∷ []) 1 2 (settings Given Unshrunk regularization limit) (g ∷ []) 1 (zero⁺ ∷ [])

-- a covariance of two assets that nothing shrank and for which nothing was decomposed
abbrev plain : Float → Float → Float → Float → Answered
plain a b c d = answered (Ok (Covariance zero⁺ 0 0)) (a ∷ b ∷ c ∷ d ∷ [])

pub record TwelveCases : Type 0 where
  pub case_1 : (binary_exponent zero⁺ ≡ pos 0) × (binary_exponent (pow2 (negsuc 1073)) ≡ negsuc 1073) × (binary_exponent (float 0x7FEF_FFFF_FFFF_FFFF) ≡ pos 1023)
  pub case_2 : (pow2_scaled one (negsuc 1073) ≡ pow2 (negsuc 1073)) × (pow2_scaled one (pos 1024) ≡ inf false)
  pub case_3 : (sqrt two ≡ float 0x3FF6_A09E_667F_3BCD) × (sqrt (pow2 (negsuc 1073)) ≡ pow2 (negsuc 536))
  pub case_4 : (bad_decay (HalfLife (float 0x3F50_624D_D2F1_A9FC)) ≡ passes) × (bad_decay (HalfLife (float 0x3F4D_7DBF_487F_CB92)) ≡ refuses (BadSetting HalfLifeField))
  pub case_5 : (weights 2 (log_decay (HalfLife one)) ≡ half ∷ one ∷ []) × (exponentially_weighted_mean (one ∷ count 4 ∷ []) 1 2 (HalfLife one) (zero⁺ ∷ []) ≡ answered (Ok Mean) (count 3 ∷ []))
  pub case_6 : two_assets rows Unshrunk Unregularized ≡ plain (count 2) (count 4) (count 4) (count 8)
  pub case_7 : two_assets rows Unshrunk (Ridge one) ≡ plain (count 3) (count 4) (count 4) (count 9)
  pub case_8 : two_assets rows (Fixed half) Unregularized ≡ answered (Ok (Covariance half 0 0)) (fin false 7 (negsuc 0) ∷ two ∷ two ∷ fin false 13 (negsuc 0) ∷ [])
  pub case_9 : (two_assets equal Unshrunk Unregularized ≡ answered (Err (ZeroVariance 0)) blank) × (two_assets equal Unshrunk (Ridge zero⁺) ≡ answered (Err (ZeroVariance 0)) blank) × (two_assets equal (Fixed half) Unregularized ≡ answered (Err Singular) blank)
  pub case_10 : (one_asset (neg one) Unregularized max_sweeps ≡ answered (Err (Indefinite (neg one))) (zero⁺ ∷ [])) × (one_asset zero⁺ Unregularized max_sweeps ≡ answered (Err (ZeroVariance 0)) (zero⁺ ∷ [])) × (one_asset zero⁺ (Ridge one) max_sweeps ≡ answered (Ok (Covariance zero⁺ 0 0)) (one ∷ []))
  pub case_11 : (one_asset one Unregularized 0 ≡ answered (Err NotDecomposed) (zero⁺ ∷ [])) × (one_asset one Unregularized 1 ≡ answered (Ok (Covariance zero⁺ 0 0)) (one ∷ []))
  pub case_12 : james_stein_mean (one ∷ count 3 ∷ []) 1 2 max_sweeps (zero⁺ ∷ []) ≡ answered (Ok (Shrunk zero⁺ two 0 0)) (two ∷ [])

pub twelve_cases : TwelveCases
unfolding evaluated
twelve_cases = record {
  case_1 = (refl, refl, refl);
  case_2 = (refl, refl);
  case_3 = (refl, refl);
  case_4 = (refl, refl);
  case_5 = (refl, refl);
  case_6 = refl;
  case_7 = refl;
  case_8 = refl;
  case_9 = (refl, refl, refl);
  case_10 = (refl, refl, refl);
  case_11 = (refl, refl);
  case_12 = refl;
}
