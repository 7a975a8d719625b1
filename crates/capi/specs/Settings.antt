-- What only the contracts of the C interface cite: settings in numbers, a kind each, with the value that some kinds have, a float or its bits (include/engine.h). Definitions only.
use Rattle.std.specs.Prelude.{ℕ, ◌-◌, Bool, cond, ◌&&◌, ltb, eqb, Float}
use Rattle.rules.specs.Settings.{target_of}
use Rattle.rules.specs.declared.Decay.TheVariants.{HalfLife, Lambda}
use Rattle.rules.specs.declared.Estimate.{Estimate}
use Rattle.rules.specs.declared.Estimate.TheVariants.{Sample, Given, Weighted, Semi, SemiBelow}
use Rattle.rules.specs.declared.Shrinkage.{Shrinkage}
use Rattle.rules.specs.declared.Shrinkage.TheVariants.{Unshrunk, Fixed, LedoitWolf}
use Rattle.rules.specs.declared.Regularization.{Regularization}
use Rattle.rules.specs.declared.Regularization.TheVariants.{Unregularized, Ridge}
use Rattle.rules.specs.declared.Settings.{Settings}

-- how many numbers, from 0 on, stand for a kind of an estimate, of a shrinkage and of a regularization
abbrev pub estimate_kinds : ℕ
estimate_kinds = 6

abbrev pub shrinkage_kinds : ℕ
shrinkage_kinds = 4

abbrev pub regularization_kinds : ℕ
regularization_kinds = 2

unfoldable pub known : ℕ → ℕ → ℕ → Bool
known estimate shrinkage regularization = ltb estimate estimate_kinds && ltb shrinkage shrinkage_kinds && ltb regularization regularization_kinds

unfoldable pub estimate_of : {A : Type 0} → ℕ → A → Estimate A
estimate_of kind x =
    cond (eqb kind 0) Sample
    (cond (eqb kind 1) Given
    (cond (eqb kind 2) (Weighted (HalfLife x))
    (cond (eqb kind 3) Semi
    (cond (eqb kind 4) (SemiBelow x) (Weighted (Lambda x))))))

unfoldable pub shrinkage_of : {A : Type 0} → ℕ → A → Shrinkage A
shrinkage_of kind x = cond (eqb kind 0) Unshrunk (cond (eqb kind 1) (Fixed x) (LedoitWolf (target_of (kind - 2))))

unfoldable pub regularization_of : {A : Type 0} → ℕ → A → Regularization A
regularization_of kind x = cond (eqb kind 0) Unregularized (Ridge x)

abbrev pub settings_of : ℕ → Float → ℕ → Float → ℕ → Float → ℕ → Settings
settings_of estimate estimate_value shrinkage shrinkage_value regularization regularization_value limit = record {
  estimate = estimate_of estimate estimate_value;
  shrinkage = shrinkage_of shrinkage shrinkage_value;
  regularization = regularization_of regularization regularization_value;
  limit = limit;
}
