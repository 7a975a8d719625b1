-- Document 01, "Causes": the number of each refusal, what is returned with it, and the first refusal of a list of checks. Definitions only.
use Rattle.std.specs.Prelude.{ℕ, Bool, true, false, List, [], ◌∷◌}
use Rattle.std.proofs.Math.Option.{Option, none, some}
use Rattle.rules.specs.declared.Detail.{Detail}
use Rattle.rules.specs.declared.Detail.TheVariants.{Nothing as nothing, Only as only, Entry as entry, Value as value}
use Rattle.rules.specs.declared.Field.{Field}
use Rattle.rules.specs.declared.Field.TheVariants.{RegularizationField, ShrinkageField, HalfLifeField, ThresholdField, SweepLimitField, DecayFactorField}
use Rattle.rules.specs.declared.Refusal.{Refusal}
use Rattle.rules.specs.declared.Refusal.TheVariants.{NoAssets, TooLarge, TooFewPeriods, WrongLength, NotFinite, CovarianceNotFinite, BadSetting, NotTheSample, ZeroVariance, WrongSide, Asymmetric, Indefinite, NotDecomposed, Singular}
use Rattle.rules.specs.declared.Refusal.TheVariants.{NonPositivePrice}

abbrev pub number : Refusal → ℕ
number NoAssets = 1
number TooLarge = 2
number (TooFewPeriods T) = 3
number WrongLength = 4
number (NotFinite i j) = 5
number CovarianceNotFinite = 6
number (BadSetting f) = 7
number NotTheSample = 8
number (ZeroVariance i) = 9
number (WrongSide n) = 10
number (Asymmetric i j) = 11
number (Indefinite x) = 12
number NotDecomposed = 13
number Singular = 14
-- document 02, "Paper 4"
number (NonPositivePrice i j) = 16

abbrev pub field_number : Field → ℕ
field_number RegularizationField = 1
field_number ShrinkageField = 2
field_number HalfLifeField = 3
field_number ThresholdField = 4
field_number SweepLimitField = 5
-- document 02, "Paper 1"
field_number DecayFactorField = 6

-- what is returned with a refusal
abbrev pub detail : Refusal → Detail
detail NoAssets = nothing
detail TooLarge = nothing
detail (TooFewPeriods T) = only T
detail WrongLength = nothing
detail (NotFinite i j) = entry i j
detail CovarianceNotFinite = nothing
detail (BadSetting f) = only (field_number f)
detail NotTheSample = nothing
detail (ZeroVariance i) = only i
detail (WrongSide n) = only n
detail (Asymmetric i j) = entry i j
detail (Indefinite x) = value x
detail NotDecomposed = nothing
detail Singular = nothing
detail (NonPositivePrice i j) = entry i j

-- ---- checks

pub data Check : Type 0 where
  passes : Check
  refuses : Refusal → Check

abbrev pub when : Bool → Refusal → Check
when true c = refuses c
when false c = passes

abbrev pub when_some : {A : Type 0} → Option A → (A → Refusal) → Check
when_some none c = passes
when_some (some a) c = refuses (c a)

-- the first check that refuses
unfoldable pub first : List Check → Check
first [] = passes
first (passes ∷ cs) = first cs
first (refuses c ∷ cs) = refuses c
