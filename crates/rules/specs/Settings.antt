-- Document 01, "Records": the settings record by its parts, as examples and laws write it, and the number that stands for a target in
-- a question file (document 01, "The exam program") and in the C interface. Definitions only.
use Rattle.std.specs.Prelude.{ℕ, Bool, cond, leb, eqb, Float}
use Rattle.rules.specs.declared.Estimate.{Estimate}
use Rattle.rules.specs.declared.Target.{Target}
use Rattle.rules.specs.declared.Target.TheVariants.{ConstantVariance, ConstantCorrelation}
use Rattle.rules.specs.declared.Shrinkage.{Shrinkage}
use Rattle.rules.specs.declared.Regularization.{Regularization}
use Rattle.rules.specs.declared.Settings.{Settings}

abbrev pub settings : Estimate Float → Shrinkage Float → Regularization Float → ℕ → Settings
settings estimate shrinkage regularization limit =
    record { estimate = estimate; shrinkage = shrinkage; regularization = regularization; limit = limit }

-- 0 stands for constant variance, 1 for constant correlation, and no other number for a target
abbrev pub is_target : ℕ → Bool
is_target number = leb number 1

unfoldable pub target_of : ℕ → Target
target_of number = cond (eqb number 0) ConstantVariance ConstantCorrelation
