-- What only the contracts of the C interface cite: the report of each of the five calls, and the answer slice after it. Definitions only.
use Rattle.std.specs.Prelude.{ℕ, Bool, true, false, List, [], Float}
use Rattle.leaves.specs.Numbers.{zero⁺}
use Rattle.rules.specs.Settings.{is_target, target_of}
use Rattle.rules.specs.Calls.{Answered, answered, adjusted_covariance, ledoit_wolf_intensity}
use Rattle.capi.specs.Settings.{known, settings_of}
use Rattle.capi.specs.Report.{reported, report_of}
use Rattle.capi.specs.declared.report.Report.{Report}

-- what a call leaves behind
pub record Left : Type 0 where
  pub report : Report
  pub slice : List Float

abbrev pub left : Report → List Float → Left
left report slice = record { report = report; slice = slice }

abbrev pub told : Answered → Left
told a = left (report_of a.answer) a.slice

-- a number that stands for no kind is refused with this one, before all other causes
abbrev pub unknown_kind : ℕ
unknown_kind = 100

unfoldable pub when_known : Bool → List Float → Answered → Left
when_known true slice a = told a
when_known false slice a = left (reported unknown_kind zero⁺ zero⁺ 0 0) slice

unfoldable pub engine_adjusted_covariance : List Float → ℕ → ℕ → ℕ → Float → ℕ → Float → ℕ → Float → ℕ → List Float → ℕ → List Float → Left
engine_adjusted_covariance r n T estimate estimate_value shrinkage shrinkage_value regularization regularization_value limit given side slice =
    when_known (known estimate shrinkage regularization) slice (adjusted_covariance r n T (settings_of estimate estimate_value shrinkage shrinkage_value regularization regularization_value limit) given side slice)

-- it takes no answer slice
unfoldable pub engine_ledoit_wolf : List Float → ℕ → ℕ → ℕ → Report
engine_ledoit_wolf r n T target = (when_known (is_target target) [] (answered (ledoit_wolf_intensity r n T (target_of target)) [])).report
