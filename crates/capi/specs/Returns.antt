-- What only the contracts of the C interface cite: the report of the call that takes prices, and the return slice after it. Definitions only.
use Rattle.std.specs.Prelude.{ℕ, List, Float}
use Rattle.leaves.specs.Numbers.{zero⁺}
use Rattle.rules.specs.Refusals.{Check, passes, refuses}
use Rattle.rules.specs.Prices.{Converted, returns_from_prices}
use Rattle.capi.specs.Report.{reported, refused}
use Rattle.capi.specs.Calls.{Left, left}
use Rattle.capi.specs.declared.report.Report.{Report}

abbrev pub report_of_check : Check → Report
report_of_check passes = reported 0 zero⁺ zero⁺ 0 0
report_of_check (refuses c) = refused c

abbrev pub told_returns : Converted → Left
told_returns c = left (report_of_check c.check) c.slice

unfoldable pub engine_returns_from_prices : List Float → ℕ → ℕ → List Float → Left
engine_returns_from_prices prices n R slice = told_returns (returns_from_prices prices n R slice)
