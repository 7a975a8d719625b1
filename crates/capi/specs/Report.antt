-- What only the contracts of the C interface cite: an answer in numbers, 0 or the refusal's number, two floats and two whole numbers (include/engine.h).
-- What an answer does not have is 0. Definitions only.
use Rattle.std.specs.Prelude.{ℕ, List, [], ◌∷◌, Float, Result, Ok, Err}
use Rattle.leaves.specs.Numbers.{zero⁺}
use Rattle.rules.specs.Refusals.{number, detail}
use Rattle.rules.specs.declared.Detail.{Detail}
use Rattle.rules.specs.declared.Detail.TheVariants.{Nothing as nothing, Only as only, Entry as entry, Value as value}
use Rattle.rules.specs.declared.Refusal.{Refusal}
use Rattle.rules.specs.declared.Answer.{Answer}
use Rattle.rules.specs.declared.Answer.TheVariants.{Covariance, Intensity, Mean, Shrunk}
use Rattle.capi.specs.declared.report.Report.{Report}

abbrev pub handed : ℕ → List Float → List ℕ → Report
handed number numbers wholes = record { number = number; numbers = numbers; wholes = wholes }

abbrev pub reported : ℕ → Float → Float → ℕ → ℕ → Report
reported number x y i j = handed number (x ∷ y ∷ []) (i ∷ j ∷ [])

-- a refusal's detail: one number, a row and a column, or an eigenvalue
abbrev pub first_of : Detail → ℕ
first_of nothing = 0
first_of (only i) = i
first_of (entry i j) = i
first_of (value x) = 0

abbrev pub second_of : Detail → ℕ
second_of nothing = 0
second_of (only i) = 0
second_of (entry i j) = j
second_of (value x) = 0

abbrev pub value_or : Float → Detail → Float
value_or y nothing = y
value_or y (only i) = y
value_or y (entry i j) = y
value_or y (value x) = x

abbrev pub refused : Refusal → Report
refused c = reported (number c) (value_or zero⁺ (detail c)) zero⁺ (first_of (detail c)) (second_of (detail c))

-- intensity and target, sweeps and rotations
unfoldable pub report_of : Result Answer Refusal → Report
report_of (Err c) = refused c
report_of (Ok (Covariance δ sweeps rotations)) = reported 0 δ zero⁺ sweeps rotations
report_of (Ok (Intensity δ)) = reported 0 δ zero⁺ 0 0
report_of (Ok Mean) = reported 0 zero⁺ zero⁺ 0 0
report_of (Ok (Shrunk α μ₀ sweeps rotations)) = reported 0 α μ₀ sweeps rotations
