-- Document 01, "Estimators": the semicovariance below each asset's mean, or below a threshold (covariance.rs). Definitions only.
use Rattle.std.specs.Prelude.{ℕ, ◌-◌, Float}
use Rattle.leaves.specs.Numbers.{◌⊖◌, min0}
use Rattle.matrix.specs.Matrix.{Matrix}
use Rattle.rules.specs.Sample.{mean, second_moment}

unfoldable pub shortfall : (ℕ → Float) → Matrix → Matrix
shortfall floor x t i = min0 (x t i ⊖ floor i)

abbrev pub below : (ℕ → Float) → ℕ → ℕ → Matrix → Matrix
below floor d T x = second_moment d T (shortfall floor x)

unfoldable pub semicovariance : ℕ → Matrix → Matrix
semicovariance T x = below (mean T x) (T - 1) T x

unfoldable pub semicovariance_below : Float → ℕ → Matrix → Matrix
semicovariance_below threshold T x = below (λ a. threshold) T T x
