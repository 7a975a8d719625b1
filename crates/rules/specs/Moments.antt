-- Document 01, "Records": the moments record, mean vector, covariance and period count (expected_returns.rs, `Moments`). Definitions only.
use Rattle.std.specs.Prelude.{ℕ, List, Float}
use Rattle.leaves.specs.Numbers.{count}
use Rattle.leaves.specs.Loops.{tab}
use Rattle.matrix.specs.Matrix.{Matrix, rows}
use Rattle.rules.specs.Sample.{mean, covariance}

pub record Moments : Type 0 where
  pub mean : List Float
  pub covariance : List Float
  pub periods : Float

abbrev pub moments_of : List Float → List Float → Float → Moments
moments_of μ Σ T = record { mean = μ; covariance = Σ; periods = T }

-- of the returns y
unfoldable pub moments : ℕ → ℕ → Matrix → Moments
moments T n y = moments_of (tab n (mean T y)) (rows n n (covariance T y)) (count T)
