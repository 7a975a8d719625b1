-- Document 01, "Estimators": what a Stein mean finds, the means moved towards a target. Definitions only.
use Rattle.std.specs.Prelude.{ℕ, Float}
use Rattle.matrix.specs.Jacobi.{Decomposition}
use Rattle.rules.specs.declared.Answer.{Answer}
use Rattle.rules.specs.declared.Answer.TheVariants.{Shrunk}

pub record Shrinking : Type 0 where
  pub decomposition : Decomposition
  pub intensity : Float
  pub target : Float
  pub mean : ℕ → Float

-- what is returned with the means
abbrev pub shrunk_by : Shrinking → Answer
shrunk_by w = Shrunk w.intensity w.target w.decomposition.sweeps w.decomposition.rotations
