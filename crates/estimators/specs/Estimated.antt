-- What only the contracts of inner functions cite: the adjusted covariance's last parts, on an answer slice of n × n numbers. Definitions only.
use Rattle.std.specs.Prelude.{ℕ, List, Ok, Float}
use Rattle.matrix.specs.Matrix.{Matrix, at}
use Rattle.rules.specs.Refusals.{first}
use Rattle.rules.specs.Adjusted.{intensity, base_of, adjusted_of}
use Rattle.rules.specs.Order.{by_estimate, of_settings}
use Rattle.rules.specs.Calls.{Answered, answered, settle}
use Rattle.rules.specs.declared.Settings.{Settings}
use Rattle.rules.specs.declared.Answer.TheVariants.{Covariance}

-- from the estimate b on; `made` is the sweeps and rotations
abbrev pub finished : Settings → Float → ℕ → ℕ → Matrix → ℕ × ℕ → List Float → List Float → Answered
finished s δ T n x made b slice =
    let a = adjusted_of s δ n b in
    settle (first (by_estimate s δ T n x (at b n) (at a n))) slice (answered (Ok (Covariance δ made.0 made.1)) a)

-- from the settings on, for the averaged given matrix g
abbrev pub estimated : Settings → ℕ → ℕ → ℕ → Matrix → ℕ × ℕ → Matrix → List Float → Answered
estimated s T n side x made g slice =
    let δ = intensity s.shrinkage T n x in
    let b = base_of s T n x g in
    let a = adjusted_of s δ n b in
    settle (first (of_settings s δ T n side x (at b n) (at a n))) slice (answered (Ok (Covariance δ made.0 made.1)) a)
