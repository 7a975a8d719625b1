-- Document 01, its opening paragraph and "How tight", a: what each of the five calls returns, with its answer slice, for all inputs. Definitions only.
use Rattle.std.specs.Prelude.{ℕ, ◌*◌, List, [], length, Float, Result, Ok, Err}
use Rattle.leaves.specs.Loops.{fill, nth}
use Rattle.leaves.specs.Scaling.{binary_exponent}
use Rattle.matrix.specs.Matrix.{at, amax}
use Rattle.rules.specs.Refusals.{Check, passes, refuses, first}
use Rattle.rules.specs.Sample.{scaled}
use Rattle.rules.specs.Weighted.{log_decay, weights, weighted_mean}
use Rattle.rules.specs.Given.{average}
use Rattle.rules.specs.LedoitWolf.{ledoit_wolf}
use Rattle.rules.specs.Adjusted.{decomposition_of, intensity, base_of, adjusted_of}
use Rattle.rules.specs.Moments.{moments}
use Rattle.rules.specs.Shrinking.{shrunk_by}
use Rattle.rules.specs.JamesStein.{james_stein}
use Rattle.rules.specs.BayesStein.{exponents_of, largest_in, correlations, bayes_stein}
use Rattle.rules.specs.Order.{by_shape, adjusted_order, ledoit_wolf_order, weighted_order, james_stein_order, bayes_stein_order}
use Rattle.rules.specs.declared.Decay.{Decay}
use Rattle.rules.specs.declared.Target.{Target}
use Rattle.rules.specs.declared.Settings.{Settings}
use Rattle.rules.specs.declared.Answer.{Answer}
use Rattle.rules.specs.declared.Answer.TheVariants.{Covariance, Intensity, Mean}
use Rattle.rules.specs.declared.Refusal.{Refusal}

-- what is returned, an answer or the refusal, and the full answer slice
pub record Answered : Type 0 where
  pub answer : Result Answer Refusal
  pub slice : List Float

abbrev pub answered : Result Answer Refusal → List Float → Answered
answered a slice = record { answer = a; slice = slice }

-- a refusal leaves the answer slice as it was
unfoldable pub settle : Check → List Float → Answered → Answered
settle (refuses c) slice accepted = answered (Err c) slice
settle passes slice accepted = accepted

-- the adjusted covariance after refusals 1 to 4, with the intensity δ
unfoldable pub adjusted_with : Float → List Float → ℕ → ℕ → Settings → List Float → ℕ → List Float → Answered
adjusted_with δ r n T s given side slice =
    let d = decomposition_of s given side in
    let b = base_of s T n (at r n) (average given side) in
    let a = adjusted_of s δ n b in
    let accepted = answered (Ok (Covariance δ d.sweeps d.rotations)) (fill (n * n) (nth a) slice) in
    settle (first (adjusted_order n T s given side (at r n) δ (at b n) (at a n))) slice accepted

-- with the intensity that the returns have: ask, then adjust
unfoldable pub adjusted_returns : List Float → ℕ → ℕ → Settings → List Float → ℕ → List Float → Answered
adjusted_returns r n T s given side slice = adjusted_with (intensity s.shrinkage T n (at r n)) r n T s given side slice

-- refusals 1 to 4, and then the rest
unfoldable pub adjusted_covariance : List Float → ℕ → ℕ → Settings → List Float → ℕ → List Float → Answered
adjusted_covariance r n T s given side slice =
    settle (first (by_shape (length r) n T (n * n) (length slice))) slice (adjusted_returns r n T s given side slice)

-- it takes no answer slice
unfoldable pub ledoit_wolf_intensity : List Float → ℕ → ℕ → Target → Result Answer Refusal
ledoit_wolf_intensity r n T F =
    let accepted = answered (Ok (Intensity (ledoit_wolf F T n (at r n)))) [] in
    (settle (first (ledoit_wolf_order r n T F)) [] accepted).answer

unfoldable pub exponentially_weighted_mean : List Float → ℕ → ℕ → Decay Float → List Float → Answered
exponentially_weighted_mean r n T decay slice =
    let w = weights T (log_decay decay) in
    let accepted = answered (Ok Mean) (fill n (weighted_mean T w (at r n)) slice) in
    settle (first (weighted_order r n T decay slice)) slice accepted

-- all returns over one power of two near the largest
unfoldable pub james_stein_mean : List Float → ℕ → ℕ → ℕ → List Float → Answered
james_stein_mean r n T limit slice =
    let e = binary_exponent (amax T n (at r n)) in
    let m = moments T n (scaled (λ i. e) (at r n)) in
    let w = james_stein n limit m e in
    let accepted = answered (Ok (shrunk_by w)) (fill n w.mean slice) in
    settle (first (james_stein_order r n T limit slice w.decomposition)) slice accepted

-- each asset's returns over a power of two near its largest
unfoldable pub bayes_stein_mean : List Float → ℕ → ℕ → ℕ → List Float → Answered
bayes_stein_mean r n T limit slice =
    let e = exponents_of T n (at r n) in
    let m = moments T n (scaled e (at r n)) in
    let w = bayes_stein n limit m e in
    let accepted = answered (Ok (shrunk_by w)) (fill n w.mean slice) in
    settle (first (bayes_stein_order r n T limit slice (largest_in e T (at r n)) (at m.covariance n) (correlations n m) w.decomposition)) slice accepted
