-- What only the contracts of inner functions cite: the two Stein means in parts. Definitions only.
use Rattle.std.specs.Prelude.{◌≡◌, ℕ, true, false, List, ℤ, Result, Ok, Err, Float}
use Rattle.leaves.specs.Loops.{tab, nth}
use Rattle.matrix.specs.Matrix.{Matrix, at}
use Rattle.matrix.specs.Jacobi.{Decomposition}
use Rattle.rules.specs.Refusals.{first}
use Rattle.rules.specs.Sample.{scaled, volatility}
use Rattle.rules.specs.Moments.{Moments, moments}
use Rattle.rules.specs.Shrinking.{shrunk_by}
use Rattle.rules.specs.JamesStein.{largest_deviation, decompose_unequal, james_stein_intensity, james_stein}
use Rattle.rules.specs.BayesStein.{MeanShrinkage, bayes_stein_shrinkage, exponents_of, largest_in, correlations, bayes_stein, exponent_at}
use Rattle.rules.specs.Order.{not_found, of_correlations}
use Rattle.rules.specs.Calls.{Answered, answered, settle}
use Rattle.rules.specs.declared.Refusal.{Refusal}
use Rattle.rules.specs.declared.Refusal.TheVariants.{Singular}
use Rattle.means.specs.declared.james_stein.Found.{Found}

abbrev pub mean_shrinkage : Float → Float → MeanShrinkage
mean_shrinkage α μ₀ = record { intensity = α; target = μ₀ }

-- α and μ₀ are `bayes_stein_shrinkage`'s, for every covariance with these volatilities and every decomposition with these values and vectors
abbrev pub BayesSteinShrinks : ℕ → List Float → List Float → List ℤ → Float → List Float → List Float → Float → Float → Type 0
BayesSteinShrinks n μ v e T values vectors α μ₀ =
    (Σ : Matrix) (d : Decomposition) → v ≡ tab n (volatility Σ) → d.values ≡ values → d.vectors ≡ vectors
    → mean_shrinkage α μ₀ ≡ bayes_stein_shrinkage n T (nth μ) Σ (exponent_at e) d

-- α and the counts of the means' decomposition d, with the target μ₀; one that fails is refused
abbrev pub found_by : ℕ → Moments → Float → Decomposition → Result Found Refusal
found_by n m μ₀ d = elim d.found [ true ↦ Ok (record { intensity = james_stein_intensity n m μ₀ d; sweeps = d.sweeps; rotations = d.rotations }) | false ↦ Err Singular ]

abbrev pub JamesSteinShrinks : ℕ → ℕ → Moments → Float → Result Found Refusal → Type 0
JamesSteinShrinks n limit m μ₀ result = result ≡ found_by n m μ₀ (decompose_unequal limit n (largest_deviation n (nth m.mean) μ₀) (at m.covariance n))

-- ---- the two calls from the moments on, for an answer slice of n numbers

-- the moments are in the unit 2 ^ e
abbrev pub james_stein_of : ℕ → ℕ → Moments → ℤ → List Float → Answered
james_stein_of n limit m e slice =
    let w = james_stein n limit m e in
    settle (not_found w.decomposition) slice (answered (Ok (shrunk_by w)) (tab n w.mean))

-- the moments are in the units 2 ^ eᵢ, and so are the largest returns
abbrev pub bayes_stein_of : ℕ → ℕ → Moments → (ℕ → ℤ) → (ℕ → Float) → List Float → Answered
bayes_stein_of n limit m e largest slice =
    let w = bayes_stein n limit m e in
    settle (first (of_correlations n largest (at m.covariance n) (correlations n m) w.decomposition)) slice (answered (Ok (shrunk_by w)) (tab n w.mean))

-- the same of the returns x
abbrev pub bayes_stein_from : ℕ → ℕ → ℕ → Matrix → List Float → Answered
bayes_stein_from n T limit x slice = let e = exponents_of T n x in bayes_stein_of n limit (moments T n (scaled e x)) e (largest_in e T x) slice
