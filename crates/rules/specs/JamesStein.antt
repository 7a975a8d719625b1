-- Document 01, "Estimators": the James-Stein mean (expected_returns.rs, `james_stein_mean`). Definitions only.
-- α = (tr Σ - 2 λ_max) / (T ‖μ - μ₀1‖²), cut to [0, 1]; the means become μ + α (μ₀ - μ), with μ₀ their average.
use Rattle.std.specs.Prelude.{ℕ, true, false, ℤ, neg_ℤ, ◌+ℤ◌, Float}
use Rattle.std.specs.Float.Ieee.{eq}
use Rattle.leaves.specs.Numbers.{◌⊕◌, ◌⊖◌, ◌⊗◌, ◌⊘◌, zero⁺, two, clamp01}
use Rattle.leaves.specs.Loops.{sum_to, mean_to, amax_to, nth}
use Rattle.leaves.specs.Scaling.{binary_exponent, pow2_scaled}
use Rattle.matrix.specs.Matrix.{Matrix, at, trace}
use Rattle.matrix.specs.Jacobi.{Decomposition, largest_value, decompose, unturned}
use Rattle.rules.specs.Moments.{Moments}
use Rattle.rules.specs.Shrinking.{Shrinking}

-- μ₀
unfoldable pub grand_mean : ℕ → (ℕ → Float) → Float
grand_mean n μ = mean_to n μ

-- the largest |μᵢ - μ₀|
unfoldable pub largest_deviation : ℕ → (ℕ → Float) → Float → Float
largest_deviation n μ μ₀ = amax_to n (λ i. μ i ⊖ μ₀)

-- nothing is decomposed where all means are equal
unfoldable pub decompose_unequal : ℕ → ℕ → Float → Matrix → Decomposition
decompose_unequal limit n largest Σ = elim (eq largest zero⁺) [ true ↦ unturned n true | false ↦ decompose limit n Σ ]

-- ‖μ - μ₀1‖², over 4 ^ shift
unfoldable pub spread : ℕ → (ℕ → Float) → Float → ℤ → Float
spread n μ μ₀ shift = sum_to n (λ i. let d = pow2_scaled (μ i ⊖ μ₀) (neg_ℤ shift) in d ⊗ d)

-- α
unfoldable pub james_stein_intensity : ℕ → Moments → Float → Decomposition → Float
james_stein_intensity n m μ₀ d =
    let μ = nth m.mean in
    let largest = largest_deviation n μ μ₀ in
    let shift = binary_exponent largest in
    let excess = trace n (at m.covariance n) ⊖ two ⊗ largest_value n d in
    elim (eq largest zero⁺) [
      | true ↦ zero⁺
      | false ↦ clamp01 (pow2_scaled (excess ⊘ (m.periods ⊗ spread n μ μ₀ shift)) (neg_ℤ (shift +ℤ shift)))
    ]

unfoldable pub towards : Float → Float → Float → Float
towards α μ₀ μ = μ ⊕ α ⊗ (μ₀ ⊖ μ)

-- the moments are in the unit 2 ^ e
abbrev pub james_stein : ℕ → ℕ → Moments → ℤ → Shrinking
james_stein n limit m e =
    let μ = nth m.mean in
    let μ₀ = grand_mean n μ in
    let d = decompose_unequal limit n (largest_deviation n μ μ₀) (at m.covariance n) in
    let α = james_stein_intensity n m μ₀ d in
    record { decomposition = d; intensity = α; target = pow2_scaled μ₀ e; mean = λ i. pow2_scaled (towards α μ₀ (μ i)) e }
