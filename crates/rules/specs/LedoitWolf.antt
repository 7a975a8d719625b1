-- Document 01, "Estimators": the targets and the intensity of Ledoit and Wolf (covariance.rs, `ledoit_wolf`). Definitions only.
-- [a] "A well-conditioned estimator for large-dimensional covariance matrices" (2004): the target is the average variance times the identity.
-- [b] "Honey, I shrunk the sample covariance matrix" (2004): the target has the sample's variances and their average correlation.
use Rattle.std.specs.Prelude.{ℕ, ◌*◌, ◌-◌, Bool, true, false, not, cond, List, eqb, Float}
use Rattle.std.specs.Float.Ieee.{lt}
use Rattle.leaves.specs.Numbers.{◌⊖◌, ◌⊗◌, ◌⊘◌, count, zero⁺, clamp01}
use Rattle.leaves.specs.Loops.{mean_to}
use Rattle.leaves.specs.Scaling.{binary_exponent}
use Rattle.matrix.specs.Matrix.{Matrix, at, rows, identity, trace, amax, sum_over, total, squares}
use Rattle.rules.specs.Sample.{deviation, volatility, correlation, second_moment, scaled}
use Rattle.rules.specs.declared.Target.{Target}
use Rattle.rules.specs.declared.Target.TheVariants.{ConstantVariance, ConstantCorrelation}

-- ---- the targets, for a covariance s of n assets

abbrev pub apart : ℕ → ℕ → Bool
apart i j = not (eqb i j)

unfoldable pub average_variance : ℕ → Matrix → Float
average_variance n s = trace n s ⊘ count n

-- r̄
unfoldable pub average_correlation : ℕ → Matrix → Float
average_correlation n s = sum_over n apart (correlation s) zero⁺ ⊘ count (n * (n - 1))

-- F of [b]: the matrix itself for one asset, which has no pair
unfoldable pub constant_correlation : ℕ → Matrix → Matrix
constant_correlation n s i j = cond (eqb i j) (s i i) (average_correlation n s ⊗ volatility s i ⊗ volatility s j)

-- F
unfoldable pub target : Target → ℕ → Matrix → Matrix
target ConstantVariance n s i j = average_variance n s ⊗ identity i j
target ConstantCorrelation n s i j = constant_correlation n s i j

-- ---- the intensity, from T periods of centered returns z with the second moments s

abbrev pub distance² : Float → Float → Float
distance² x y = (x ⊖ y) ⊗ (x ⊖ y)

-- πᵢⱼ, the variance of √T sᵢⱼ
unfoldable pub variation : ℕ → Matrix → Matrix → Matrix
variation T z s i j = mean_to T (λ t. distance² (z t i ⊗ z t j) (s i j))

-- θᵢⱼ, the covariance of √T sᵢᵢ and √T sᵢⱼ
unfoldable pub covariation : ℕ → Matrix → Matrix → Matrix
covariation T z s i j = mean_to T (λ t. (z t i ⊗ z t i ⊖ s i i) ⊗ z t i ⊗ z t j)

-- its share in ρ, by the average correlation r and the volatilities v
abbrev pub cross_covariation : Float → (ℕ → Float) → Matrix → Matrix
cross_covariation r v θ i j = r ⊗ v j ⊘ v i ⊗ θ i j

-- ρ, the covariance of the target with the sample
unfoldable pub target_covariation : ℕ → ℕ → Matrix → Matrix → Float
target_covariation T n z s =
    sum_over n apart (cross_covariation (average_correlation n s) (volatility s) (covariation T z s)) (trace n (variation T z s))

-- the estimation error: π, less ρ for [b]
unfoldable pub error : Target → ℕ → ℕ → Matrix → Matrix → Float
error ConstantVariance T n z s = total n (variation T z s)
error ConstantCorrelation T n z s = total n (variation T z s) ⊖ target_covariation T n z s

-- γ, the squared distance to the target
unfoldable pub squared_distance : Target → ℕ → Matrix → Float
squared_distance F n s = squares n (λ i j. s i j ⊖ target F n s i j)

-- δ, by the error and γ: 0 unless γ is above 0
unfoldable pub intensity_by : Float → ℕ → Float → Float
intensity_by error T γ = elim (lt zero⁺ γ) [ true ↦ clamp01 (error ⊘ count T ⊘ γ) | false ↦ zero⁺ ]

unfoldable pub intensity_of : Target → ℕ → ℕ → Matrix → Matrix → Float
intensity_of F T n z s = intensity_by (error F T n z s) T (squared_distance F n s)

-- s, stored by rows; and δ from z alone
abbrev pub second_moments : ℕ → ℕ → Matrix → List Float
second_moments T n z = rows n n (second_moment T T z)

abbrev pub intensity_from : Target → ℕ → ℕ → Matrix → Float
intensity_from F T n z = let s = second_moments T n z in intensity_of F T n z (at s n)

-- δ is a ratio of fourth moments: the centered returns are taken over a power of two near the largest
unfoldable pub ledoit_wolf : Target → ℕ → ℕ → Matrix → Float
ledoit_wolf F T n x =
    let e = binary_exponent (amax T n (deviation T x)) in
    let z = rows T n (scaled (λ i. e) (deviation T x)) in
    intensity_from F T n (at z n)
