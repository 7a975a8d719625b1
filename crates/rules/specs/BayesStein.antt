-- Document 01, "Estimators": the Bayes-Stein mean of Jorion, "Bayes-Stein estimation for portfolio analysis" (1986; expected_returns.rs, `bayes_stein_mean`).
-- Definitions only.
-- μ₀ = 1ᵀΣ⁻¹μ / 1ᵀΣ⁻¹1 and α = (n + 2) / (n + 2 + T (μ - μ₀1)ᵀΣ⁻¹(μ - μ₀1)); the means become (1 - α) μ + α μ₀.
-- Σ = S D C D S, with S each asset's power of two, D its volatility in that unit and C the correlations, and Σ⁻¹ is read off C = V diag(λ) Vᵀ.
use Rattle.std.specs.Prelude.{ℕ, Bool, true, false, cond, List, ℤ, pos, neg_ℤ, ◌+ℤ◌, ◌-ℤ◌, get_or, Float}
use Rattle.std.proofs.Math.Option.{Option, none, some}
use Rattle.std.specs.Int.Signed.{lt_z}
use Rattle.std.specs.Float.Ieee.{eq, le}
use Rattle.leaves.specs.Numbers.{◌⊕◌, ◌⊖◌, ◌⊗◌, ◌⊘◌, count, zero⁺, one, two, ε, max0}
use Rattle.leaves.specs.Loops.{loop, sum_to, tab, nth}
use Rattle.leaves.specs.Scaling.{binary_exponent, pow2_scaled}
use Rattle.matrix.specs.Matrix.{Matrix, at, rows}
use Rattle.matrix.specs.Jacobi.{Decomposition, smallest_value, largest_value, decompose}
use Rattle.rules.specs.Sample.{volatility, correlation, largest}
use Rattle.rules.specs.Moments.{Moments}
use Rattle.rules.specs.Shrinking.{Shrinking}

-- the smallest eigenvalue is at most n ε times the largest
unfoldable pub singular : ℕ → Decomposition → Bool
singular n d = le (smallest_value n d) (count n ⊗ ε ⊗ largest_value n d)

-- ---- numbers mᵢ 2 ^ kᵢ, gathered: a vector whose largest entry is near 1, and one power of two

-- the larger, if there is one
abbrev pub larger_z : Option ℤ → ℤ → Option ℤ
larger_z none k = some k
larger_z (some j) k = some (cond (lt_z j k) k j)

abbrev pub or_zero : Option ℤ → ℤ
or_zero none = pos 0
or_zero (some k) = k

-- with the exponent of x 2 ^ k, unless x is 0
abbrev pub with_exponent : Option ℤ → Float → ℤ → Option ℤ
with_exponent found x k = elim (eq x zero⁺) [ true ↦ found | false ↦ larger_z found (binary_exponent x +ℤ k) ]

-- the largest exponent of the numbers that are not 0
unfoldable pub common_exponent : ℕ → (ℕ → Float) → (ℕ → ℤ) → ℤ
common_exponent n m k = or_zero (loop n (λ i found. with_exponent found (m i) (k i)) none)

unfoldable pub gathered : ℕ → (ℕ → Float) → (ℕ → ℤ) → ℤ → List Float
gathered n m k e = tab n (λ i. pow2_scaled (m i) (k i -ℤ e))

-- ---- xᵀC⁻¹y

unfoldable pub project : ℕ → Decomposition → (ℕ → Float) → List Float
project n d x = tab n (λ e. sum_to n (λ i. at d.vectors n i e ⊗ x i))

unfoldable pub form : ℕ → Decomposition → List Float → List Float → Float
form n d x y = sum_to n (λ e. nth x e ⊗ nth y e ⊘ nth d.values e)

-- ---- the target and the intensity

pub record MeanShrinkage : Type 0 where
  pub intensity : Float
  pub target : Float

-- xᵀC⁻¹y / xᵀC⁻¹x
abbrev pub ratio_of : ℕ → Decomposition → List Float → List Float → Float
ratio_of n d x y = let p = project n d (nth x) in form n d p (project n d (nth y)) ⊘ form n d p p

-- zᵀC⁻¹z for z = y - a x
abbrev pub squared_distance_of : ℕ → Decomposition → List Float → List Float → Float → Float
squared_distance_of n d x y a = let q = project n d (λ i. nth y i ⊖ a ⊗ nth x i) in form n d q q

-- α, by w = T zᵀC⁻¹z
abbrev pub intensity_at : ℕ → Float → Float
intensity_at n w = (count n ⊕ two) ⊘ (count n ⊕ two ⊕ w)

-- by the ratio, μ₀ over 2 ^ (b - a), and the squared distance over 4 ^ b
abbrev pub shrinkage_by : ℕ → Float → Float → Float → ℤ → ℤ → MeanShrinkage
shrinkage_by n T ratio squared a b =
    let weighted = T ⊗ pow2_scaled (max0 squared) (b +ℤ b) in
    record { intensity = intensity_at n weighted; target = pow2_scaled ratio (b -ℤ a) }

-- α and μ₀; μ and Σ are the moments in the units 2 ^ eᵢ
unfoldable pub bayes_stein_shrinkage : ℕ → Float → (ℕ → Float) → Matrix → (ℕ → ℤ) → Decomposition → MeanShrinkage
bayes_stein_shrinkage n T μ Σ e d =
    let v = volatility Σ in
    let inverses : ℕ → Float = λ i. one ⊘ v i in
    let meansOver : ℕ → Float = λ i. μ i ⊘ v i in
    let down : ℕ → ℤ = λ i. neg_ℤ (e i) in
    let level : ℕ → ℤ = λ i. pos 0 in
    let a = common_exponent n inverses down in
    let b = common_exponent n meansOver level in
    let ones = gathered n inverses down a in
    let means = gathered n meansOver level b in
    let ratio = ratio_of n d ones means in
    shrinkage_by n T ratio (squared_distance_of n d ones means ratio) a b

-- (1 - α) μ + α μ₀, with μ in the unit 2 ^ e
unfoldable pub shrunk_mean : MeanShrinkage → Float → ℤ → Float
shrunk_mean w μ e = pow2_scaled ((one ⊖ w.intensity) ⊗ μ) e ⊕ w.intensity ⊗ w.target

-- ---- from the returns x: each asset's over a power of two near its largest

-- exponent i of a list, 0 past its end
abbrev pub exponent_at : List ℤ → ℕ → ℤ
exponent_at es i = get_or es i (pos 0)

-- the powers' exponents
abbrev pub exponents_of : ℕ → ℕ → Matrix → ℕ → ℤ
exponents_of T n x = exponent_at (tab n (λ i. binary_exponent (largest T x i)))

-- the largest returns in the units 2 ^ eᵢ
abbrev pub largest_in : (ℕ → ℤ) → ℕ → Matrix → ℕ → Float
largest_in e T x i = pow2_scaled (largest T x i) (neg_ℤ (e i))

-- C, stored
abbrev pub correlations : ℕ → Moments → Matrix
correlations n m = at (rows n n (correlation (at m.covariance n))) n

-- the moments are in the units 2 ^ eᵢ
abbrev pub bayes_stein : ℕ → ℕ → Moments → (ℕ → ℤ) → Shrinking
bayes_stein n limit m e =
    let μ = nth m.mean in
    let d = decompose limit n (correlations n m) in
    let w = bayes_stein_shrinkage n m.periods μ (at m.covariance n) e d in
    record { decomposition = d; intensity = w.intensity; target = w.target; mean = λ i. shrunk_mean w (μ i) (e i) }
