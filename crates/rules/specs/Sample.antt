-- Document 01, "Estimators": the sample mean and covariance of `Returns::new` and the rule for a constant asset (returns.rs), volatilities and correlations (methods/mod.rs, `correlation`), and returns over powers of
-- two. Definitions only.
-- x t i is the return of asset i in period t; there are T periods.
use Rattle.std.specs.Prelude.{ℕ, ◌-◌, Bool, ℤ, neg_ℤ, Float}
use Rattle.std.proofs.Math.Option.{Option}
use Rattle.std.specs.Float.Ieee.{le}
use Rattle.leaves.specs.Numbers.{◌⊖◌, ◌⊗◌, ◌⊘◌, count, 1e-10}
use Rattle.leaves.specs.Loops.{mean_to, amax_to, first_to}
use Rattle.leaves.specs.Scaling.{pow2_scaled}
use Rattle.leaves.specs.Root.{sqrt}
use Rattle.matrix.specs.Matrix.{Matrix, product, transpose}

unfoldable pub mean : ℕ → Matrix → ℕ → Float
mean T x i = mean_to T (λ t. x t i)

unfoldable pub deviation : ℕ → Matrix → Matrix
deviation T x t i = x t i ⊖ mean T x i

-- XᵀX: column i times column j
unfoldable pub gram : ℕ → Matrix → Matrix
gram T x = product T (transpose x) x

-- second moments, over the degrees of freedom d
abbrev pub second_moment : ℕ → ℕ → Matrix → Matrix
second_moment d T x i j = gram T x i j ⊘ count d

-- the mean takes a degree of freedom
unfoldable pub covariance : ℕ → Matrix → Matrix
covariance T x = second_moment (T - 1) T (deviation T x)

-- the volatility of asset i under the covariance s, and the correlation of two assets, by the volatilities v (methods/mod.rs, `correlation`)
abbrev pub volatility : Matrix → ℕ → Float
volatility s i = sqrt (s i i)

abbrev pub correlation_by : (ℕ → Float) → Matrix → Matrix
correlation_by v s i j = s i j ⊘ v i ⊘ v j

abbrev pub correlation : Matrix → Matrix
correlation s = correlation_by (volatility s) s

-- asset i's largest return in size
unfoldable pub largest : ℕ → Matrix → ℕ → Float
largest T x i = amax_to T (λ t. x t i)

-- a volatility of at most 1e-10 of the largest return, and the first asset that has one
abbrev pub is_constant : Float → Float → Bool
is_constant v largest = le v (1e-10 ⊗ largest)

unfoldable pub constant_asset : ℕ → Matrix → (ℕ → Float) → Option ℕ
constant_asset n s largest = first_to n (λ i. is_constant (volatility s i) (largest i))

-- each asset's returns over a power of two of its own
unfoldable pub scaled : (ℕ → ℤ) → Matrix → Matrix
scaled e x t i = pow2_scaled (x t i) (neg_ℤ (e i))
