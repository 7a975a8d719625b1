-- The same returns, in T periods of n assets, have the same Gram matrix, means, largest returns, covariance and moments. Assumes nothing.
use mathlib.Core.Path.{◌≡◌, ap}
use Prim.Native.Nat.{ℕ, ◌-◌, ◌<◌}
use lib.Ieee.{Float}
use Rattle.leaves.specs.Numbers.{◌⊖◌, ◌⊘◌, count}
use Rattle.leaves.specs.Loops.{tab}
use Rattle.leaves.proofs.Loops.{tab_ext, sum_ext, amax_ext}
use Rattle.matrix.specs.Matrix.{Matrix, rows, transpose}
use Rattle.matrix.proofs.Stored.{rows_ext}
use Rattle.matrix.proofs.Alike.{product_ext}
use Rattle.rules.specs.Sample.{mean, deviation, gram, covariance, largest}
use Rattle.rules.specs.Moments.{moments_of, moments}

pub gram_ext : (T n : ℕ) (y z : Matrix) → ((t i : ℕ) → t < T → i < n → y t i ≡ z t i) → (i j : ℕ) → i < n → j < n → gram T y i j ≡ gram T z i j
unfolding gram
gram_ext T n y z alike i j hi hj = product_ext T (transpose y) (transpose z) y z i j (λ t ht. alike t i ht hi) (λ t ht. alike t j ht hj)

module _ (n T : ℕ) (x y : Matrix) (same : (t i : ℕ) → t < T → i < n → x t i ≡ y t i) where
  mean_same : (i : ℕ) → i < n → mean T x i ≡ mean T y i
  unfolding mean
  mean_same i h = ap (λ (s : Float). s ⊘ count T) (sum_ext T (λ t. x t i) (λ t. y t i) (λ t l. same t i l h))

  pub means_same : tab n (mean T x) ≡ tab n (mean T y)
  means_same = tab_ext (mean T x) (mean T y) n mean_same

  pub largest_same : tab n (largest T x) ≡ tab n (largest T y)
  unfolding largest
  largest_same = tab_ext _ _ n (λ i h. amax_ext T (λ t. x t i) (λ t. y t i) (λ t l. same t i l h))

  deviation_same : (t i : ℕ) → t < T → i < n → deviation T x t i ≡ deviation T y t i
  unfolding deviation
  deviation_same t i l h k = same t i l h k ⊖ mean_same i h k

  pub covariance_same : rows n n (covariance T x) ≡ rows n n (covariance T y)
  unfolding covariance
  covariance_same = rows_ext n n _ _ (λ i j hi hj. ap (λ (s : Float). s ⊘ count (T - 1)) (gram_ext T n _ _ deviation_same i j hi hj))

  pub moments_same : moments T n x ≡ moments T n y
  unfolding moments
  moments_same = λ k. moments_of (means_same k) (covariance_same k) (count T)
