-- Weighted means, summed up in units of a power of two for each column and put back. Assumes nothing.
use Rattle.std.proofs.Common.{◌≡◌, ℕ, ◌+◌, ◌<◌, List, length, ℤ, pos, neg_ℤ, ap, ◌∙◌, arith}
use lib.Ieee.{Float}
use Rattle.leaves.specs.Numbers.{◌⊗◌, ◌⊘◌}
use Rattle.leaves.specs.Loops.{sum_to, tab, nth}
use Rattle.leaves.specs.Scaling.{binary_exponent, pow2_scaled}
use Rattle.leaves.proofs.Loops.{sum_ext, tab_ext}
use Rattle.leaves.proofs.Lists.{get_or_stored, nth_stored, tab_then}
use Rattle.matrix.specs.Matrix.{Matrix}
use Rattle.rules.specs.BayesStein.{exponent_at}
use Rattle.rules.specs.Sample.{largest, scaled}
use Rattle.rules.specs.Weighted.{scaled_mean, weighted_mean}
use Rattle.tables.specs.Rows.{formed, rows_of}
use Rattle.tables.specs.Powers.{Units}
use Rattle.tables.specs.declared.rows.Row.TheVariants as Row
use Rattle.tables.proofs.Formed.{unit_scaled}

module _ (T n : ℕ) (x : Matrix) (es : List ℤ) (w : List Float) where
  -- the sums in the units that are stored, over the weights' sum
  pub mean_sums : (m p : ℕ) (units centers : List Float) {out : List Float} {s : Float} → m ≡ n → p ≡ T → length units ≡ n + n → Units n es units → out ≡ tab n (λ i. sum_to T (λ t. rows_of Row.Weighted n units centers w x t i))
      → s ≡ sum_to p (nth w) → tab m (λ k. nth out k ⊘ s) ≡ tab n (λ i. scaled_mean T w x i (exponent_at es i))
  unfolding rows_of formed scaled
  mean_sums m p units centers {out} {s} em ep lu u e es' =
      tab_then out n (λ i. sum_to T (λ t. rows_of Row.Weighted n units centers w x t i)) (λ k v. v ⊘ s) em e
      ∙ tab_ext _ (λ i. scaled_mean T w x i (exponent_at es i)) n (λ i hi k. sums i hi k ⊘ (es' ∙ ap (λ (p : ℕ). sum_to p (nth w)) ep) k)
    where
      sums : (i : ℕ) → i < n → sum_to T (λ t. rows_of Row.Weighted n units centers w x t i) ≡ sum_to T (λ t. nth w t ⊗ pow2_scaled (x t i) (neg_ℤ (exponent_at es i)))
      sums i hi = sum_ext T _ _ (λ t ht k. nth w t ⊗ unit_scaled n es units x lu u t i hi k)

  -- each put back, where es holds the powers near the largest returns
  pub mean_back : (m p : ℕ) {sizes out : List Float} → m ≡ n → p ≡ n → sizes ≡ tab n (largest T x) → es ≡ tab m (λ k. binary_exponent (nth sizes k)) → out ≡ tab n (λ i. scaled_mean T w x i (exponent_at es i))
      → tab p (λ k. pow2_scaled (nth out k) (exponent_at es k)) ≡ tab n (weighted_mean T w x)
  unfolding weighted_mean
  mean_back m p {sizes} {out} em ep et ee e =
      tab_then out n (λ i. scaled_mean T w x i (exponent_at es i)) (λ k v. pow2_scaled v (exponent_at es k)) ep e
      ∙ tab_ext _ (λ i. pow2_scaled (scaled_mean T w x i (binary_exponent (largest T x i))) (binary_exponent (largest T x i))) n
      (λ i hi. ap (λ (e : ℤ). pow2_scaled (scaled_mean T w x i e) e) (power i hi))
    where
      power : (i : ℕ) → i < n → exponent_at es i ≡ binary_exponent (largest T x i)
      power i hi =
          get_or_stored m (λ k. binary_exponent (nth sizes k)) (pos 0) ee i (omega arith) ∙ ap binary_exponent (nth_stored n (largest T x) et i hi)
