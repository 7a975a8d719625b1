-- The intensity of Ledoit and Wolf, from the centered returns that the code forms over two factors of a power of two: δ looks at T periods of n
-- assets alone, and there they are the definition's. Assumes nothing.
use Rattle.std.proofs.Common.{◌≡◌, ℕ, ◌<◌, List, [], length, ℤ, neg_ℤ, sym, ap, ◌∙◌}
use lib.Ieee.{Float, binary64}
use lib.Ieee.Fits.{sub-fits}
use Rattle.leaves.specs.Numbers.{◌⊖◌, ◌⊗◌, ◌⊘◌, count, zero⁺}
use Rattle.leaves.specs.Loops.{amax_to, tab, nth}
use Rattle.leaves.specs.Scaling.{binary_exponent, pow2_scaled}
use Rattle.leaves.proofs.Loops.{sum_ext, amax_ext}
use Rattle.leaves.proofs.Lists.{nth_stored, tab_long}
use Rattle.matrix.specs.Matrix.{Matrix, at, rows, amax, trace, total, sum_over, every}
use Rattle.matrix.specs.Inner.{Symmetric}
use Rattle.matrix.proofs.Stored.{rows_at, rows_ext}
use Rattle.matrix.proofs.OfStored.{at_stored}
use Rattle.matrix.proofs.SumOver.{sum_over_ext}
use Rattle.matrix.proofs.Largest.{amax_columns}
use Rattle.rules.specs.Sample.{mean, deviation, scaled, volatility, second_moment}
use Rattle.rules.specs.LedoitWolf.{apart, average_correlation, variation, covariation, target_covariation, error, squared_distance, intensity_by, intensity_of, ledoit_wolf, second_moments, intensity_from, cross_covariation, distance²}
use Rattle.rules.specs.declared.Target.{Target}
use Rattle.rules.specs.declared.Target.TheVariants.{ConstantVariance, ConstantCorrelation}
use Rattle.rules.proofs.GramSymmetric.{gram_symmetric}
use Rattle.rules.proofs.SameReturns.{gram_ext}
use Rattle.tables.specs.Rows.{in_unit, formed, rows_of}
use Rattle.tables.specs.Powers.{Factored}
use Rattle.tables.specs.declared.rows.Row.TheVariants.{Deviation, Scaled}
use Rattle.tables.proofs.Formed.{row_bare}

-- ---- of numbers that are alike in T periods of n assets

module _ (T n : ℕ) (z z' : Matrix) (alike : (t i : ℕ) → t < T → i < n → z t i ≡ z' t i) where
  second_moments_ext : second_moments T n z ≡ second_moments T n z'
  second_moments_ext = rows_ext n n _ _ (λ i j hi hj. ap (λ (g : Float). g ⊘ count T) (gram_ext T n z z' alike i j hi hj))

  module _ (s : Matrix) where
    variation_ext : (i j : ℕ) → i < n → j < n → variation T z s i j ≡ variation T z' s i j
    unfolding variation
    variation_ext i j hi hj =
        ap (λ (g : Float). g ⊘ count T) (sum_ext T _ _ (λ t ht k. distance² (alike t i ht hi k ⊗ alike t j ht hj k) (s i j)))

    covariation_ext : (i j : ℕ) → i < n → j < n → covariation T z s i j ≡ covariation T z' s i j
    unfolding covariation
    covariation_ext i j hi hj =
        ap (λ (g : Float). g ⊘ count T) (sum_ext T _ _ (λ t ht k. (alike t i ht hi k ⊗ alike t i ht hi k ⊖ s i i) ⊗ alike t i ht hi k ⊗ alike t j ht hj k))

    total_ext : total n (variation T z s) ≡ total n (variation T z' s)
    unfolding total
    total_ext = sum_over_ext n every _ _ zero⁺ variation_ext

    target_ext : target_covariation T n z s ≡ target_covariation T n z' s
    unfolding target_covariation trace
    target_ext =
        ap (sum_over n apart (cross_covariation (average_correlation n s) (volatility s) (covariation T z s))) (sum_ext n _ _ (λ i h. variation_ext i i h h))
        ∙ sum_over_ext n apart _ _ _ (λ i j hi hj k. average_correlation n s ⊗ volatility s j ⊘ volatility s i ⊗ covariation_ext i j hi hj k)

    error_ext : (F : Target) → error F T n z s ≡ error F T n z' s
    unfolding error
    error_ext ConstantVariance = total_ext
    error_ext ConstantCorrelation = λ k. total_ext k ⊖ target_ext k

    intensity_ext : (F : Target) → intensity_of F T n z s ≡ intensity_of F T n z' s
    unfolding intensity_of
    intensity_ext F = ap (λ (e : Float). intensity_by e T (squared_distance F n s)) (error_ext F)

-- ---- δ, from any such numbers
pub from_centered : (F : Target) (T n : ℕ) (x z : Matrix) (e : ℤ) {d : Float} → e ≡ binary_exponent (amax T n (deviation T x)) → ((t i : ℕ) → t < T → i < n → z t i ≡ pow2_scaled (deviation T x t i) (neg_ℤ e))
    → d ≡ intensity_from F T n z → d ≡ ledoit_wolf F T n x
unfolding ledoit_wolf
from_centered F T n x z e ee ez ed =
    let y : ℤ → Matrix = λ e. at (rows T n (scaled (λ i. e) (deviation T x))) n in
    let alike : (t i : ℕ) → t < T → i < n → z t i ≡ y e t i = λ t i ht hi. ez t i ht hi ∙ unfold scaled in sym (rows_at (scaled (λ i. e) (deviation T x)) T n t i ht hi) in
    ed ∙ intensity_ext T n z (y e) alike (at (second_moments T n z) n) F ∙ ap (λ (s : List Float). intensity_of F T n (y e) (at s n)) (second_moments_ext T n z (y e) alike)
    ∙ ap (λ (e : ℤ). intensity_from F T n (y e)) ee

pub second_moments_symmetric : (T n : ℕ) (z : Matrix) {s : List Float} → s ≡ second_moments T n z → Symmetric n s
second_moments_symmetric T n z e i j hi hj =
    at_stored n (second_moment T T z) e i j hi hj ∙ ap (λ (g : Float). g ⊘ count T) (gram_symmetric T z i j)
    ∙ sym (at_stored n (second_moment T T z) e j i hj hi)

-- ---- the numbers that the code forms

module _ (T n : ℕ) (x : Matrix) {centers : List Float} (ec : centers ≡ tab n (mean T x)) where
  -- a return less its column's mean
  deviation_formed : (t i : ℕ) → i < n → rows_of Deviation n [] centers [] x t i ≡ deviation T x t i
  unfolding formed deviation
  deviation_formed t i h = row_bare Deviation n centers [] x t i h ∙ ap (λ (c : Float). x t i ⊖ c) (nth_stored n (mean T x) ec i h)

  pub scaled_formed : (near far : Float) (k : ℤ) → Factored near far k → (t i : ℕ) → i < n → rows_of (Scaled near far) n [] centers [] x t i ≡ pow2_scaled (deviation T x t i) k
  unfolding rows_of formed
  scaled_formed near far k f t i h = f (in_unit n [] i (x t i) ⊖ nth centers i) ∙ ap (λ (y : Float). pow2_scaled y k) (deviation_formed t i h)

  -- the largest of the columns' largest
  pub largest_is : {sizes : List Float} {m : Float} → sizes ≡ tab n (λ i. amax_to T (λ t. rows_of Deviation n [] centers [] x t i)) → m ≡ amax_to (length sizes) (nth sizes) → m ≡ amax T n (deviation T x)
  largest_is {sizes} es em =
      em ∙ ap (λ (k : ℕ). amax_to k (nth sizes)) (tab_long n _ sizes es)
      ∙ amax_ext n (nth sizes) (λ i. amax_to T (λ t. deviation T x t i))
      (λ i h. nth_stored n _ es i h ∙ amax_ext T _ _ (λ t ht. deviation_formed t i h))
      ∙ sym (amax_columns T n (deviation T x) (λ t i. unfold deviation in sub-fits binary64 (x t i) (mean T x i)))
