-- The intensity of Ledoit and Wolf, put together from the numbers that the code has. Assumes nothing.
use Rattle.std.proofs.Common.{◌≡◌, ℕ, List, ap, ◌∙◌}
use lib.Ieee.{Float}
use Rattle.leaves.specs.Numbers.{◌⊖◌, ◌⊗◌, ◌⊘◌}
use Rattle.leaves.specs.Loops.{tab, nth}
use Rattle.leaves.proofs.Lists.{nth_stored}
use Rattle.matrix.specs.Matrix.{Matrix, at, rows, trace, total, sum_over}
use Rattle.matrix.proofs.OfStored.{at_stored, total_stored, trace_stored}
use Rattle.matrix.proofs.SumOver.{sum_over_ext}
use Rattle.rules.specs.Sample.{volatility}
use Rattle.rules.specs.LedoitWolf.{apart, average_correlation, variation, covariation, target_covariation, error, squared_distance, intensity_by, intensity_of, cross_covariation}
use Rattle.rules.specs.declared.Target.{Target}
use Rattle.rules.specs.declared.Target.TheVariants.{ConstantVariance, ConstantCorrelation}

-- δ, from the error and γ
pub intensity_is : (F : Target) (T n : ℕ) (z s : Matrix) {γ e r : Float} → γ ≡ squared_distance F n s → e ≡ error F T n z s → r ≡ intensity_by e T γ → r ≡ intensity_of F T n z s
unfolding intensity_of
intensity_is F T n z s eγ ee er = er ∙ (λ t. intensity_by (ee t) T (eγ t))

module _ (T n : ℕ) (z s : Matrix) {π : List Float} (eπ : π ≡ rows n n (variation T z s)) {all : Float} (ea : all ≡ total n (at π n)) where
  pub variance_error : all ≡ error ConstantVariance T n z s
  unfolding error
  variance_error = ea ∙ total_stored n (variation T z s) eπ

  pub correlation_error : {volatilities θ : List Float} {r ρ : Float} → volatilities ≡ tab n (volatility s) → r ≡ average_correlation n s → θ ≡ rows n n (covariation T z s)
      → ρ ≡ sum_over n apart (cross_covariation r (nth volatilities) (at θ n)) (trace n (at π n)) → all ⊖ ρ ≡ error ConstantCorrelation T n z s
  unfolding error target_covariation
  correlation_error {volatilities} {θ} {r} ed er eθ eρ = λ u. variance_error u ⊖ (eρ ∙ summed) u
    where
      summed : sum_over n apart (cross_covariation r (nth volatilities) (at θ n)) (trace n (at π n)) ≡ target_covariation T n z s
      summed =
          ap (sum_over n apart (cross_covariation r (nth volatilities) (at θ n))) (trace_stored n (variation T z s) eπ)
          ∙ sum_over_ext n apart _ _ _
          (λ i j hi hj t. er t ⊗ nth_stored n (volatility s) ed j hj t ⊘ nth_stored n (volatility s) ed i hi t ⊗ at_stored n (covariation T z s) eθ i j hi hj t)
