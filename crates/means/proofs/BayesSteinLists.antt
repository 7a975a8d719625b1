-- The Bayes-Stein mean by its largest returns and exponents as the lists that the code has. Assumes nothing.
use Rattle.std.proofs.Common.{◌≡◌, ℕ, ◌<◌, not, List, ◌∷◌, ℤ, pos, neg_ℤ, ap, ◌∙◌}
use mathlib.Core.Option.{Option}
use lib.IntN.{+ℤ_idr}
use lib.Ieee.{Float}
use Rattle.std.specs.Prelude.{Ok}
use Rattle.leaves.specs.Loops.{tab, nth}
use Rattle.leaves.specs.Scaling.{binary_exponent, pow2_scaled}
use Rattle.leaves.proofs.Loops.{tab_ext}
use Rattle.leaves.proofs.Lists.{nth_stored}
use Rattle.matrix.specs.Matrix.{Matrix, at, all_finite}
use Rattle.rules.specs.Refusals.{when, when_some, first}
use Rattle.rules.specs.Sample.{largest, scaled}
use Rattle.rules.specs.Moments.{Moments, moments}
use Rattle.rules.specs.Shrinking.{shrunk_by}
use Rattle.rules.specs.BayesStein.{gathered, largest_in, correlations, bayes_stein, exponent_at}
use Rattle.rules.specs.Order.{by_decomposition}
use Rattle.rules.specs.Calls.{answered, settle}
use Rattle.rules.specs.declared.Refusal.TheVariants.{ZeroVariance, Singular}
use Rattle.rules.proofs.Constant.{constant_sizes}
use Rattle.means.specs.Stein.{bayes_stein_of, bayes_stein_from}

-- the sizes that are stored
sizes_stored : (n limit : ℕ) (m : Moments) (e : ℕ → ℤ) (f : ℕ → Float) (sizes slice : List Float) → sizes ≡ tab n f → bayes_stein_of n limit m e (nth sizes) slice ≡ bayes_stein_of n limit m e f slice
sizes_stored n limit m e f sizes slice is-sizes =
    let w = bayes_stein n limit m e in
    ap
    (λ (o : Option ℕ). settle (first (when_some o ZeroVariance ∷ when (not (all_finite n n (correlations n m))) Singular ∷ by_decomposition n w.decomposition)) slice
    (answered (Ok (shrunk_by w)) (tab n w.mean)))
    (constant_sizes n (at m.covariance n) f sizes is-sizes)

-- from the largest returns, their exponents, the moments over those and the largest returns over them
module _ (n T limit : ℕ) (x : Matrix) (slice sizes over : List Float) (es : List ℤ) (is-sizes : sizes ≡ tab n (largest T x)) (is-es : es ≡ tab n (λ i. binary_exponent (nth sizes i))) where
  abbrev unit : ℕ → ℤ
  unit = exponent_at es

  at_size : (i : ℕ) → i < n → nth sizes i ≡ largest T x i
  at_size = nth_stored n (largest T x) is-sizes

  exponents : es ≡ tab n (λ i. binary_exponent (largest T x i))
  exponents = is-es ∙ tab_ext (λ i. binary_exponent (nth sizes i)) (λ i. binary_exponent (largest T x i)) n (λ i b. ap binary_exponent (at_size i b))

  largest_over : over ≡ gathered n (nth sizes) (λ i. neg_ℤ (unit i)) (pos 0) → over ≡ tab n (largest_in unit T x)
  unfolding gathered
  largest_over is-over = is-over ∙ tab_ext _ (largest_in unit T x) n (λ i b t. pow2_scaled (at_size i b t) (+ℤ_idr (neg_ℤ (unit i)) t))

  pub bayes_stein_lists : (m : Moments) → m ≡ moments T n (scaled unit x) → over ≡ gathered n (nth sizes) (λ i. neg_ℤ (unit i)) (pos 0) → bayes_stein_of n limit m unit (nth over) slice ≡ bayes_stein_from n T limit x slice
  bayes_stein_lists m is_m is-over =
      ap (λ (m : Moments). bayes_stein_of n limit m unit (nth over) slice) is_m
      ∙ sizes_stored n limit (moments T n (scaled unit x)) unit (largest_in unit T x) over slice (largest_over is-over)
      ∙ ap (λ (l : List ℤ). let e : ℕ → ℤ = exponent_at l in bayes_stein_of n limit (moments T n (scaled e x)) e (largest_in e T x) slice) exponents
