-- The three means where shapes and lengths pass and the answer slice has n numbers: by the checks of the returns and of the decay or the sweep
-- limit, and then by the means or the moments. Assumes nothing.
use mathlib.Core.Path.{◌≡◌, refl, ap, ◌∙◌}
use mathlib.Core.List.{List, [], ◌∷◌, ◌++◌}
use Prim.Native.Nat.{ℕ}
use lib.IntN.{ℤ}
use lib.ListN.{length}
use lib.Ieee.{Float}
use Rattle.std.specs.Prelude.{Result, Ok}
use Rattle.std.specs.Result.{IsErrAnd}
use Rattle.leaves.specs.Loops.{tab}
use Rattle.leaves.specs.Scaling.{binary_exponent}
use Rattle.matrix.specs.Matrix.{at, amax}
use Rattle.rules.specs.Refusals.{Check, passes, refuses, first}
use Rattle.rules.specs.Sample.{scaled}
use Rattle.rules.specs.Weighted.{log_decay, weights, weighted_mean}
use Rattle.rules.specs.Moments.{Moments, moments}
use Rattle.rules.specs.Shrinking.{Shrinking, shrunk_by}
use Rattle.rules.specs.JamesStein.{james_stein}
use Rattle.rules.specs.BayesStein.{exponents_of, largest_in, correlations, bayes_stein}
use Rattle.rules.specs.Order.{bad_sweep_limit, bad_decay, weighted_order, james_stein_order, bayes_stein_order, by_returns, not_found, of_correlations}
use Rattle.rules.specs.Shapes.{Shaped}
use Rattle.rules.specs.Calls.{answered, settle, exponentially_weighted_mean, james_stein_mean, bayes_stein_mean}
use Rattle.rules.specs.declared.Decay.{Decay}
use Rattle.rules.specs.declared.Refusal.{Refusal}
use Rattle.rules.specs.declared.Answer.{Answer}
use Rattle.rules.specs.declared.Answer.TheVariants.{Mean}
use Rattle.rules.proofs.Firsts.{first_alone, head_refuses, front_refuses, front_passes}
use Rattle.rules.proofs.Opened.{settle_accepted, shaped}
use Rattle.means.specs.Stein.{james_stein_of, bayes_stein_from}
use Rattle.estimators.proofs.Refusing.{by_its_checks}

module _ (r : List Float) (n T : ℕ) (slice : List Float) (shape : Shaped (length r) n T) (long : length slice ≡ n) where
  abbrev earlier : List Check
  earlier = by_returns T n (at r n)

  -- ---- exponentially weighted

  module _ (d : Decay Float) where
    abbrev restₑ : List Check
    restₑ = bad_decay d ∷ []

    abbrev numbers : Float → ℕ → Float
    numbers l = weighted_mean T (weights T l) (at r n)

    module _ (q : Result Answer Refusal) {c : Refusal} (is_c : IsErrAnd q (λ e. e ≡ c)) where
      pub weighted_refused : refuses c ≡ first earlier → answered q slice ≡ exponentially_weighted_mean r n T d slice
      unfolding exponentially_weighted_mean weighted_order
      weighted_refused e = by_its_checks r n T n slice restₑ (Ok Mean) (numbers (log_decay d)) q is_c shape long (front_refuses earlier restₑ e)

      pub decay_refused : passes ≡ first earlier → refuses c ≡ bad_decay d → answered q slice ≡ exponentially_weighted_mean r n T d slice
      unfolding exponentially_weighted_mean weighted_order
      decay_refused pass e = by_its_checks r n T n slice restₑ (Ok Mean) (numbers (log_decay d)) q is_c shape long (head_refuses [] e ∙ front_passes earlier restₑ pass)

    pub weighted_accepted : passes ≡ first earlier → passes ≡ bad_decay d → {l : Float} {out : List Float} → l ≡ log_decay d → out ≡ tab n (weighted_mean T (weights T l) (at r n)) → answered (Ok Mean) out ≡ exponentially_weighted_mean r n T d slice
    unfolding exponentially_weighted_mean weighted_order
    weighted_accepted pass e is-l is-out =
        ap (answered (Ok Mean)) (is-out ∙ ap (λ (l : Float). tab n (numbers l)) is-l) ∙ settle_accepted slice _ (e ∙ first_alone _ ∙ front_passes earlier restₑ pass)
        ∙ shaped r n T n slice restₑ (Ok Mean) (numbers (log_decay d)) shape long refl

  module _ (limit : ℕ) where
    -- with that of the limit
    abbrev limited : List Check
    limited = earlier ++ bad_sweep_limit limit ∷ []

    -- ---- James-Stein

    abbrev eⱼ : ℤ
    eⱼ = binary_exponent (amax T n (at r n))

    abbrev wⱼ : Shrinking
    wⱼ = james_stein n limit (moments T n (scaled (λ i. eⱼ) (at r n))) eⱼ

    abbrev restⱼ : List Check
    restⱼ = not_found wⱼ.decomposition ∷ []

    pub james_stein_refused : (q : Result Answer Refusal) {c : Refusal} → IsErrAnd q (λ e. e ≡ c) → refuses c ≡ first limited → answered q slice ≡ james_stein_mean r n T limit slice
    unfolding james_stein_mean james_stein_order
    james_stein_refused q is_c e = by_its_checks r n T n slice (bad_sweep_limit limit ∷ restⱼ) (Ok (shrunk_by wⱼ)) wⱼ.mean q is_c shape long (front_refuses limited restⱼ e)

    pub james_stein_accepted : passes ≡ first limited → (m : Moments) (e : ℤ) → m ≡ moments T n (scaled (λ i. e) (at r n)) → e ≡ eⱼ → james_stein_of n limit m e slice ≡ james_stein_mean r n T limit slice
    unfolding james_stein_mean james_stein_order
    james_stein_accepted pass m e is_m is-e =
        ap (λ (m : Moments). james_stein_of n limit m e slice) is_m
        ∙ ap (λ (e : ℤ). james_stein_of n limit (moments T n (scaled (λ i. e) (at r n))) e slice) is-e
        ∙ ap (λ (k : Check). settle k slice (answered (Ok (shrunk_by wⱼ)) (tab n wⱼ.mean))) (first_alone (not_found wⱼ.decomposition) ∙ front_passes limited restⱼ pass)
        ∙ shaped r n T n slice (bad_sweep_limit limit ∷ restⱼ) (Ok (shrunk_by wⱼ)) wⱼ.mean shape long refl

    -- ---- Bayes-Stein

    abbrev e : ℕ → ℤ
    e = exponents_of T n (at r n)

    abbrev m : Moments
    m = moments T n (scaled e (at r n))

    abbrev w : Shrinking
    w = bayes_stein n limit m e

    abbrev rest : List Check
    rest = of_correlations n (largest_in e T (at r n)) (at m.covariance n) (correlations n m) w.decomposition

    pub bayes_stein_refused : (q : Result Answer Refusal) {c : Refusal} → IsErrAnd q (λ e. e ≡ c) → refuses c ≡ first limited → answered q slice ≡ bayes_stein_mean r n T limit slice
    unfolding bayes_stein_mean bayes_stein_order
    bayes_stein_refused q is_c e = by_its_checks r n T n slice (bad_sweep_limit limit ∷ rest) (Ok (shrunk_by w)) w.mean q is_c shape long (front_refuses limited rest e)

    pub bayes_stein_accepted : passes ≡ first limited → bayes_stein_from n T limit (at r n) slice ≡ bayes_stein_mean r n T limit slice
    unfolding bayes_stein_mean bayes_stein_order
    bayes_stein_accepted pass =
        ap (λ (k : Check). settle k slice (answered (Ok (shrunk_by w)) (tab n w.mean))) (front_passes limited rest pass)
        ∙ shaped r n T n slice (bad_sweep_limit limit ∷ rest) (Ok (shrunk_by w)) w.mean shape long refl
