-- The Bayes-Stein mean: the call. Moments, correlations and decomposition are the same in both runs, so the checks are; `MeanShrinkage` has what is answered where they pass. Assumes nothing.
use mathlib.Core.Path.{◌≡◌, refl, ap, ◌∙◌, subst}
use Prim.Native.Nat.{ℕ, ◌≤◌, ◌<◌}
use mathlib.Core.List.{List, map}
use lib.Dec.{ltb, lit≤}
use lib.IntN.{pos}
use lib.ListN.{length, length-map}
use lib.Ieee.{Float, binary64}
use lib.Ieee.Fits.{add-fits}
use borrow.Author.Tests.{ltb-false}
use Rattle.leaves.specs.Shift.{shift}
use Rattle.leaves.proofs.First.{first_all}
use Rattle.leaves.proofs.Whole.{pos_part}
use Rattle.matrix.specs.Limits.{max_sweeps}
use Rattle.matrix.specs.Matrix.{at, all_finite}
use Rattle.rules.specs.Refusals.{Check}
use Rattle.rules.specs.Sample.{constant_asset, volatility, is_constant}
use Rattle.rules.specs.Moments.{Moments}
use Rattle.rules.specs.BayesStein.{singular, shrunk_mean, exponents_of, correlations, bayes_stein}
use Rattle.rules.specs.Shrinking.{Shrinking}
use Rattle.rules.specs.Order.{bad_sweep_limit, bayes_stein_order}
use Rattle.rules.specs.Calls.{bayes_stein_mean}
use Rattle.rules.specs.declared.Field.TheVariants.{SweepLimitField}
use Rattle.rules.specs.declared.Refusal.TheVariants.{BadSetting, ZeroVariance, Singular}
use Rattle.rules.proofs.Passed.{pass_test}
use Rattle.law.specs.Law.{All, Sized, AtLeast, Alike, ask, max_power, return_range, mean_range, parts, Large}
use Rattle.law.specs.Law as Law
use Rattle.law.proofs.Ranges.{return_bounds, exponent_above}
use Rattle.law.proofs.Chain.{Chain, ends, chain_same, chain_test, chain_must, chain_some, chained, settled}
use Rattle.law.proofs.SteinAnswers.{large, Copied, shrunk_alike, shrunk_into}
use Rattle.law.proofs.Opening.{Shape, returns, opening_chain, column}
use Rattle.law.proofs.Columns.{column_constant_same, exponent_at_lem, column_moments, column_moments_same, size_of, decomposed_correlations, Σ}
use Rattle.law.proofs.MeanShrinkage.{Passed, target_fits, target_moved, intensity_same, means_moved}

-- ---- the call
module _ (k : ℕ) (small : k ≤ max_power) (r : List Float) (sizes : All (Sized return_range) r) (sizes' : All (Sized return_range) (map (shift (pos k)) r)) (n P limit : ℕ) where
  abbrev w : List Float → Shrinking
  w r = bayes_stein n limit (column_moments P n (at r n)) (exponents_of P n (at r n))

  abbrev order : List Float → List Float → List Check
  order r slice = let m = column_moments P n (at r n) in bayes_stein_order r n P limit slice (size_of P n (at r n)) (Σ n m) (correlations n m) (decomposed_correlations limit n m)

  pub bayes_stein_law : (slice slice' : List Float) → length slice' ≡ length slice → Large (parts n (ask r n P (Law.bayes_stein limit) slice)) → Large (parts n (ask (map (shift (pos k)) r) n P (Law.bayes_stein limit) slice'))
      → Alike (pos k) (parts n (ask r n P (Law.bayes_stein limit) slice)) (parts n (ask (map (shift (pos k)) r) n P (Law.bayes_stein limit) slice'))
  unfolding bayes_stein_mean
  bayes_stein_law slice slice' e large₁ large₂ =
      let r' = map (shift (pos k)) r in
      settled (chained chain) (pos k) n slice slice' (shrunk_into n (w r) slice) (shrunk_into n (w r') slice') (λ p p' q.
      let a = large n (w r) slice p large₁ in
      shrunk_alike slice slice' (copied q.0 q.1 a.0 a.1 (large n (w r') slice' p' large₂).1))
    where
      chain : Chain (Shape r n P × Passed limit n (column_moments P n (at r n)) (size_of P n (at r n))) (order r slice) (order (map (shift (pos k)) r) slice')
      chain = unfold bayes_stein_order in
          opening_chain k small r sizes n P n slice slice' e (λ s opens.
          let R = returns k small r sizes n P s in
          let m = column_moments P n (at r n) in
          let same = column_moments_same small R in
          chain_same (bad_sweep_limit limit) refl (λ e₁.
          chain_some (constant_asset n (Σ n m) (size_of P n (at r n))) ZeroVariance (ap (λ (m : Moments). constant_asset n (Σ n m) (size_of P n (at (map (shift (pos k)) r) n))) same ∙ column_constant_same small R m) (λ e₂.
          chain_must (all_finite n n (correlations n m)) Singular (ap (λ (m : Moments). all_finite n n (correlations n m)) same) (λ e₃.
          chain_must (decomposed_correlations limit n m).found Singular (ap (λ (m : Moments). (decomposed_correlations limit n m).found) same) (λ e₄.
          chain_test (singular n (decomposed_correlations limit n m)) Singular (ap (λ (m : Moments). singular n (decomposed_correlations limit n m)) same) (λ e₅. ends (
            s,
            record {
              limited = unfold bad_sweep_limit in ltb-false max_sweeps limit (pass_test (ltb max_sweeps limit) (BadSetting SweepLimitField) e₁);
              above = unfold constant_asset in first_all (λ i. is_constant (volatility (Σ n m) i) (size_of P n (at r n) i)) n e₂;
              regular = e₅;
            },
          )))))))

      copied : (s : Shape r n P) → Passed limit n (column_moments P n (at r n)) (size_of P n (at r n)) → AtLeast mean_range (w r).intensity → AtLeast mean_range (w r).target → AtLeast mean_range (w (map (shift (pos k)) r)).target → Copied k n (w r) (w (map (shift (pos k)) r))
      copied s q a b c =
          let r' = map (shift (pos k)) r in
          let R = returns k small r sizes n P s in
          let v : Moments → Shrinking = λ m. bayes_stein n limit m (exponents_of P n (at r' n)) in
          let same = column_moments_same small R in
          let s' : Shape r' n P = (s.0, s.1, s.2, s.3, length-map r (shift (pos k)) ∙ s.4) in
          let tops : (i : ℕ) → i < n → pos_part (exponents_of P n (at r' n) i) ≤ exponent_above return_bounds = λ i l. rw (exponent_at_lem P n (at r' n) i l) (column (lit≤ {m = 0} tt) (returns 0 (lit≤ tt) r' sizes' n P s') i l).small.0 in
          let c' = subst (λ (m : Moments). AtLeast mean_range (v m).target) same c in
          record {
            intensity = ap (λ (m : Moments). (v m).intensity) same ∙ intensity_same small R tops limit q;
            target = (target_fits small R tops limit q, ap (λ (m : Moments). (v m).target) same ∙ target_moved small R tops limit q b c');
            decomposition = ap (λ (m : Moments). (v m).decomposition) same;
            means = λ i l. (unfold shrunk_mean in add-fits binary64 _ _, ap (λ (m : Moments). (v m).mean i) same ∙ means_moved small R tops limit q a b c' i l);
          }
