-- An answer given at a sweep limit is the answer at every larger one up to 100, in every bit and count: document 01, "Jacobi", has a test before each sweep. The decomposition that was found is found again
-- (matrix, `larger_limit`), and nothing else of a call knows the limit. Assumes nothing.
use mathlib.Core.Path.{◌≡◌, refl, sym, ap, ap₂, ◌∙◌, subst}
use Prim.Native.Nat.{ℕ, ◌*◌, ◌≤◌}
use native.Mathlib.Nat.{le_trans}
use mathlib.Core.Bool.{Bool, true, false}
use mathlib.Core.List.{List, [], ◌∷◌, ◌++◌}
use lib.Ieee.{Float, lt, eq}
use borrow.Author.Tests.{le-ltb}
use Rattle.leaves.specs.Numbers.{zero⁺}
use Rattle.leaves.specs.Loops.{nth}
use Rattle.matrix.specs.Limits.{max_sweeps}
use Rattle.matrix.specs.Matrix.{Matrix, at, amax, divided}
use Rattle.matrix.specs.Jacobi.{Decomposition, decompose, unturned}
use Rattle.matrix.proofs.LargerLimit.{larger_limit}
use Rattle.rules.specs.Refusals.{Check, passes, when, first}
use Rattle.rules.specs.Given.{average, decompose_given}
use Rattle.rules.specs.JamesStein.{largest_deviation, decompose_unequal}
use Rattle.rules.specs.Adjusted.{decomposition_of, adjusted}
use Rattle.rules.specs.Order.{opening, bad_sweep_limit, of_given, of_settings, not_found}
use Rattle.rules.specs.Calls.{adjusted_covariance, james_stein_mean, bayes_stein_mean}
use Rattle.rules.specs.Settings.{settings}
use Rattle.rules.specs.declared.Field.TheVariants.{SweepLimitField}
use Rattle.rules.specs.declared.Estimate.{Estimate}
use Rattle.rules.specs.declared.Estimate.TheVariants.{Sample, Given, Weighted, Semi, SemiBelow}
use Rattle.rules.specs.declared.Shrinkage.{Shrinkage}
use Rattle.rules.specs.declared.Regularization.{Regularization}
use Rattle.rules.specs.declared.Settings.{Settings}
use Rattle.rules.specs.declared.Refusal.TheVariants.{BadSetting, NotDecomposed, Singular}
use Rattle.rules.specs.BayesStein.{correlations}
use Rattle.rules.proofs.Passed.{pass_cons}
use Rattle.rules.proofs.AdjustedCall.{of_answer}
use Rattle.law.specs.Law as Law
use Rattle.law.specs.Law.{Question, ask}
use Rattle.law.proofs.Columns.{column_moments, decomposed_correlations}
use Rattle.law.proofs.Chain.{pass_must}
use Rattle.law.proofs.Passing.{pass_append, Accepted, all_pass}
use Rattle.law.proofs.Calls.{covariance_by, covariance_is, in_unit, unit_grand_mean, james_decomposition, james_by, james_is, bayes_by, bayes_is}

-- ---- the check of the limit
limit_passes : (limit : ℕ) → limit ≤ max_sweeps → bad_sweep_limit limit ≡ passes
unfolding bad_sweep_limit
limit_passes limit h = ap (λ (b : Bool). when b (BadSetting SweepLimitField)) (le-ltb max_sweeps limit h)

same_limit : (limit limit' : ℕ) → limit ≤ limit' → limit' ≤ max_sweeps → bad_sweep_limit limit' ≡ bad_sweep_limit limit
same_limit limit limit' l h = limit_passes limit' h ∙ sym (limit_passes limit (le_trans l h))

-- ---- the decompositions that the calls ask for
unequal_larger : (limit limit' n : ℕ) (u : Float) (Σ : Matrix) → limit ≤ limit' → (decompose_unequal limit n u Σ).found ≡ true → decompose_unequal limit' n u Σ ≡ decompose_unequal limit n u Σ
unfolding decompose_unequal
unequal_larger limit limit' n u Σ l = go (eq u zero⁺)
  where
    chosen : Bool → Decomposition → Decomposition
    chosen b d = elim b [ true ↦ unturned n true | false ↦ d ]

    go : (b : Bool) → (chosen b (decompose limit n Σ)).found ≡ true → chosen b (decompose limit' n Σ) ≡ chosen b (decompose limit n Σ)
    go true h = refl
    go false h = larger_limit n Σ limit limit' l h

given_larger : (limit limit' n : ℕ) (a : Matrix) → limit ≤ limit' → (decompose_given limit n a).found ≡ true → decompose_given limit' n a ≡ decompose_given limit n a
unfolding decompose_given
given_larger limit limit' n a l = go (lt zero⁺ (amax n n a))
  where
    chosen : Bool → Decomposition → Decomposition
    chosen x d = elim x [ true ↦ d | false ↦ unturned n true ]

    go : (x : Bool) → (chosen x (decompose limit n (divided a (amax n n a)))).found ≡ true → chosen x (decompose limit' n (divided a (amax n n a))) ≡ chosen x (decompose limit n (divided a (amax n n a)))
    go true h = larger_limit n (divided a (amax n n a)) limit limit' l h
    go false h = refl

-- ---- the means
module _ (r : List Float) (n P : ℕ) (slice : List Float) where
  james_found : (d : Decomposition) (c : Check) → Accepted (james_by r n P slice d c) → d.found ≡ true
  james_found d c h =
      let cs : List Check = c ∷ not_found d ∷ [] in
      let q = (pass_append (opening r n P n slice) cs (all_pass (first (opening r n P n slice ++ cs)) slice _ h)).1 in
      pass_must d.found Singular (pass_cons (not_found d) [] (pass_cons c (not_found d ∷ []) q).1).0

  james_limit : (limit limit' : ℕ) → limit ≤ limit' → limit' ≤ max_sweeps → Accepted (james_stein_mean r n P limit slice) → james_stein_mean r n P limit' slice ≡ james_stein_mean r n P limit slice
  james_limit limit limit' l h a =
      let f = james_found (james_decomposition r n P limit) (bad_sweep_limit limit) (subst Accepted (james_is r n P limit slice) a) in
      let m = in_unit r n P in
      james_is r n P limit' slice ∙ ap₂ (james_by r n P slice) (unequal_larger limit limit' n (largest_deviation n (nth m.mean) (unit_grand_mean r n P)) (at m.covariance n) l f) (same_limit limit limit' l h) ∙ sym (james_is r n P limit slice)

  bayes_found : (d : Decomposition) (c : Check) → Accepted (bayes_by r n P slice d c) → d.found ≡ true
  bayes_found d c h =
      let q = (pass_append (opening r n P n slice) _ (all_pass (first (opening r n P n slice ++ _)) slice _ h)).1 in
      let q₁ = pass_cons _ _ q in
      let q₂ = pass_cons _ _ q₁.1 in
      let q₃ = pass_cons _ _ q₂.1 in
      pass_must d.found Singular (pass_cons _ _ q₃.1).0

  bayes_limit : (limit limit' : ℕ) → limit ≤ limit' → limit' ≤ max_sweeps → Accepted (bayes_stein_mean r n P limit slice) → bayes_stein_mean r n P limit' slice ≡ bayes_stein_mean r n P limit slice
  bayes_limit limit limit' l h a =
      let m = column_moments P n (at r n) in
      let f = bayes_found (decomposed_correlations limit n m) (bad_sweep_limit limit) (subst Accepted (bayes_is r n P limit slice) a) in
      bayes_is r n P limit' slice ∙ ap₂ (bayes_by r n P slice) (larger_limit n (correlations n m) limit limit' l f) (same_limit limit limit' l h) ∙ sym (bayes_is r n P limit slice)

-- ---- the adjusted covariance
abbrev pub limited : Settings → ℕ → Settings
limited s limit = settings s.estimate s.shrinkage s.regularization limit

module _ (S : Shrinkage Float) (H : Regularization Float) (given : List Float) (side : ℕ) where
  given_checks : (E : Estimate Float) (limit limit' : ℕ) → bad_sweep_limit limit' ≡ bad_sweep_limit limit → decomposition_of (settings E S H limit') given side ≡ decomposition_of (settings E S H limit) given side
      → of_given (settings E S H limit') given side ≡ of_given (settings E S H limit) given side
  unfolding of_given
  given_checks Sample limit limit' e p = refl
  given_checks Given limit limit' e p = rw (e, p)
  given_checks (Weighted decay) limit limit' e p = refl
  given_checks Semi limit limit' e p = refl
  given_checks (SemiBelow threshold) limit limit' e p = refl

  given_same : (E : Estimate Float) (limit limit' : ℕ) → limit ≤ limit' → first (of_given (settings E S H limit) given side) ≡ passes
      → decomposition_of (settings E S H limit') given side ≡ decomposition_of (settings E S H limit) given side
  unfolding of_given decomposition_of
  given_same Sample limit limit' l h = refl
  given_same Given limit limit' l h =
      let h₁ = pass_cons _ _ h in
      let h₂ = pass_cons _ _ h₁.1 in
      let h₃ = pass_cons _ _ h₂.1 in
      let h₄ = pass_cons _ _ h₃.1 in
      let h₅ = pass_cons _ _ h₄.1 in
      let h₆ = pass_cons _ _ h₅.1 in
      given_larger limit limit' side (average given side) l (pass_must (decompose_given limit side (average given side)).found NotDecomposed (pass_cons _ _ h₆.1).0)
  given_same (Weighted decay) limit limit' l h = refl
  given_same Semi limit limit' l h = refl
  given_same (SemiBelow threshold) limit limit' l h = refl

module _ (r : List Float) (n P : ℕ) (s : Settings) (given : List Float) (side : ℕ) (slice : List Float) where
  -- nothing but the decomposition and its checks knows the limit
  by_same : (limit limit' : ℕ) (d : Decomposition) (cs : List Check) → covariance_by r n P (limited s limit') given side slice d cs ≡ covariance_by r n P (limited s limit) given side slice d cs
  unfolding of_settings adjusted
  by_same limit limit' d cs = refl

  checks_pass : (s : Settings) (d : Decomposition) (cs : List Check) → Accepted (covariance_by r n P s given side slice d cs) → first cs ≡ passes
  checks_pass s d cs h =
      let o = opening r n P (n * n) slice in
      let a = of_answer r n P s given side in
      (pass_append o cs (pass_append (o ++ cs) a (all_pass (first (o ++ cs ++ a)) slice _ h)).0).1

  covariance_limit : (limit limit' : ℕ) → limit ≤ limit' → limit' ≤ max_sweeps → Accepted (adjusted_covariance r n P (limited s limit) given side slice)
      → adjusted_covariance r n P (limited s limit') given side slice ≡ adjusted_covariance r n P (limited s limit) given side slice
  covariance_limit limit limit' l h a =
      let S = s.shrinkage in
      let H = s.regularization in
      let d = decomposition_of (limited s limit) given side in
      let d' = decomposition_of (limited s limit') given side in
      let cs = of_given (limited s limit) given side in
      let cs' = of_given (limited s limit') given side in
      let p : d' ≡ d = given_same S H given side s.estimate limit limit' l (checks_pass (limited s limit) d cs (subst Accepted (covariance_is r n P (limited s limit) given side slice) a)) in
      let q : cs' ≡ cs = given_checks S H given side s.estimate limit limit' (same_limit limit limit' l h) p in
      covariance_is r n P (limited s limit') given side slice ∙ by_same limit limit' d' cs' ∙ ap₂ (covariance_by r n P (limited s limit) given side slice) p q ∙ sym (covariance_is r n P (limited s limit) given side slice)

-- ---- all five calls
abbrev pub with_limit : Question → ℕ → Question
with_limit (Law.adjusted s given side) limit = Law.adjusted (limited s limit) given side
with_limit (Law.intensity F) limit = Law.intensity F
with_limit (Law.weighted_mean decay) limit = Law.weighted_mean decay
with_limit (Law.james_stein l) limit = Law.james_stein limit
with_limit (Law.bayes_stein l) limit = Law.bayes_stein limit

pub larger_sweep_limit : (r : List Float) (n P : ℕ) (q : Question) (slice : List Float) (limit limit' : ℕ) → limit ≤ limit' → limit' ≤ max_sweeps → Accepted (ask r n P (with_limit q limit) slice)
    → ask r n P (with_limit q limit') slice ≡ ask r n P (with_limit q limit) slice
larger_sweep_limit r n P (Law.adjusted s given side) slice limit limit' l h a = covariance_limit r n P s given side slice limit limit' l h a
larger_sweep_limit r n P (Law.intensity F) slice limit limit' l h a = refl
larger_sweep_limit r n P (Law.weighted_mean decay) slice limit limit' l h a = refl
larger_sweep_limit r n P (Law.james_stein old) slice limit limit' l h a = james_limit r n P slice limit limit' l h a
larger_sweep_limit r n P (Law.bayes_stein old) slice limit limit' l h a = bayes_limit r n P slice limit limit' l h a
