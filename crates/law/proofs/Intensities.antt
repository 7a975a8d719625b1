-- An intensity that a call reports is NaN or from 0 to 1, over all inputs: document 01, "Records" and "Estimators". A fixed one was checked, Ledoit-Wolf's and James-Stein's are cut to that range, and
-- Bayes-Stein's is a part of a whole. Assumes nothing.
use mathlib.Core.Path.{◌≡◌, refl}
use mathlib.Core.Logic.{◌⊎◌, inl, inr}
use Prim.Native.Nat.{ℕ, ◌*◌, ◌≤◌}
use mathlib.Core.Bool.{true, false, ◌&&◌, and-eq-true_iff}
use mathlib.Core.List.{List, ◌++◌}
use lib.Ieee.{Float, nan, inf, fin, lt, le, eq, is_nan}
use Rattle.leaves.specs.Numbers.{zero⁺, one, clamp01}
use Rattle.leaves.proofs.Signs.{sign_count}
use Rattle.matrix.specs.Limits.{max_side}
use Rattle.matrix.specs.Matrix.{Matrix, at}
use Rattle.matrix.specs.Jacobi.{Decomposition}
use Rattle.rules.specs.Refusals.{passes, first}
use Rattle.rules.specs.Moments.{Moments, moments}
use Rattle.rules.specs.LedoitWolf.{ledoit_wolf}
use Rattle.rules.specs.Adjusted.{intensity}
use Rattle.rules.specs.JamesStein.{james_stein_intensity}
use Rattle.rules.specs.Order.{opening, of_given, bad_shrinkage, of_settings}
use Rattle.rules.specs.Calls.{ledoit_wolf_intensity, exponentially_weighted_mean}
use Rattle.rules.specs.declared.Target.{Target}
use Rattle.rules.specs.declared.Shrinkage.{Shrinkage}
use Rattle.rules.specs.declared.Shrinkage.TheVariants.{Unshrunk, Fixed, LedoitWolf}
use Rattle.rules.specs.declared.Field.TheVariants.{ShrinkageField}
use Rattle.rules.specs.declared.Refusal.TheVariants.{BadSetting}
use Rattle.rules.specs.declared.Answer.{Answer}
use Rattle.rules.specs.declared.Answer.TheVariants.{Covariance, Intensity, Mean, Shrunk}
use Rattle.rules.specs.declared.Refusal.{Refusal}
use Rattle.std.specs.Prelude.{Result, Ok, Err}
use Rattle.rules.specs.BayesStein.{exponents_of, bayes_stein}
use Rattle.rules.proofs.Passed.{pass_cons}
use Rattle.rules.proofs.AdjustedCall.{of_answer}
use Rattle.law.specs.Law as Law
use Rattle.law.specs.Law.{Question, ask}
use Rattle.law.proofs.Sizes.{clamp_cases}
use Rattle.law.proofs.Comparisons.{not_lt}
use Rattle.law.proofs.Columns.{column_moments}
use Rattle.law.proofs.LedoitWolf.{ledoit_wolf_cases}
use Rattle.law.proofs.JamesStein.{james_cases}
use Rattle.law.proofs.MeanShrinkage.{shrinkage_unit}
use Rattle.law.proofs.Chain.{pass_must}
use Rattle.law.proofs.Passing.{pass_append, pass_opening, settle_cases}
use Rattle.law.proofs.Calls.{covariance_is, in_unit, unit_grand_mean, james_decomposition, james_is, bayes_is}

abbrev pub Share : Float → Type 0
Share x = (x ≡ nan) ⊎ ((le zero⁺ x ≡ true) × (le x one ≡ true))

-- ---- from comparisons
share_of : (x : Float) → lt x zero⁺ ≡ false → lt one x ≡ false → Share x
unfolding is_nan
share_of nan h k = inl refl
share_of (inf s) h k = inr (not_lt zero⁺ (inf s) tt tt h, not_lt (inf s) one tt tt k)
share_of (fin s m e) h k = inr (not_lt zero⁺ (fin s m e) tt tt h, not_lt (fin s m e) one tt tt k)

zero_share : Share zero⁺
unfolding le
zero_share = inr (refl, refl)

clamped : (x : Float) → Share (clamp01 x)
clamped x = clamp_cases Share x zero_share (unfold le lt eq in inr (refl, refl)) (share_of x)

-- ---- the three intensities, and a fixed one that passes its check
ledoit_wolf_share : (F : Target) (P n : ℕ) (x : Matrix) → Share (ledoit_wolf F P n x)
ledoit_wolf_share F P n x = ledoit_wolf_cases Share F P n x zero_share (λ w t. clamped w)

james_share : (n : ℕ) (m : Moments) (μ₀ : Float) (d : Decomposition) → Share (james_stein_intensity n m μ₀ d)
james_share n m μ₀ d = james_cases Share n m μ₀ d zero_share (λ w t. clamped w)

bayes_share : (r : List Float) (limit n P : ℕ) → n ≤ max_side → Share (bayes_stein n limit (column_moments P n (at r n)) (exponents_of P n (at r n))).intensity
bayes_share r limit n P few =
    let m = column_moments P n (at r n) in
    let u = shrinkage_unit limit n m (exponents_of P n (at r n)) few (unfold moments in sign_count P) in
    share_of (bayes_stein n limit m (exponents_of P n (at r n))).intensity u.0 u.1

adjusted_share : (S : Shrinkage Float) (P n : ℕ) (x : Matrix) → bad_shrinkage S ≡ passes → Share (intensity S P n x)
unfolding intensity bad_shrinkage
adjusted_share Unshrunk P n x h = zero_share
adjusted_share (Fixed δ) P n x h = inr ((and-eq-true_iff (le zero⁺ δ) (le δ one)).0 (pass_must (le zero⁺ δ && le δ one) (BadSetting ShrinkageField) h))
adjusted_share (LedoitWolf F) P n x h = ledoit_wolf_share F P n x

-- ---- what a call reports
abbrev pub Reported : Result Answer Refusal → Type 0
Reported (Err c) = Unit {0}
Reported (Ok (Covariance δ sweeps rotations)) = Share δ
Reported (Ok (Intensity δ)) = Share δ
Reported (Ok Mean) = Unit {0}
Reported (Ok (Shrunk α μ₀ sweeps rotations)) = Share α

pub reported : (r : List Float) (n P : ℕ) (q : Question) (slice : List Float) → Reported (ask r n P q slice).answer
reported r n P (Law.adjusted s given side) slice =
    let cs = opening r n P (n * n) slice ++ of_given s given side in
    let a = of_answer r n P s given side in
    rw (covariance_is r n P s given side slice) (settle_cases Reported (λ c. tt) (first (cs ++ a)) slice _ (λ h. adjusted_share s.shrinkage P n (at r n) (second (pass_append cs a h).1)))
  where
    second : first (of_answer r n P s given side) ≡ passes → bad_shrinkage s.shrinkage ≡ passes
    second h = unfold of_settings in (pass_cons _ _ (pass_cons _ _ h).1).0
reported r n P (Law.intensity F) slice = unfold ledoit_wolf_intensity in settle_cases Reported (λ c. tt) _ _ _ (λ h. ledoit_wolf_share F P n (at r n))
reported r n P (Law.weighted_mean decay) slice = unfold exponentially_weighted_mean in settle_cases Reported (λ c. tt) _ slice _ (λ h. tt)
reported r n P (Law.james_stein limit) slice = rw (james_is r n P limit slice) (settle_cases Reported (λ c. tt) _ slice _ (λ h. james_share n (in_unit r n P) (unit_grand_mean r n P) (james_decomposition r n P limit)))
reported r n P (Law.bayes_stein limit) slice = rw (bayes_is r n P limit slice) (settle_cases Reported (λ c. tt) (first (opening r n P n slice ++ _)) slice _ (λ h. bayes_share r limit n P (pass_opening r n P n slice (pass_append (opening r n P n slice) _ h).0).0))
