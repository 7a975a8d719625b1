-- The Ledoit-Wolf call. Centered returns are scaled exactly. Over the power of two of their largest, which grows by k too, they are the same floats in both runs, and everything after is the same
-- computation: the intensity is the same, bit for bit. Assumes nothing.
use mathlib.Core.Path.{◌≡◌, refl, ap, subst₂}
use Prim.Native.Nat.{ℕ, ◌≤◌}
use native.Mathlib.Omega.{arith}
use mathlib.Core.Bool.{Bool, true, false}
use mathlib.Core.List.{List, [], map}
use mathlib.Core.Option.{Option}
use lib.Dec.{T, lit≤}
use lib.IntN.{pos}
use lib.Ieee.{Float, binary64, fits, lt}
use lib.Ieee.Fits.{div-fits}
use Rattle.leaves.specs.Numbers.{zero⁺, clamp01}
use Rattle.leaves.specs.Scaling.{binary_exponent}
use Rattle.leaves.specs.Shift.{shift}
use Rattle.matrix.specs.Matrix.{Matrix, at, amax}
use Rattle.matrix.proofs.Stored.{rows_ext}
use Rattle.rules.specs.Refusals.{Check, passes, refuses, when_some, first}
use Rattle.rules.specs.Sample.{deviation, covariance, scaled}
use Rattle.rules.specs.LedoitWolf.{intensity_from, intensity_of, ledoit_wolf, intensity_by}
use Rattle.rules.specs.Order.{no_correlation, ledoit_wolf_order}
use Rattle.rules.specs.Calls.{Answered, answered, settle, ledoit_wolf_intensity}
use Rattle.rules.specs.declared.Target.{Target}
use Rattle.rules.specs.declared.Target.TheVariants.{ConstantVariance, ConstantCorrelation}
use Rattle.rules.specs.declared.Shrinkage.TheVariants.{LedoitWolf}
use Rattle.rules.specs.declared.Refusal.TheVariants.{ZeroVariance}
use Rattle.rules.specs.declared.Answer.TheVariants.{Intensity}
use Rattle.std.specs.Prelude.{Ok}
use Rattle.law.specs.Law.{All, Sized, answer_parts, Alike, ask, max_power, return_range, parts}
use Rattle.law.specs.Law as Law
use Rattle.law.proofs.Ranges.{return_bounds, deviation_of}
use Rattle.law.proofs.Numbers.{times_itself}
use Rattle.law.proofs.Chain.{Chain, ends, chain_same, chained, settled}
use Rattle.law.proofs.Sample.{Returns, deviation_moved}
use Rattle.law.proofs.Constant.{constant_same}
use Rattle.law.proofs.Matrices.{amax_moved, amax_above}
use Rattle.law.proofs.Scaled.{Scaling, scaling}
use Rattle.law.proofs.Opening.{Shape, returns, sample_moved, opening_chain}

-- 0, or a number cut to [0, 1]
pub ledoit_wolf_cases : (Q : Float → Type 0) (F : Target) (P n : ℕ) (x : Matrix) → Q zero⁺ → ((w : Float) → T (fits binary64 w) → Q (clamp01 w)) → Q (ledoit_wolf F P n x)
unfolding ledoit_wolf intensity_of intensity_by
ledoit_wolf_cases Q F P n x none cut = go (lt zero⁺ _) _ (div-fits binary64 _ _)
  where
    go : (b : Bool) (w : Float) → T (fits binary64 w) → Q (elim b [ true ↦ clamp01 w | false ↦ zero⁺ ])
    go true w t = cut w t
    go false w t = none

pub ledoit_wolf_same : {k n P : ℕ} {x y : Matrix} (F : Target) → k ≤ max_power → Returns k n P return_bounds x y → ledoit_wolf F P n y ≡ ledoit_wolf F P n x
unfolding ledoit_wolf scaled
ledoit_wolf_same {k} {n} {P} {x} {y} F small r =
    let each = deviation_moved r (lit≤ tt) (omega arith) in
    let s : Scaling k (deviation_of return_bounds) (amax P n (deviation P x)) (amax P n (deviation P y)) = scaling (amax_moved P n (deviation P x) (deviation P y) each) (lit≤ tt, lit≤ tt, lit≤ tt, lit≤ tt, lit≤ tt) (omega arith) in
    ap (λ (z : List Float). intensity_from F P n (at z n))
    (rows_ext P n (scaled (λ i. binary_exponent (amax P n (deviation P y))) (deviation P y)) (scaled (λ i. binary_exponent (amax P n (deviation P x))) (deviation P x))
    (λ t i a b. s.same (each t i a b) (amax_above P n (deviation P x) (deviation P y) each t i a b)))

module _ (k : ℕ) (small : k ≤ max_power) (r : List Float) (sizes : All (Sized return_range) r) (n P : ℕ) where
  pub correlation_same : (F : Target) → Shape r n P → no_correlation (LedoitWolf F) P n (at (map (shift (pos k)) r) n) ≡ no_correlation (LedoitWolf F) P n (at r n)
  unfolding no_correlation
  correlation_same ConstantVariance s = refl
  correlation_same ConstantCorrelation s = ap (λ (o : Option ℕ). when_some o ZeroVariance)
      (constant_same (returns k small r sizes n P s) (lit≤ tt) (omega arith) (covariance P (at r n)) (covariance P (at (map (shift (pos k)) r) n)) (λ i l. (sample_moved k small r sizes n P s i i l l).copy))

  abbrev accepted : Target → List Float → Answered
  accepted F r = answered (Ok (Intensity (ledoit_wolf F P n (at r n)))) []

  -- the call takes no slice
  no_slice : (c : Check) (δ : Float) (slice : List Float) → parts n (settle c [] (answered (Ok (Intensity δ)) [])) ≡ answer_parts n (settle c [] (answered (Ok (Intensity δ)) [])).answer slice
  unfolding settle
  no_slice passes δ slice = refl
  no_slice (refuses c) δ slice = refl

  pub intensity_law : (F : Target) (slice slice' : List Float) → Alike (pos k) (parts n (ask r n P (Law.intensity F) slice)) (parts n (ask (map (shift (pos k)) r) n P (Law.intensity F) slice'))
  unfolding ledoit_wolf_intensity
  intensity_law F slice slice' =
      let r' = map (shift (pos k)) r in
      subst₂ (Alike (pos k)) (no_slice (first (ledoit_wolf_order r n P F)) (ledoit_wolf F P n (at r n)) slice) (no_slice (first (ledoit_wolf_order r' n P F)) (ledoit_wolf F P n (at r' n)) slice')
      (settled (chained chain) (pos k) n [] [] (accepted F r) (accepted F r') (λ e e' same. record {
        refusal = refl;
        entries = tt;
        means_and_target = tt;
        intensity = (rw same (times_itself (ledoit_wolf F P n (at r n))), tt);
        sweeps_and_rotations = refl;
      }))
    where
      chain : Chain (ledoit_wolf F P n (at (map (shift (pos k)) r) n) ≡ ledoit_wolf F P n (at r n)) (ledoit_wolf_order r n P F) (ledoit_wolf_order (map (shift (pos k)) r) n P F)
      chain = unfold ledoit_wolf_order in
          opening_chain k small r sizes n P 0 [] [] refl (λ s opens. chain_same (no_correlation (LedoitWolf F) P n (at r n)) (correlation_same F s) (λ e. ends (ledoit_wolf_same F small (returns k small r sizes n P s))))
