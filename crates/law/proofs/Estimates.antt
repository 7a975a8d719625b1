-- What the checks of the settings and the adjustment ask of an estimate E and its copy E', the second's returns 2 ^ k times the first's: the same refusals, and each entry 2 ^ (2k) times as large
-- (`Based`). And the checks of a given matrix, which come before. Assumes nothing.
use mathlib.Core.Path.{◌≡◌, refl, sym, ap, ap₂, ◌∙◌, subst}
use Prim.Native.Nat.{ℕ, ◌+◌, ◌*◌, ◌≤◌, ◌<◌}
use native.Mathlib.Nat.{le_of_eq, lt_of_lt_of_le}
use native.Mathlib.Omega.{arith}
use mathlib.Core.Bool.{Bool, true, false, not, ◌&&◌}
use mathlib.Core.List.{List, map}
use mathlib.Core.Option.{Option}
use lib.Dec.{eqb, lit≤}
use lib.IntN.{pos}
use lib.ListN.{length}
use lib.Ieee.{Float, eq}
use borrow.Author.Tests.{eqb-true, not-false}
use Rattle.leaves.specs.Numbers.{zero⁺, is_finite}
use Rattle.leaves.specs.Shift.{shift}
use Rattle.leaves.proofs.First.{first_ext}
use Rattle.leaves.proofs.Shift.{is_finite_shift, eq_shift, shift_zero⁺}
use Rattle.leaves.proofs.Zero.{no}
use Rattle.leaves.proofs.Operations.{moved_within}
use Rattle.matrix.specs.Matrix.{Matrix, at}
use Rattle.rules.specs.Refusals.{passes, when, when_some}
use Rattle.rules.specs.Sample.{covariance, largest}
use Rattle.rules.specs.Weighted.{log_decay, accepted_decay}
use Rattle.rules.specs.Given.{average}
use Rattle.rules.specs.Adjusted.{is_sample, is_given, decomposition_of, base}
use Rattle.rules.specs.Order.{decay_field, bad_decay, bad_estimate, constant_returns, no_variance, of_given}
use Rattle.rules.specs.Settings.{settings}
use Rattle.rules.specs.declared.Estimate.{Estimate}
use Rattle.rules.specs.declared.Decay.{Decay}
use Rattle.rules.specs.declared.Estimate.TheVariants.{Sample, Given, Weighted, Semi, SemiBelow}
use Rattle.rules.specs.declared.Shrinkage.{Shrinkage}
use Rattle.rules.specs.declared.Regularization.{Regularization}
use Rattle.rules.specs.declared.Field.TheVariants.{ThresholdField}
use Rattle.rules.specs.declared.Refusal.TheVariants.{BadSetting, ZeroVariance}
use Rattle.law.specs.Law.{All, Sized, EstimateInRange, CopiedEstimate, sample, given, weighted, semi, semi_below, max_power, return_range, covariance_range}
use Rattle.law.proofs.Ranges.{return_bounds, estimate_bounds}
use Rattle.law.proofs.Numbers.{copy-shift}
use Rattle.law.proofs.Chain.{Chain, ends, pass_must}
use Rattle.law.proofs.Sizes.{sized_fits}
use Rattle.law.proofs.Sample.{Returns}
use Rattle.law.proofs.Constant.{constant_same}
use Rattle.law.proofs.Opening.{Shape, returns, sample_moved, semi_moved, semi_below_moved}
use Rattle.law.proofs.Decays.{in_range_decaying}
use Rattle.law.proofs.Weighted as Weighted
use Rattle.law.proofs.Given.{average_moved, decomposition_same, given_chain}
use Rattle.law.proofs.Shrinkage.{Estimated}

pub record Based (k n P side : ℕ) (E E' : Estimate Float) (x y G G' : Matrix) : Type 0 where
  pub bad : bad_estimate E' ≡ bad_estimate E
  pub sample : is_sample E' ≡ is_sample E
  pub given : is_given E' ≡ is_given E
  pub entries : bad_estimate E ≡ passes → (is_given E && not (eqb side n)) ≡ false → (i j : ℕ) → i < n → j < n → Estimated (k + k) (base E P x G i j) (base E' P y G' i j)
  pub variance : (b b' : Matrix) → ((i : ℕ) → i < n → b' i i ≡ shift (pos (k + k)) (b i i)) → no_variance false E' P n y b' ≡ no_variance false E P n x b
  pub sampled : is_sample E ≡ true → (i j : ℕ) → (base E P x G i j ≡ covariance P x i j) × (base E' P y G' i j ≡ covariance P y i j)

module _ (k : ℕ) (small : k ≤ max_power) (r : List Float) (sizes : All (Sized return_range) r) (n P : ℕ) (s : Shape r n P) (side : ℕ) (G G' : Matrix) where
  abbrev x : Matrix
  x = at r n

  abbrev y : Matrix
  y = at (map (shift (pos k)) r) n

  abbrev R : Returns k n P return_bounds x y
  R = returns k small r sizes n P s

  -- 9, of a variance from the returns
  varies : (b b' : Matrix) → ((i : ℕ) → i < n → b' i i ≡ shift (pos (k + k)) (b i i)) → constant_returns n b' (largest P y) ≡ constant_returns n b (largest P x)
  varies b b' e = ap (λ (o : Option ℕ). when_some o ZeroVariance) (constant_same R (lit≤ tt) (omega arith) b b' e)

  from_sample : Based k n P side Sample Sample x y G G'
  unfolding base no_variance
  from_sample = record { bad = refl; sample = refl; given = refl; entries = λ e e' i j a b. moved_within estimate_bounds tt (sample_moved k small r sizes n P s i j a b); variance = varies; sampled = λ e i j. (refl, refl) }

  from_semi : Based k n P side Semi Semi x y G G'
  unfolding base no_variance
  from_semi = record { bad = refl; sample = refl; given = refl; entries = λ e e' i j a b. moved_within estimate_bounds tt (semi_moved k small r sizes n P s i j a b); variance = varies; sampled = λ e. no e refl }

  from_threshold : (θ θ' : Float) → Sized return_range θ → θ' ≡ shift (pos k) θ → Based k n P side (SemiBelow θ) (SemiBelow θ') x y G G'
  unfolding bad_estimate base no_variance
  from_threshold θ θ' z e = record {
    bad = ap (λ (b : Bool). when (not b) (BadSetting ThresholdField)) (ap is_finite e ∙ is_finite_shift (pos k) θ);
    sample = refl;
    given = refl;
    entries = λ q q' i j a b. moved_within estimate_bounds tt (semi_below_moved k small r sizes n P θ θ' z e s i j a b);
    variance = varies;
    sampled = λ e. no e refl;
  }

  from_weights : (d : Decay Float) → EstimateInRange P (Weighted d) → Based k n P side (Weighted d) (Weighted d) x y G G'
  unfolding bad_estimate bad_decay base no_variance
  from_weights d slow = record {
    bad = refl;
    sample = refl;
    given = refl;
    entries = λ q q' i j a b. Weighted.covariance_moved small R (log_decay d) (in_range_decaying P R.periods R.most d slow (pass_must (accepted_decay d) (BadSetting (decay_field d)) q)) i j a b;
    variance = varies;
    sampled = λ e. no e refl;
  }

-- a given matrix, where its slice has the right length
module _ (k : ℕ) (small : k ≤ max_power) (n P side : ℕ) (x y : Matrix) (g : List Float) (sizes : All (Sized covariance_range) g) (full : length g ≡ side * side) where
  from_given : Based k n P side Given Given x y (average g side) (average (map (shift (pos (k + k))) g) side)
  unfolding base no_variance
  from_given = record {
    bad = refl;
    sample = refl;
    given = refl;
    entries = λ q q' i j a b.
        let e : side ≡ n = eqb-true side n (not-false (eqb side n) q') in
        moved_within estimate_bounds tt (average_moved (k + k) (omega arith) side g sizes full i j (lt_of_lt_of_le a (le_of_eq (sym e))) (lt_of_lt_of_le b (le_of_eq (sym e))));
    variance = λ b b' e. ap (λ (o : Option ℕ). when_some o ZeroVariance) (first_ext n (λ i. eq (b' i i) zero⁺) (λ i. eq (b i i) zero⁺) (λ i l. ap₂ eq (e i l) (sym (shift_zero⁺ (pos (k + k)))) ∙ eq_shift (pos (k + k)) (b i i) zero⁺));
    sampled = λ e. no e refl;
  }

-- ---- the checks of a given matrix, and after them what is known of the estimate
pub estimate_chain : {Q : Type 0} (k : ℕ) (small : k ≤ max_power) (r : List Float) (sizes : All (Sized return_range) r) (n P : ℕ) (s : Shape r n P) (side limit : ℕ) (S : Shrinkage Float) (H H' : Regularization Float) (E E' : Estimate Float) (g g' : List Float)
    → CopiedEstimate (pos k) E E' → EstimateInRange P E → EstimateInRange P E' → (is_given E ≡ true → All (Sized covariance_range) g × (g' ≡ map (shift (pos (k + k))) g))
    → (Based k n P side E E' (at r n) (at (map (shift (pos k)) r) n) (average g side) (average g' side) → decomposition_of (settings E' S H' limit) g' side ≡ decomposition_of (settings E S H limit) g side → Q)
    → Chain Q (of_given (settings E S H limit) g side) (of_given (settings E' S H' limit) g' side)
unfolding of_given decomposition_of
estimate_chain k small r sizes n P s side limit S H H' E E' g g' sample q q' known then = ends (then (from_sample k small r sizes n P s side (average g side) (average g' side)) refl)
estimate_chain k small r sizes n P s side limit S H H' E E' g g' semi q q' known then = ends (then (from_semi k small r sizes n P s side (average g side) (average g' side)) refl)
estimate_chain k small r sizes n P s side limit S H H' E E' g g' (weighted {decay = d}) q q' known then = ends (then (from_weights k small r sizes n P s side (average g side) (average g' side) d q) refl)
estimate_chain k small r sizes n P s side limit S H H' E E' g g' (semi_below {x = θ} {y = θ'} c) q q' known then =
    ends (then (from_threshold k small r sizes n P s side (average g side) (average g' side) θ θ' q (copy-shift k θ θ' (sized_fits return_range θ q) (sized_fits return_range θ' q') c)) refl)
estimate_chain {Q} k small r sizes n P s side limit S H H' E E' g g' given q q' known then =
    let m = known refl in
    subst (λ (g' : List Float). (Based k n P side Given Given (at r n) (at (map (shift (pos k)) r) n) (average g side) (average g' side) → decomposition_of (settings Given S H' limit) g' side ≡ decomposition_of (settings Given S H limit) g side → Q)
    → Chain Q (of_given (settings Given S H limit) g side) (of_given (settings Given S H' limit) g' side)) (sym m.1)
    (λ then. given_chain (k + k) (omega arith) side g m.0 limit S H H' (λ full. then (from_given k small n P side (at r n) (at (map (shift (pos k)) r) n) g m.0 full) (decomposition_same (k + k) (omega arith) side g m.0 full limit))) then
