-- Document 01, "How tight" c: at a limit above 0 no diagonal given matrix whose averages with its transpose are finite is refused 13, for want of a decomposition. No other check of the call refuses with 13, and
-- this one passes (`Diagonal`). Assumes nothing.
use mathlib.Core.Path.{◌≡◌, refl, sym, ap, ◌∙◌, subst}
use Prim.Native.Nat.{ℕ, ◌*◌, ◌<◌}
use mathlib.Core.Bool.{Bool, true, false, not, ◌&&◌, ◌||◌}
use mathlib.Core.List.{List, [], ◌∷◌, ◌++◌}
use mathlib.Core.Option.{Option, none, some}
use lib.Dec.{T, eqb, ltb}
use lib.ListN.{length}
use lib.Ieee.{Float, binary64, fits, le, eq}
use Rattle.leaves.specs.Numbers.{◌⊗◌, zero⁺, one, is_finite}
use Rattle.leaves.specs.Loops.{first_to}
use Rattle.matrix.specs.Limits.{max_side, max_sweeps}
use Rattle.matrix.specs.Matrix.{Matrix, at, amax, trace, averaged, first_not_finite, all_finite}
use Rattle.matrix.specs.Jacobi.{Decomposition, smallest_value, unturned}
use Rattle.rules.specs.Refusals.{number, Check, passes, refuses, when, when_some, first}
use Rattle.rules.specs.Sample.{covariance, largest, constant_asset}
use Rattle.rules.specs.Weighted.{accepted_decay}
use Rattle.rules.specs.Given.{asymmetry, average, decompose_given, indefinite}
use Rattle.rules.specs.Adjusted.{is_sample, is_given, decomposition_of, intensity, is_adjusted}
use Rattle.rules.specs.Order.{max_periods, not_finite, opening, bad_sweep_limit, of_given, bad_regularization, bad_shrinkage, decay_field, bad_decay, bad_estimate, not_the_sample, no_correlation, no_variance, of_settings}
use Rattle.rules.specs.Calls.{Answered, settle, adjusted_covariance}
use Rattle.rules.specs.Settings.{settings}
use Rattle.rules.specs.declared.Estimate.{Estimate}
use Rattle.rules.specs.declared.Estimate.TheVariants.{Sample, Given, Weighted, Semi, SemiBelow}
use Rattle.rules.specs.declared.Target.TheVariants.{ConstantVariance, ConstantCorrelation}
use Rattle.rules.specs.declared.Shrinkage.{Shrinkage}
use Rattle.rules.specs.declared.Shrinkage.TheVariants.{Unshrunk, Fixed, LedoitWolf}
use Rattle.rules.specs.declared.Regularization.{Regularization}
use Rattle.rules.specs.declared.Regularization.TheVariants.{Unregularized, Ridge}
use Rattle.rules.specs.declared.Settings.{Settings}
use Rattle.rules.specs.declared.Field.TheVariants.{RegularizationField, ShrinkageField, ThresholdField, SweepLimitField}
use Rattle.rules.specs.declared.Refusal.{Refusal}
use Rattle.rules.specs.declared.Refusal.TheVariants.{NoAssets, TooLarge, TooFewPeriods, WrongLength, NotFinite, CovarianceNotFinite, BadSetting, NotTheSample, ZeroVariance, WrongSide, Asymmetric, Indefinite, NotDecomposed, Singular}
use Rattle.rules.specs.declared.Answer.{Answer}
use Rattle.std.specs.Prelude.{Result, Ok, Err}
use Rattle.rules.proofs.AdjustedCall.{estimated, covariances, of_answer}
use Rattle.law.proofs.Diagonal.{Diagonal, given_diagonal}
use Rattle.law.proofs.Calls.{covariance_is}

-- ---- checks that do not refuse with 13
abbrev Avoids : Check → Type 0
Avoids passes = Unit {0}
Avoids (refuses c) = eqb (number c) (number NotDecomposed) ≡ false

abbrev AllAvoid : List Check → Type 0
AllAvoid [] = Unit {0}
AllAvoid (c ∷ cs) = Avoids c × AllAvoid cs

append : (cs ds : List Check) → AllAvoid cs → AllAvoid ds → AllAvoid (cs ++ ds)
append [] ds p q = q
append (c ∷ cs) ds p q = (p.0, append cs ds p.1 q)

avoid_first : (cs : List Check) → AllAvoid cs → Avoids (first cs)
unfolding first
avoid_first [] p = tt
avoid_first (passes ∷ cs) p = avoid_first cs p.1
avoid_first (refuses c ∷ cs) p = p.0

test : (b : Bool) (c : Refusal) → eqb (number c) (number NotDecomposed) ≡ false → Avoids (when b c)
test true c e = e
test false c e = tt

search : {A : Type 0} (o : Option A) (c : A → Refusal) → ((a : A) → eqb (number (c a)) (number NotDecomposed) ≡ false) → Avoids (when_some o c)
search none c e = tt
search (some a) c e = e a

finite : (m n : ℕ) (a : Matrix) → Avoids (not_finite m n a)
unfolding not_finite
finite m n a = search (first_not_finite m n a) (λ p. NotFinite p.0 p.1) (λ p. refl)

limit_avoids : (limit : ℕ) → Avoids (bad_sweep_limit limit)
unfolding bad_sweep_limit
limit_avoids limit = test (ltb max_sweeps limit) (BadSetting SweepLimitField) refl

opening_avoids : (r : List Float) (n P needed : ℕ) (slice : List Float) → AllAvoid (opening r n P needed slice)
unfolding opening
opening_avoids r n P needed slice = (
  test (eqb n 0) NoAssets refl,
  (
    test (ltb max_side n || ltb max_periods P) TooLarge refl,
    (
      test (ltb P 2) (TooFewPeriods P) refl,
      (test (not (eqb (length r) (P * n)) || ltb (length slice) needed) WrongLength refl, (finite P n (at r n), (test (not (all_finite n n (covariance P (at r n)))) CovarianceNotFinite refl, tt))),
    ),
  ),
)

given_avoids : (E : Estimate Float) (S : Shrinkage Float) (H : Regularization Float) (limit : ℕ) (g : List Float) (side : ℕ) → (is_given E ≡ true → (decomposition_of (settings E S H limit) g side).found ≡ true) → AllAvoid (of_given (settings E S H limit) g side)
unfolding of_given decomposition_of
given_avoids Sample S H limit g side h = tt
given_avoids Given S H limit g side h =
    let d = decompose_given limit side (average g side) in
    (limit_avoids limit, (test (eqb side 0) NoAssets refl, (test (ltb max_side side) TooLarge refl, (test (not (eqb (length g) (side * side))) (WrongSide side) refl, (finite side side (at g side), (search (asymmetry side (at g side)) (λ p. Asymmetric p.0 p.1) (λ p. refl), (decided d.found (h refl), (test (indefinite side d) (Indefinite (smallest_value side d ⊗ amax side side (averaged (at g side)))) refl, tt))))))))
  where
    decided : (b : Bool) → b ≡ true → Avoids (when (not b) NotDecomposed)
    decided true e = tt
    decided false e = absurd (subst T (sym e) tt)
given_avoids (Weighted decay) S H limit g side h = tt
given_avoids Semi S H limit g side h = tt
given_avoids (SemiBelow threshold) S H limit g side h = tt

-- ---- the checks of the settings
regularization_avoids : (H : Regularization Float) → Avoids (bad_regularization H)
unfolding bad_regularization
regularization_avoids Unregularized = tt
regularization_avoids (Ridge x) = test (not (is_finite x && le zero⁺ x)) (BadSetting RegularizationField) refl

shrinkage_avoids : (S : Shrinkage Float) → Avoids (bad_shrinkage S)
unfolding bad_shrinkage
shrinkage_avoids Unshrunk = tt
shrinkage_avoids (Fixed δ) = test (not (le zero⁺ δ && le δ one)) (BadSetting ShrinkageField) refl
shrinkage_avoids (LedoitWolf F) = tt

estimate_avoids : (E : Estimate Float) → Avoids (bad_estimate E)
unfolding bad_estimate bad_decay
estimate_avoids Sample = tt
estimate_avoids Given = tt
estimate_avoids (Weighted decay) = test (not (accepted_decay decay)) (BadSetting (decay_field decay)) refl
estimate_avoids Semi = tt
estimate_avoids (SemiBelow threshold) = test (not (is_finite threshold)) (BadSetting ThresholdField) refl

sample_avoids : (S : Shrinkage Float) (E : Estimate Float) → Avoids (not_the_sample S E)
unfolding not_the_sample
sample_avoids Unshrunk E = tt
sample_avoids (Fixed δ) E = tt
sample_avoids (LedoitWolf F) E = test (not (is_sample E)) NotTheSample refl

correlation_avoids : (S : Shrinkage Float) (P n : ℕ) (x : Matrix) → Avoids (no_correlation S P n x)
unfolding no_correlation
correlation_avoids Unshrunk P n x = tt
correlation_avoids (Fixed δ) P n x = tt
correlation_avoids (LedoitWolf ConstantVariance) P n x = tt
correlation_avoids (LedoitWolf ConstantCorrelation) P n x = search (constant_asset n (covariance P x) (largest P x)) ZeroVariance (λ i. refl)

variance_avoids : (b : Bool) (E : Estimate Float) (P n : ℕ) (x v : Matrix) → Avoids (no_variance b E P n x v)
unfolding no_variance
variance_avoids true E P n x v = tt
variance_avoids false Sample P n x v = search (constant_asset n v (largest P x)) ZeroVariance (λ i. refl)
variance_avoids false Given P n x v = search (first_to n (λ i. eq (v i i) zero⁺)) ZeroVariance (λ i. refl)
variance_avoids false (Weighted decay) P n x v = search (constant_asset n v (largest P x)) ZeroVariance (λ i. refl)
variance_avoids false Semi P n x v = search (constant_asset n v (largest P x)) ZeroVariance (λ i. refl)
variance_avoids false (SemiBelow threshold) P n x v = search (constant_asset n v (largest P x)) ZeroVariance (λ i. refl)

settings_avoid : (s : Settings) (δ : Float) (P n side : ℕ) (x b a : Matrix) → AllAvoid (of_settings s δ P n side x b a)
unfolding of_settings
settings_avoid s δ P n side x b a = (
  regularization_avoids s.regularization,
  (
    shrinkage_avoids s.shrinkage,
    (
      estimate_avoids s.estimate,
      (
        sample_avoids s.shrinkage s.estimate,
        (
          correlation_avoids s.shrinkage P n x,
          (
            test (is_given s.estimate && not (eqb side n)) (WrongSide side) refl,
            (variance_avoids (is_adjusted δ s.regularization) s.estimate P n x b, (test (not (all_finite n n a)) CovarianceNotFinite refl, (test (eq (trace n a) zero⁺) Singular refl, tt))),
          ),
        ),
      ),
    ),
  ),
)

-- ---- the call
-- the number of a refusal, 0 of an answer
abbrev number_of : Result Answer Refusal → ℕ
number_of (Err c) = number c
number_of (Ok a) = 0

settled_avoids : (c : Check) → Avoids c → (slice : List Float) (w : Answered) → number_of w.answer ≡ 0 → eqb (number_of (settle c slice w).answer) (number NotDecomposed) ≡ false
unfolding settle
settled_avoids passes p slice w e = ap (λ (k : ℕ). eqb k (number NotDecomposed)) e
settled_avoids (refuses c) p slice w e = p

module _ (r : List Float) (n P : ℕ) (s : Settings) (g : List Float) (side : ℕ) (slice : List Float) where
  -- where the decomposition of a given matrix, if one is made, was found
  decomposed : (is_given s.estimate ≡ true → (decomposition_of s g side).found ≡ true) → eqb (number_of (adjusted_covariance r n P s g side slice).answer) (number NotDecomposed) ≡ false
  decomposed h =
      let o = opening r n P (n * n) slice in
      let c = of_given s g side in
      let a = of_answer r n P s g side in
      rw (covariance_is r n P s g side slice)
      (settled_avoids (first (o ++ c ++ a)) (avoid_first (o ++ c ++ a) (append (o ++ c) a (append o c (opening_avoids r n P (n * n) slice) (given_avoids s.estimate s.shrinkage s.regularization s.limit g side h)) (settings_avoid s (intensity s.shrinkage P n (at r n)) P n side (at r n) (at (estimated r n P s g side) n) (at (covariances r n P s g side) n)))) slice _ refl)

  pub diagonal_not_refused : 0 < s.limit → ((i j : ℕ) → i < side → j < side → T (fits binary64 (at g side i j))) → Diagonal side (at g side) → all_finite side side (average g side) ≡ true
      → (adjusted_covariance r n P s g side slice).answer ≡ Err NotDecomposed → ⊥
  unfolding decomposition_of
  diagonal_not_refused p fit diagonal all e = subst T (sym (ap (λ (w : Result Answer Refusal). eqb (number_of w) (number NotDecomposed)) e) ∙ decomposed (λ h. found (is_given s.estimate) h)) tt
    where
      found : (b : Bool) → b ≡ true → (elim b as (λ z. Decomposition) [ true ↦ decompose_given s.limit side (average g side) | false ↦ unturned 0 true ]).found ≡ true
      found true h = given_diagonal side g fit diagonal s.limit p all
      found false h = absurd (subst T (sym h) tt)
