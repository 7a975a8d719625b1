-- The adjusted covariance. The estimate, the shrinking and the regularizing are scaled exactly; the intensity is the same, fixed or Ledoit-Wolf's; a given matrix is decomposed alike. So the checks
-- agree one after another, and where all pass every entry is 2 ^ (2k) times the other's. Assumes nothing.
use mathlib.Core.Path.{◌≡◌, refl, sym, ap, ap₂, ◌∙◌, subst, subst₂}
use mathlib.Core.Logic.{◌⊎◌, inl, inr}
use Prim.Native.Nat.{ℕ, ◌+◌, ◌*◌, ◌≤◌, ◌<◌}
use native.Mathlib.Omega.{arith}
use mathlib.Core.Bool.{Bool, true, false, not, cond, ◌&&◌, and-eq-true_iff}
use mathlib.Core.Option.{none}
use mathlib.Core.List.{List, [], ◌∷◌, ◌++◌, map}
use lib.Dec.{eqb, lit≤}
use lib.IntN.{pos}
use lib.ListN.{length}
use lib.Ieee.{Float, nan, binary64, fits, le, eq}
use Rattle.leaves.specs.Numbers.{zero⁺, one, is_finite}
use Rattle.leaves.specs.Loops.{fill, nth}
use Rattle.leaves.specs.Root.{sqrt}
use Rattle.leaves.specs.Shift.{shift}
use Rattle.leaves.proofs.First.{first_all}
use Rattle.leaves.proofs.Shift.{is_finite_shift, eq_shift, shift_zero⁺}
use Rattle.leaves.proofs.Units.{sign}
use Rattle.leaves.proofs.Bounds.{zero_bounded}
use Rattle.leaves.proofs.Operations.{moved_within}
use Rattle.leaves.proofs.Signs.{sign_not_below}
use Rattle.leaves.proofs.SqrtNearest.{moved_sqrt}
use Rattle.leaves.proofs.Zero.{no}
use Rattle.matrix.specs.Matrix.{Matrix, at, rows, trace, all_finite}
use Rattle.matrix.specs.Jacobi.{Decomposition}
use Rattle.matrix.proofs.Stored.{entry_at, rows_at, by_cell}
use Rattle.matrix.proofs.Alike.{finite_same}
use Rattle.matrix.proofs.Finite.{finite_all}
use Rattle.rules.specs.Refusals.{Check, passes, when, first}
use Rattle.rules.specs.Sample.{covariance, largest, constant_asset, volatility, is_constant}
use Rattle.rules.specs.Given.{average}
use Rattle.rules.specs.LedoitWolf.{constant_correlation, ledoit_wolf}
use Rattle.rules.specs.Adjusted.{is_sample, is_given, decomposition_of, base, intensity, shrunk, regularized, is_adjusted, base_of}
use Rattle.rules.specs.Adjusted as Spec
use Rattle.rules.specs.Order.{opening, bad_regularization, bad_shrinkage, bad_estimate, not_the_sample, no_correlation, no_variance, of_given, of_settings, ledoit_wolf_order, by_answer}
use Rattle.rules.specs.Calls.{answered, settle, ledoit_wolf_intensity}
use Rattle.rules.specs.Settings.{settings}
use Rattle.rules.specs.declared.Estimate.{Estimate}
use Rattle.rules.specs.declared.Target.{Target}
use Rattle.rules.specs.declared.Target.TheVariants.{ConstantVariance, ConstantCorrelation}
use Rattle.rules.specs.declared.Shrinkage.{Shrinkage}
use Rattle.rules.specs.declared.Shrinkage.TheVariants.{Unshrunk, Fixed, LedoitWolf}
use Rattle.rules.specs.declared.Regularization.{Regularization}
use Rattle.rules.specs.declared.Field.TheVariants.{ShrinkageField}
use Rattle.rules.specs.declared.Refusal.TheVariants.{BadSetting, CovarianceNotFinite, NotTheSample, ZeroVariance, WrongSide, Singular}
use Rattle.rules.specs.declared.Answer.{Answer}
use Rattle.rules.specs.declared.Answer.TheVariants.{Covariance, Intensity}
use Rattle.rules.specs.declared.Refusal.{Refusal}
use Rattle.std.specs.Prelude.{Result, Ok}
use Rattle.rules.proofs.AdjustedCall.{adjusted_is}
use Rattle.law.specs.Law.{All, Sized, AtLeast, answer_parts, Alike, ask, EstimateInRange, ShrinkageInRange, CopiedEstimate, max_power, return_range, covariance_range, intensity_range, parts}
use Rattle.law.specs.Law as Law
use Rattle.law.proofs.Ranges.{intensity_bounds, shrunk_bounds}
use Rattle.law.proofs.Numbers.{times_itself, filled_alike}
use Rattle.law.proofs.Chain.{Chain, ends, pass_must, pass_some, chain_same, chain_test, chain_must, chain_map, chain_append, chained, settled}
use Rattle.law.proofs.Sizes.{unit_range, clamped_range}
use Rattle.law.proofs.Comparisons.{le_not_lt}
use Rattle.law.proofs.Sample.{Sampled}
use Rattle.law.proofs.Constant.{tolerance_moved, sign_variance, sign_largest, above_zero}
use Rattle.law.proofs.Matrices.{trace_moved, rows_moved}
use Rattle.law.proofs.Opening.{Shape, returns, sample_moved, opening_chain}
use Rattle.law.proofs.LedoitWolf.{ledoit_wolf_same, correlation_same, ledoit_wolf_cases}
use Rattle.law.proofs.Correlation.{target_moved, Targeted}
use Rattle.law.proofs.Shrinkage.{Estimated, Shrunken, Adjusted, correlation_mixed, variance_mixed, nan_mixed, Regularized}
use Rattle.law.proofs.Shrinkage as Shrinkages
use Rattle.law.proofs.Estimates.{Based, estimate_chain}

-- ---- the intensity: a number of the granted size, or NaN from Ledoit and Wolf
abbrev Known : Shrinkage Float → Float → Type 0
Known S δ = ((δ ≡ nan) × (S ≡ Unshrunk → ⊥)) ⊎ Shrinkages.Intensity δ

module _ (r : List Float) (n P : ℕ) (opens : (ds : List Check) → first (opening r n P 0 [] ++ ds) ≡ first ds) where
  -- where the adjustment gets as far as the intensity, the call for it does not refuse
  answers : (F : Target) → no_correlation (LedoitWolf F) P n (at r n) ≡ passes → ledoit_wolf_intensity r n P F ≡ Ok (Intensity (ledoit_wolf F P n (at r n)))
  unfolding ledoit_wolf_intensity ledoit_wolf_order settle first
  answers F e = ap (λ (c : Check). (settle c [] (answered (Ok (Intensity (ledoit_wolf F P n (at r n)))) [])).answer) (opens (no_correlation (LedoitWolf F) P n (at r n) ∷ []) ∙ ap (λ (c : Check). first (c ∷ [])) e)

  ledoit_wolf_known : (F : Target) → AtLeast intensity_range (ledoit_wolf F P n (at r n)) → (ledoit_wolf F P n (at r n) ≡ nan) ⊎ Shrinkages.Intensity (ledoit_wolf F P n (at r n))
  ledoit_wolf_known F = ledoit_wolf_cases (λ z. AtLeast intensity_range z → (z ≡ nan) ⊎ Shrinkages.Intensity z) F P n (at r n) (λ a. inr (zero_bounded intensity_bounds)) (clamped_range intensity_range (lit≤ tt))

  not_unshrunk : {F : Target} → ◌≡◌ {A = Shrinkage Float} (LedoitWolf F) Unshrunk → ⊥
  not_unshrunk e = let z : true ≡ false = cc in subst lib.Dec.T z tt

  intensity_known : (S : Shrinkage Float) (E : Estimate Float) → ShrinkageInRange S (is_sample E) r n P → bad_shrinkage S ≡ passes → not_the_sample S E ≡ passes → no_correlation S P n (at r n) ≡ passes → Known S (intensity S P n (at r n))
  unfolding intensity bad_shrinkage not_the_sample
  intensity_known Unshrunk E q a b c = inr (zero_bounded intensity_bounds)
  intensity_known (Fixed δ) E q a b c = inr (fixed δ q.0 q.1 ((and-eq-true_iff (le zero⁺ δ) (le δ one)).0 (pass_must (le zero⁺ δ && le δ one) (BadSetting ShrinkageField) a)))
    where
      fixed : (δ : Float) → lib.Dec.T (fits binary64 δ) → AtLeast intensity_range δ → (le zero⁺ δ ≡ true) × (le δ one ≡ true) → Shrinkages.Intensity δ
      fixed δ t a e = elim (unit_range intensity_range (lit≤ tt) δ t a (le_not_lt zero⁺ δ e.0) (le_not_lt δ one e.1)) [ inl z ↦ no (sym (ap (le zero⁺) z) ∙ e.0) (unfold le in refl) | inr q ↦ q ]
  intensity_known (LedoitWolf F) E q a b c =
      let e : is_sample E ≡ true = pass_must (is_sample E) NotTheSample b in
      let l : All (AtLeast intensity_range) (ledoit_wolf F P n (at r n) ∷ []) = subst (λ (w : Result Answer Refusal). All (AtLeast intensity_range) (answer_parts n w []).intensity) (answers F c) (subst (λ (z : Bool). All (AtLeast intensity_range) (cond z (answer_parts n (ledoit_wolf_intensity r n P F) []).intensity [])) e q) in
      elim (ledoit_wolf_known F l.0) [ inl z ↦ inl (z, λ w. not_unshrunk w) | inr i ↦ inr i ]

-- ---- the checks of the settings, and the adjusted matrix
module _ (k : ℕ) (small : k ≤ max_power) (r : List Float) (sizes : All (Sized return_range) r) (n P : ℕ) (s : Shape r n P) (side limit : ℕ) (S : Shrinkage Float) (H H' : Regularization Float) (h : Regularized (k + k) H H') (E E' : Estimate Float) (G G' : Matrix)
    (e : Based k n P side E E' (at r n) (at (map (shift (pos k)) r) n) G G') (δ : Float)
    (known : bad_shrinkage S ≡ passes → not_the_sample S E ≡ passes → no_correlation S P n (at r n) ≡ passes → Known S δ) where
  abbrev x : Matrix
  x = at r n

  abbrev y : Matrix
  y = at (map (shift (pos k)) r) n

  abbrev b : Matrix
  b = at (rows n n (base E P (at r n) G)) n

  abbrev b' : Matrix
  b' = at (rows n n (base E' P (at (map (shift (pos k)) r) n) G')) n

  double : k + k ≤ max_power + max_power
  double = omega arith

  -- the estimate
  module _ (e₃ : bad_estimate E ≡ passes) (e₆ : (is_given E && not (eqb side n)) ≡ false) where
    estimated : (i j : ℕ) → i < n → j < n → Estimated (k + k) (b i j) (b' i j)
    estimated = rows_moved n n (base E P x G) (base E' P y G') (e.entries e₃ e₆)

    -- constant correlation needs the sample, and variances above zero
    correlated : is_sample E ≡ true → constant_asset n (covariance P x) (largest P x) ≡ none → (i j : ℕ) → i < n → j < n → Targeted (k + k) (constant_correlation n b i j) (constant_correlation n b' i j)
    unfolding constant_asset
    correlated q nothing =
        let is : (i j : ℕ) → i < n → j < n → b i j ≡ covariance P x i j = λ i j l m. rows_at (base E P x G) n n i j l m ∙ (e.sampled q i j).0 in
        let is' : (i j : ℕ) → i < n → j < n → b' i j ≡ covariance P y i j = λ i j l m. rows_at (base E' P y G') n n i j l m ∙ (e.sampled q i j).1 in
        let moved : (i j : ℕ) → i < n → j < n → Sampled (k + k) (b i j) (b' i j) = λ i j l m. subst₂ (Sampled (k + k)) (sym (is i j l m)) (sym (is' i j l m)) (sample_moved k small r sizes n P s i j l m) in
        let plus : (i : ℕ) → i < n → sign (b i i) ≡ false = λ i l. ap sign (is i i l l) ∙ sign_variance P x i in
        target_moved k n small s.0 s.1 b b' moved plus
        (λ i l. above_zero (b i i) (largest P x i) (moved_sqrt (moved i i l l) (sign_not_below (b i i) (plus i l))).range
        (tolerance_moved (returns k small r sizes n P s) (lit≤ tt) (omega arith) i l).range (plus i l) (sign_largest P x i)
        (ap (λ (v : Float). is_constant (sqrt v) (largest P x i)) (is i i l l) ∙ first_all (λ i. is_constant (volatility (covariance P x) i) (largest P x i)) n nothing i l))

    shrunk_moved : (S : Shrinkage Float) → Shrinkages.Intensity δ → not_the_sample S E ≡ passes → no_correlation S P n (at r n) ≡ passes → (i j : ℕ) → i < n → j < n → Shrunken (k + k) (shrunk S δ n b i j) (shrunk S δ n b' i j)
    unfolding shrunk not_the_sample no_correlation
    shrunk_moved Unshrunk d e₄ e₅ i j l m = moved_within shrunk_bounds tt (estimated i j l m)
    shrunk_moved (Fixed f) d e₄ e₅ i j l m = variance_mixed (k + k) double δ d n b b' i j s.0 s.1 estimated l m
    shrunk_moved (LedoitWolf ConstantVariance) d e₄ e₅ i j l m = variance_mixed (k + k) double δ d n b b' i j s.0 s.1 estimated l m
    shrunk_moved (LedoitWolf ConstantCorrelation) d e₄ e₅ i j l m = correlation_mixed (k + k) double δ d n b b' i j (correlated (pass_must (is_sample E) NotTheSample e₄) (pass_some (constant_asset n (covariance P x) (largest P x)) ZeroVariance e₅) i j l m) (estimated i j l m)

  shrunk_nan : (S : Shrinkage Float) → (S ≡ Unshrunk → ⊥) → (m : Matrix) (i j : ℕ) → shrunk S nan n m i j ≡ nan
  unfolding shrunk
  shrunk_nan Unshrunk u m i j = absurd (u refl)
  shrunk_nan (Fixed f) u m i j = nan_mixed ConstantVariance n m i j
  shrunk_nan (LedoitWolf F) u m i j = nan_mixed F n m i j

  abbrev a : Matrix
  a = at (rows n n (regularized H (shrunk S δ n b))) n

  abbrev a' : Matrix
  a' = at (rows n n (regularized H' (shrunk S δ n b'))) n

  abbrev Done : Type 0
  Done = (i j : ℕ) → i < n → j < n → Adjusted (k + k) (a i j) (a' i j)

  correlation_alike : (S : Shrinkage Float) → no_correlation S P n (at (map (shift (pos k)) r) n) ≡ no_correlation S P n (at r n)
  correlation_alike Unshrunk = unfold no_correlation in refl
  correlation_alike (Fixed f) = unfold no_correlation in refl
  correlation_alike (LedoitWolf F) = correlation_same k small r sizes n P F s

  sample_alike : (S : Shrinkage Float) → not_the_sample S E' ≡ not_the_sample S E
  unfolding not_the_sample
  sample_alike Unshrunk = refl
  sample_alike (Fixed f) = refl
  sample_alike (LedoitWolf F) = ap (λ (z : Bool). when (not z) NotTheSample) e.sample

  variance_alike : bad_estimate E ≡ passes → (is_given E && not (eqb side n)) ≡ false → no_variance (is_adjusted δ H') E' P n y b' ≡ no_variance (is_adjusted δ H) E P n x b
  variance_alike e₃ e₆ = ap (λ (z : Bool). no_variance z E' P n y b') (h.adjusts δ) ∙ either (is_adjusted δ H)
    where
      either : (z : Bool) → no_variance z E' P n y b' ≡ no_variance z E P n x b
      either true = unfold no_variance in refl
      either false = e.variance b b' (λ i l. (estimated e₃ e₆ i i l l).copy)

  last_checks : bad_estimate E ≡ passes → (is_given E && not (eqb side n)) ≡ false → not_the_sample S E ≡ passes → no_correlation S P n (at r n) ≡ passes → Known S δ
      → Chain Done (by_answer n a) (by_answer n a')
  last_checks e₃ e₆ e₄ e₅ (inr d) =
      let moved : Done = rows_moved n n (regularized H (shrunk S δ n b)) (regularized H' (shrunk S δ n b')) (λ i j l m. h.entries (shrunk S δ n b) (shrunk S δ n b') i j (shrunk_moved e₃ e₆ S d e₄ e₅ i j l m)) in
      let t = trace_moved n a a' s.1 (omega arith) (λ i l. moved i i l l) in
      chain_must (all_finite n n a) CovarianceNotFinite (finite_same n n a' a (λ i j l m. ap is_finite (moved i j l m).copy ∙ is_finite_shift (pos (k + k)) (a i j))) (λ e₈.
      chain_test (eq (trace n a) zero⁺) Singular (ap₂ eq t.copy (sym (shift_zero⁺ (pos (k + k)))) ∙ eq_shift (pos (k + k)) (trace n a) zero⁺) (λ e₉. ends moved))
  last_checks e₃ e₆ e₄ e₅ (inl q) =
      let void : (m : Matrix) (i j : ℕ) → shrunk S δ n m i j ≡ nan = λ m i j. ap (λ (z : Float). shrunk S z n m i j) q.0 ∙ shrunk_nan S q.1 m i j in
      let f : (i j : ℕ) → i < n → j < n → a i j ≡ nan = λ i j l m. rows_at (regularized H (shrunk S δ n b)) n n i j l m ∙ (h.nans (shrunk S δ n b) i j (void b i j)).0 in
      let f' : (i j : ℕ) → i < n → j < n → a' i j ≡ nan = λ i j l m. rows_at (regularized H' (shrunk S δ n b')) n n i j l m ∙ (h.nans (shrunk S δ n b') i j (void b' i j)).1 in
      chain_must (all_finite n n a) CovarianceNotFinite (finite_same n n a' a (λ i j l m. ap is_finite (f' i j l m ∙ sym (f i j l m)))) (λ e₈.
      no (sym (ap is_finite (f 0 0 s.0 s.0)) ∙ finite_all n n a e₈ 0 0 s.0 s.0) (unfold is_finite in refl))

  settings_chain : Chain Done (of_settings (settings E S H limit) δ P n side x b a) (of_settings (settings E' S H' limit) δ P n side y b' a')
  unfolding of_settings
  settings_chain =
      chain_same (bad_regularization H) h.bad (λ e₁.
      chain_same (bad_shrinkage S) refl (λ e₂.
      chain_same (bad_estimate E) e.bad (λ e₃.
      chain_same (not_the_sample S E) (sample_alike S) (λ e₄.
      chain_same (no_correlation S P n x) (correlation_alike S) (λ e₅.
      chain_test (is_given E && not (eqb side n)) (WrongSide side) (ap (λ (z : Bool). z && not (eqb side n)) e.given) (λ e₆.
      chain_same (no_variance (is_adjusted δ H) E P n x b) (variance_alike e₃ e₆) (λ e₇.
      last_checks e₃ e₆ e₄ e₅ (known e₂ e₄ e₅))))))))

-- ---- the call
pub record Outcome (k n : ℕ) (δ δ' : Float) (d d' : Decomposition) (a a' : Matrix) : Type 0 where
  pub intensity : δ' ≡ δ
  pub decomposition : d' ≡ d
  pub entries : (i j : ℕ) → i < n → j < n → Adjusted (k + k) (a i j) (a' i j)

module _ (k : ℕ) (small : k ≤ max_power) (r : List Float) (sizes : All (Sized return_range) r) (n P side limit : ℕ) (S : Shrinkage Float) (H H' : Regularization Float) (h : Regularized (k + k) H H') (E E' : Estimate Float) (g g' : List Float)
    (copied : CopiedEstimate (pos k) E E') (q : EstimateInRange P E) (q' : EstimateInRange P E') (given : is_given E ≡ true → All (Sized covariance_range) g × (g' ≡ map (shift (pos (k + k))) g)) (shrinks : ShrinkageInRange S (is_sample E) r n P) where
  abbrev r' : List Float
  r' = map (shift (pos k)) r

  abbrev δ : List Float → Float
  δ r = intensity S P n (at r n)

  abbrev d : Estimate Float → Regularization Float → List Float → Decomposition
  d E H g = decomposition_of (settings E S H limit) g side

  abbrev estimate : Estimate Float → List Float → List Float → List Float
  estimate E r g = base_of (settings E S H limit) P n (at r n) (average g side)

  abbrev adjusted : Float → Estimate Float → Regularization Float → List Float → List Float → List Float
  adjusted δ E H r g = rows n n (regularized H (shrunk S δ n (at (estimate E r g) n)))

  abbrev asked : Float → Estimate Float → Regularization Float → List Float → List Float → List Check
  asked δ E H r g = of_settings (settings E S H limit) δ P n side (at r n) (at (estimate E r g) n) (at (adjusted δ E H r g) n)

  intensity_same : Shape r n P → δ r' ≡ δ r
  intensity_same s = go S
    where
      go : (S : Shrinkage Float) → intensity S P n (at (map (shift (pos k)) r) n) ≡ intensity S P n (at r n)
      go Unshrunk = unfold intensity in refl
      go (Fixed f) = unfold intensity in refl
      go (LedoitWolf F) = unfold intensity in ledoit_wolf_same F small (returns k small r sizes n P s)

  order : (slice slice' : List Float) → length slice' ≡ length slice
      → Chain (Outcome k n (δ r) (δ r') (d E H g) (d E' H' g') (at (adjusted (δ r) E H r g) n) (at (adjusted (δ r') E' H' r' g') n))
      (opening r n P (n * n) slice ++ of_given (settings E S H limit) g side ++ asked (δ r) E H r g)
      (opening r' n P (n * n) slice' ++ of_given (settings E' S H' limit) g' side ++ asked (δ r') E' H' r' g')
  order slice slice' e =
      chain_append (opening_chain k small r sizes n P (n * n) slice slice' e (λ s opens.
      estimate_chain k small r sizes n P s side limit S H H' E E' g g' copied q q' given (λ based same.
      subst (λ (z : Float). Chain (Outcome k n (δ r) z (d E H g) (d E' H' g') (at (adjusted (δ r) E H r g) n) (at (adjusted z E' H' r' g') n)) (asked (δ r) E H r g) (asked z E' H' r' g')) (sym (intensity_same s))
      (chain_map (λ moved. record { intensity = refl; decomposition = same; entries = moved })
      (settings_chain k small r sizes n P s side limit S H H' h E E' (average g side) (average g' side) based (δ r) (intensity_known r n P opens S E shrinks))))))

  pub covariance_law : (slice slice' : List Float) → length slice' ≡ length slice
      → Alike (pos k) (parts n (ask r n P (Law.adjusted (settings E S H limit) g side) slice)) (parts n (ask r' n P (Law.adjusted (settings E' S H' limit) g' side) slice'))
  unfolding Spec.adjusted opening
  covariance_law slice slice' e =
      let a = adjusted (δ r) E H r g in
      let a' = adjusted (δ r') E' H' r' g' in
      let w = answered (Ok (Covariance (δ r) (d E H g).sweeps (d E H g).rotations)) (fill (n * n) (nth a) slice) in
      let w' = answered (Ok (Covariance (δ r') (d E' H' g').sweeps (d E' H' g').rotations)) (fill (n * n) (nth a') slice') in
      rw (adjusted_is r n P (settings E S H limit) g side slice, adjusted_is r' n P (settings E' S H' limit) g' side slice')
      (settled (chained (order slice slice' e)) (pos k) n slice slice' w w'
      (λ p p' o. record {
        refusal = refl;
        entries = filled_alike (k + k) (n * n) (nth a) (nth a') slice slice' (λ c l.
            let m = by_cell n n (λ i j. Adjusted (k + k) (at a n i j) (at a' n i j)) o.entries c l in
            subst₂ (λ (u v : Float). lib.Dec.T (fits binary64 u) × (v ≡ shift (pos (k + k)) u)) (entry_at a n c) (entry_at a' n c) (m.range.fit, m.copy));
        means_and_target = tt;
        intensity = (rw o.intensity (times_itself (δ r)), tt);
        sweeps_and_rotations = ap (λ (z : Decomposition). z.sweeps ∷ z.rotations ∷ []) (sym o.decomposition);
      }))
