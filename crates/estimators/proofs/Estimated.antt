-- Laws of the adjusted covariance as the code takes it in parts: from the estimate on, from the settings on, and the call on returns of the right
-- shape. Assumes nothing.
use mathlib.Core.Path.{◌≡◌, refl, sym, ap, ◌∙◌}
use mathlib.Core.Bool.{Bool, true, not, ◌&&◌}
use mathlib.Core.List.{List, ◌++◌}
use Prim.Native.Nat.{ℕ, ◌*◌}
use borrow.Author.Tests.{eqb-true, not-false}
use lib.Dec.{eqb}
use lib.ListN.{length}
use lib.Ieee.{Float, nan}
use Rattle.std.specs.Prelude.{Result, Ok}
use Rattle.std.specs.Result.{IsErrAnd}
use Rattle.leaves.specs.Loops.{nth}
use Rattle.leaves.proofs.Loops.{tab_is}
use Rattle.matrix.specs.Matrix.{Matrix, at, rows}
use Rattle.matrix.specs.Jacobi.{Decomposition}
use Rattle.matrix.proofs.Stored.{length_rows}
use Rattle.rules.specs.Refusals.{Check, passes, refuses, first}
use Rattle.rules.specs.Given.{average}
use Rattle.rules.specs.Adjusted.{is_given, decomposition_of, base, intensity, is_adjusted, base_of, adjusted_of}
use Rattle.rules.specs.Order.{of_given, of_settings, no_variance, by_returns, by_settings, by_answer, by_estimate}
use Rattle.rules.specs.Shapes.{Shaped}
use Rattle.rules.specs.Calls.{answered, settle, adjusted_covariance}
use Rattle.rules.specs.declared.Estimate.{Estimate}
use Rattle.rules.specs.declared.Estimate.TheVariants.{Sample, Given, Weighted, Semi, SemiBelow}
use Rattle.rules.specs.declared.Settings.{Settings}
use Rattle.rules.specs.declared.Refusal.{Refusal}
use Rattle.rules.specs.declared.Answer.{Answer}
use Rattle.rules.specs.declared.Answer.TheVariants.{Covariance}
use Rattle.rules.proofs.Firsts.{head_refuses, head_passes, front_refuses, front_passes}
use Rattle.rules.proofs.Passed.{pass_cons, first_passes}
use Rattle.rules.proofs.Opened.{settle_accepted, shaped}
use Rattle.rules.proofs.AdjustedCall.{covariances, of_answer, adjusted_is}
use Rattle.means.proofs.Settled.{settle_err}
use Rattle.estimators.specs.Estimated.{finished, estimated}

-- ---- from the estimate b on

module _ (s : Settings) (δ : Float) (T n : ℕ) (x : Matrix) (b : List Float) (made : ℕ × ℕ) (slice : List Float) {adj : Bool} (ej : adj ≡ is_adjusted δ s.regularization) where
  abbrev answer : List Float
  answer = adjusted_of s δ n b

  -- the check of the estimate, as the code has it
  early : {k : Check} → k ≡ no_variance adj s.estimate T n x (at b n) → k ≡ no_variance (is_adjusted δ s.regularization) s.estimate T n x (at b n)
  early e = e ∙ ap (λ (adj : Bool). no_variance adj s.estimate T n x (at b n)) ej

  pub finished_early : (r : Result Answer Refusal) {c : Refusal} → IsErrAnd r (λ e. e ≡ c) → refuses c ≡ no_variance adj s.estimate T n x (at b n) → answered r slice ≡ finished s δ T n x made b slice
  finished_early r f e = settle_err slice _ r f (head_refuses (by_answer n (at answer n)) (early e))

  -- and those of the answer
  module _ {a : List Float} (ea : a ≡ answer) (pass : passes ≡ no_variance adj s.estimate T n x (at b n)) where
    late : {k : Check} → k ≡ first (by_answer n (at a n)) → k ≡ first (by_estimate s δ T n x (at b n) (at answer n))
    late e = e ∙ ap (λ (a : List Float). first (by_answer n (at a n))) ea ∙ head_passes (by_answer n (at answer n)) (early pass)

    pub finished_late : (r : Result Answer Refusal) {c : Refusal} → IsErrAnd r (λ e. e ≡ c) → refuses c ≡ first (by_answer n (at a n)) → answered r slice ≡ finished s δ T n x made b slice
    finished_late r f e = settle_err slice _ r f (late e)

    pub finished_accepted : {out : List Float} → passes ≡ first (by_answer n (at a n)) → out ≡ a → answered (Ok (Covariance δ made.0 made.1)) out ≡ finished s δ T n x made b slice
    finished_accepted e eo = ap (answered (Ok (Covariance δ made.0 made.1))) (eo ∙ ea) ∙ settle_accepted _ _ (late e)

-- ---- from the settings on

-- the given matrix is looked at for the given estimate alone
base_given : (e : Estimate Float) (T : ℕ) (x g g' : Matrix) → (is_given e ≡ true → g ≡ g') → base e T x g ≡ base e T x g'
unfolding base
base_given Sample T x g g' h = refl
base_given Given T x g g' h = h refl
base_given (Weighted d) T x g g' h = refl
base_given Semi T x g g' h = refl
base_given (SemiBelow t) T x g g' h = refl

module _ (s : Settings) (T n side : ℕ) (x : Matrix) (made : ℕ × ℕ) (slice : List Float) where
  -- where the settings pass, a given matrix has the returns' side
  side_is : first (by_settings s T n side x) ≡ passes → is_given s.estimate ≡ true → side ≡ n
  side_is e given =
      let wrong = (pass_cons _ _ (pass_cons _ _ (pass_cons _ _ (pass_cons _ _ (pass_cons _ _ e).1).1).1).1).1 in
      let test = first_passes (is_given s.estimate && not (eqb side n)) _ _ wrong in
      eqb-true _ _ (not-false _ (ap (λ (g : Bool). g && not (eqb side n)) (sym given) ∙ test.0))

  pub estimated_refused : (g : Matrix) (r : Result Answer Refusal) {c : Refusal} → IsErrAnd r (λ e. e ≡ c) → refuses c ≡ first (by_settings s T n side x) → answered r slice ≡ estimated s T n side x made g slice
  unfolding of_settings
  estimated_refused g r f e =
      let δ = intensity s.shrinkage T n x in
      let b = base_of s T n x g in
      settle_err slice _ r f (front_refuses (by_settings s T n side x) (by_estimate s δ T n x (at b n) (at (adjusted_of s δ n b) n)) e)

  pub estimated_accepted : {δ : Float} {b out : List Float} {k : Result Answer Refusal} → (g' : List Float) (g : Matrix) → passes ≡ first (by_settings s T n side x)
      → (is_given s.estimate ≡ true → side ≡ n → at g' n ≡ g) → δ ≡ intensity s.shrinkage T n x → b ≡ base_of s T n x (at g' n)
      → answered k out ≡ finished s δ T n x made b slice → answered k out ≡ estimated s T n side x made g slice
  unfolding of_settings
  estimated_accepted {b = b'} g' g pass same eδ eb e =
      let δ = intensity s.shrinkage T n x in
      let b = base_of s T n x g in
      let a = adjusted_of s δ n b in
      let is_b = eb ∙ ap (rows n n) (base_given s.estimate T x (at g' n) g (λ given. same given (side_is (sym pass) given))) in
      e ∙ ap (λ (δ : Float). finished s δ T n x made b' slice) eδ ∙ ap (λ (b : List Float). finished s δ T n x made b slice) is_b
      ∙ ap (λ (k : Check). settle k slice (answered (Ok (Covariance δ made.0 made.1)) a)) (front_passes (by_settings s T n side x) (by_estimate s δ T n x (at b n) (at a n)) pass)

-- ---- the call

module _ (r : List Float) (n T : ℕ) (s : Settings) (given : List Float) (side : ℕ) (slice : List Float) (shape : Shaped (length r) n T) (long : length slice ≡ n * n) where
  abbrev x : Matrix
  x = at r n

  abbrev d : Decomposition
  d = decomposition_of s given side

  abbrev δ : Float
  δ = intensity s.shrinkage T n x

  abbrev a : List Float
  a = covariances r n T s given side

  abbrev later : List Check
  later = of_answer r n T s given side

  -- the answer, by the first check that refuses
  whole : {k : Check} → k ≡ first (by_returns T n x ++ of_given s given side ++ later) → settle k slice (answered (Ok (Covariance δ d.sweeps d.rotations)) a) ≡ adjusted_covariance r n T s given side slice
  whole {k} e =
      ap (λ (l : List Float). settle k slice (answered (Ok (Covariance δ d.sweeps d.rotations)) l)) (tab_is nan a (n * n) (nth a) (length_rows _ n n) (λ k h. refl))
      ∙ shaped r n T (n * n) slice (of_given s given side ++ later) (Ok (Covariance δ d.sweeps d.rotations)) (nth a) shape long e ∙ sym (adjusted_is r n T s given side slice)

  pub returns_refuse : (q : Result Answer Refusal) {c : Refusal} → IsErrAnd q (λ e. e ≡ c) → refuses c ≡ first (by_returns T n x) → answered q slice ≡ adjusted_covariance r n T s given side slice
  returns_refuse q f e = settle_err slice _ q f (front_refuses (by_returns T n x) (of_given s given side ++ later) e) ∙ whole refl

  -- the given matrix is looked at after the returns
  module _ (pass : passes ≡ first (by_returns T n x)) where
    next : {k : Check} → k ≡ first (of_given s given side ++ later) → k ≡ first (by_returns T n x ++ of_given s given side ++ later)
    next e = e ∙ front_passes (by_returns T n x) (of_given s given side ++ later) pass

    pub given_refuses : (q : Result Answer Refusal) {c : Refusal} → IsErrAnd q (λ e. e ≡ c) → refuses c ≡ first (of_given s given side) → answered q slice ≡ adjusted_covariance r n T s given side slice
    given_refuses q f e = settle_err slice _ q f (next (front_refuses (of_given s given side) later e)) ∙ whole refl

    pub given_passes : {k : Result Answer Refusal} {out : List Float} {made : ℕ × ℕ} → (passes ≡ first (of_given s given side)) × (made ≡ (d.sweeps, d.rotations))
        → answered k out ≡ estimated s T n side x made (average given side) slice → answered k out ≡ adjusted_covariance r n T s given side slice
    given_passes (e, em) h = h ∙ ap (λ (made : ℕ × ℕ). estimated s T n side x made (average given side) slice) em ∙ whole (next (front_passes (of_given s given side) later e))
