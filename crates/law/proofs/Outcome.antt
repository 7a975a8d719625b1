-- Document 01, "Records", "Causes" and demand 1, of the five calls over all inputs: a refusal leaves the answer slice as it was, numbers past the answer keep their value, and an adjusted
-- covariance that is accepted is finite in every entry and has a trace other than 0. Assumes nothing.
use mathlib.Core.Path.{◌≡◌, refl, ap, ◌∙◌, subst}
use Prim.Native.Nat.{ℕ, ◌+◌, ◌*◌, ◌≤◌, ◌<◌}
use mathlib.Core.Bool.{true, false, not}
use mathlib.Core.List.{List, [], ◌∷◌, ◌++◌}
use lib.Arith.{digits_lt}
use lib.Dec.{T}
use lib.ListN.{length, drop}
use lib.Seq.{drop_at}
use lib.Ieee.{Float, nan, eq}
use Rattle.leaves.specs.Numbers.{zero⁺, is_finite}
use Rattle.leaves.specs.Loops.{tab, fill, nth}
use Rattle.leaves.proofs.Loops.{length_tab}
use Rattle.leaves.proofs.Fill.{fill_at}
use Rattle.matrix.specs.Matrix.{Matrix, at, trace, all_finite}
use Rattle.matrix.specs.Jacobi.{Decomposition}
use Rattle.matrix.proofs.Alike.{trace_alike}
use Rattle.matrix.proofs.Finite.{finite_all}
use Rattle.rules.specs.Refusals.{Check, passes, refuses, when, first}
use Rattle.rules.specs.Adjusted.{decomposition_of, intensity, is_adjusted}
use Rattle.rules.specs.Order.{opening, of_given, no_variance, by_settings, by_answer, by_estimate, of_settings, weighted_order, james_stein_order, bayes_stein_order}
use Rattle.rules.specs.Calls.{Answered, answered, settle, adjusted_covariance, exponentially_weighted_mean, james_stein_mean, bayes_stein_mean}
use Rattle.rules.specs.declared.Settings.{Settings}
use Rattle.rules.specs.declared.Refusal.{Refusal}
use Rattle.rules.specs.declared.Refusal.TheVariants.{CovarianceNotFinite, Singular}
use Rattle.rules.specs.declared.Answer.{Answer}
use Rattle.rules.specs.declared.Answer.TheVariants.{Covariance}
use Rattle.std.specs.Prelude.{is_ok, Ok, Err}
use Rattle.rules.proofs.Passed.{pass_test, pass_cons}
use Rattle.rules.proofs.Opened.{answer_of, settle_length}
use Rattle.rules.proofs.AdjustedCall.{estimated, covariances, of_answer}
use Rattle.law.specs.Law as Law
use Rattle.law.specs.Law.{Question, ask}
use Rattle.law.proofs.Calls.{covariance_is}
use Rattle.law.proofs.Chain.{pass_must}
use Rattle.law.proofs.Passing.{pass_append, pass_opening, Accepted}

-- ---- the answer slice
pub record Kept (needed : ℕ) (old : List Float) (w : Answered) : Type 0 where
  -- "Each leaves the answer slice as it was"
  pub refused : (c : Refusal) → w.answer ≡ Err c → w.slice ≡ old
  -- "later numbers keep their value"
  pub later : drop needed w.slice ≡ drop needed old
  pub long : length w.slice ≡ length old

settle_kept : (needed : ℕ) (old : List Float) (A : Answer) (f : ℕ → Float) (c : Check) → (c ≡ passes → needed ≤ length old) → Kept needed old (settle c old (answered (Ok A) (fill needed f old)))
unfolding settle
settle_kept needed old A f k room = record { refused = (left k).0; later = (left k).1; long = settle_length k (Ok A) needed f old room }
  where
    left : (k : Check) → let w = settle k old (answered (Ok A) (fill needed f old)) in ((c : Refusal) → w.answer ≡ Err c → w.slice ≡ old) × (drop needed w.slice ≡ drop needed old)
    left passes = (λ c e. absurd (subst (λ w. T (is_ok w)) e tt), unfold fill in drop_at (tab needed f) (drop needed old) needed (length_tab f needed))
    left (refuses c) = (λ c e. refl, refl)

-- whatever is checked after the opening
opened_kept : (r : List Float) (n P needed : ℕ) (old : List Float) (A : Answer) (f : ℕ → Float) (cs : List Check)
    → Kept needed old (answer_of r n P needed cs (Ok A) f old)
opened_kept r n P needed old A f cs =
    settle_kept needed old A f (first (opening r n P needed old ++ cs)) (λ h. (pass_opening r n P needed old (pass_append (opening r n P needed old) cs h).0).1)

-- how many numbers of the slice an answer fills
abbrev pub needed : ℕ → Question → ℕ
needed n (Law.adjusted s given side) = n * n
needed n (Law.intensity F) = 0
needed n (Law.weighted_mean decay) = n
needed n (Law.james_stein limit) = n
needed n (Law.bayes_stein limit) = n

pub kept : (r : List Float) (n P : ℕ) (q : Question) (old : List Float) → Kept (needed n q) old (ask r n P q old)
unfolding exponentially_weighted_mean weighted_order james_stein_mean james_stein_order bayes_stein_mean bayes_stein_order
kept r n P (Law.adjusted s given side) old =
    let o = opening r n P (n * n) old in
    let g = of_given s given side in
    rw (covariance_is r n P s given side old)
    (settle_kept (n * n) old _ _ (first (o ++ g ++ of_answer r n P s given side)) (λ h. (pass_opening r n P (n * n) old (pass_append o g (pass_append (o ++ g) (of_answer r n P s given side) h).0).0).1))
kept r n P (Law.intensity F) old = record { refused = λ c e. refl; later = refl; long = refl }
kept r n P (Law.weighted_mean decay) old = opened_kept r n P n old _ _ _
kept r n P (Law.james_stein limit) old = opened_kept r n P n old _ _ _
kept r n P (Law.bayes_stein limit) old = opened_kept r n P n old _ _ _

-- ---- an accepted covariance can be used
pub record Usable (n : ℕ) (x : List Float) : Type 0 where
  pub finite : (i j : ℕ) → i < n → j < n → is_finite (at x n i j) ≡ true
  pub traced : eq (trace n (at x n)) zero⁺ ≡ false

last_checks : (s : Settings) (δ : Float) (P n side : ℕ) (x b a : Matrix) → first (of_settings s δ P n side x b a) ≡ passes → (all_finite n n a ≡ true) × (eq (trace n a) zero⁺ ≡ false)
unfolding of_settings
last_checks s δ P n side x b a h =
    let own = (pass_append (by_settings s P n side x) (by_estimate s δ P n x b a) h).1 in
    let answer = (pass_cons (no_variance (is_adjusted δ s.regularization) s.estimate P n x b) (by_answer n a) own).1 in
    let finite = pass_cons (when (not (all_finite n n a)) CovarianceNotFinite) (when (eq (trace n a) zero⁺) Singular ∷ []) answer in
    (pass_must (all_finite n n a) CovarianceNotFinite finite.0, pass_test (eq (trace n a) zero⁺) Singular (pass_cons (when (eq (trace n a) zero⁺) Singular) [] finite.1).0)

usable : (n : ℕ) (a old : List Float) → all_finite n n (at a n) ≡ true → eq (trace n (at a n)) zero⁺ ≡ false → Usable n (fill (n * n) (nth a) old)
usable n a old f t =
    let entry : (i j : ℕ) → i < n → j < n → at (fill (n * n) (nth a) old) n i j ≡ at a n i j = λ i j k l. fill_at (nth a) (n * n) old (i * n + j) nan (digits_lt k l) in
    record {
      finite = λ i j k l. ap is_finite (entry i j k l) ∙ finite_all n n (at a n) f i j k l;
      traced = ap (λ (z : Float). eq z zero⁺) (trace_alike n (at (fill (n * n) (nth a) old) n) (at a n) entry) ∙ t;
    }

pub accepted_covariance : (r : List Float) (n P : ℕ) (s : Settings) (given : List Float) (side : ℕ) (old : List Float)
    → Accepted (adjusted_covariance r n P s given side old) → Usable n (adjusted_covariance r n P s given side old).slice
unfolding settle
accepted_covariance r n P s given side old = rw (covariance_is r n P s given side old) (λ h. go (first (opening r n P (n * n) old ++ of_given s given side ++ of_answer r n P s given side)) refl h)
  where
    d : Decomposition
    d = decomposition_of s given side

    a : List Float
    a = covariances r n P s given side

    go : (c : Check) → first (opening r n P (n * n) old ++ of_given s given side ++ of_answer r n P s given side) ≡ c
        → Accepted (settle c old (answered (Ok (Covariance (intensity s.shrinkage P n (at r n)) d.sweeps d.rotations)) (fill (n * n) (nth a) old)))
        → Usable n (settle c old (answered (Ok (Covariance (intensity s.shrinkage P n (at r n)) d.sweeps d.rotations)) (fill (n * n) (nth a) old))).slice
    go (refuses c) e h = absurd (h c refl)
    go passes e h =
        let q = (pass_append (opening r n P (n * n) old ++ of_given s given side) (of_answer r n P s given side) e).1 in
        let t = last_checks s (intensity s.shrinkage P n (at r n)) P n side (at r n) (at (estimated r n P s given side) n) (at a n) q in
        usable n a old t.0 t.1
