-- Laws of `specs/Inner.antt`: the bodies that the code holds, kind by kind, are those of the question. Assumes nothing.
use mathlib.Core.Path.{◌≡◌, refl, sym, ap, ◌∙◌}
use mathlib.Core.Bool.{cond}
use mathlib.Core.List.{List, [], ◌∷◌, ◌++◌, map}
use Prim.Native.Nat.{ℕ, zero, suc, ◌+◌, ◌*◌, ◌^◌, ◌≤◌, ◌<◌}
use native.Mathlib.Nat.{not-suc-le-zero, le_of_suc-le-suc}
use native.Mathlib.Omega.{arith}
use lib.ListN.{length, get_or, drop}
use lib.Dec.{eqb}
use borrow.Author.Tests.{eq-eqb, ne_eqb}
use Rattle.rules.specs.declared.Target.TheVariants.{ConstantVariance, ConstantCorrelation}
use Rattle.paper.specs.declared.kinds.Kind.{Kind}
use Rattle.rules.specs.declared.Estimate.{Estimate}
use Rattle.rules.specs.declared.Decay.TheVariants.{HalfLife, Lambda}
use Rattle.rules.specs.declared.Estimate.TheVariants.{Sample, Given, Weighted, Semi, SemiBelow}
use Rattle.rules.specs.declared.Shrinkage.{Shrinkage}
use Rattle.rules.specs.declared.Shrinkage.TheVariants.{Unshrunk, Fixed, LedoitWolf}
use Rattle.rules.specs.declared.Regularization.{Regularization}
use Rattle.rules.specs.declared.Regularization.TheVariants.{Unregularized, Ridge}
use Rattle.std.specs.Prelude.{Option, Some, None}
use Rattle.paper.specs.Grammar.{file_assets, file_periods, kinds}
use Rattle.paper.specs.Inner.{missing}
use Rattle.paper.specs.Rules.{first_of, outline}
use Rattle.paper.specs.Question.{Contents}
use Rattle.writer.specs.Bodies.{ridge, fixed, target, half_life, semi, threshold, factor, sweeps, bodies}
use Rattle.writer.specs.Files.{records, file_of, length_of}
use Rattle.writer.specs.Inner.{pick, held_from, held}
use Rattle.writer.proofs.Left.{file_more}

-- ---- one kind

pub held_at : (ks : List Kind) (counts firsts returns given : List ℕ) (i : ℕ) → i < length ks → i < length counts → i < length firsts
    → get_or (held_from ks counts firsts returns given) i [] ≡ pick (get_or ks i missing) (get_or counts i 0) (get_or firsts i 0) returns given
unfolding held_from
held_at [] counts firsts returns given i h k l = absurd (not-suc-le-zero h)
held_at (k ∷ ks) [] firsts returns given i h k' l = absurd (not-suc-le-zero k')
held_at (k ∷ ks) (c ∷ counts) [] returns given i h k' l = absurd (not-suc-le-zero l)
held_at (k ∷ ks) (c ∷ counts) (f ∷ firsts) returns given zero h k' l = refl
held_at (k ∷ ks) (c ∷ counts) (f ∷ firsts) returns given (suc i) h k' l = held_at ks counts firsts returns given i (le_of_suc-le-suc h) (le_of_suc-le-suc k') (le_of_suc-le-suc l)

pub held_long : (ks : List Kind) (counts firsts returns given : List ℕ) (i : ℕ) → i < length ks → i < length counts → i < length firsts
    → i < length (held_from ks counts firsts returns given)
unfolding held_from
held_long [] counts firsts returns given i h k l = absurd (not-suc-le-zero h)
held_long (k ∷ ks) [] firsts returns given i h k' l = absurd (not-suc-le-zero k')
held_long (k ∷ ks) (c ∷ counts) [] returns given i h k' l = absurd (not-suc-le-zero l)
held_long (k ∷ ks) (c ∷ counts) (f ∷ firsts) returns given zero h k' l = omega arith
held_long (k ∷ ks) (c ∷ counts) (f ∷ firsts) returns given (suc i) h k' l =
    let r : i < length (held_from ks counts firsts returns given) = held_long ks counts firsts returns given i (le_of_suc-le-suc h) (le_of_suc-le-suc k') (le_of_suc-le-suc l) in
    omega arith

-- a turn of the code's loop
pub held_more : (counts firsts returns given : List ℕ) (i : ℕ) (k : Kind) → k ≡ get_or kinds i missing → i < length kinds → i < length counts → i < length firsts
    → (let held = held_from kinds counts firsts returns given in file_of (drop i kinds) (drop i held) ≡ records k (pick k (get_or counts i 0) (get_or firsts i 0) returns given) ++ file_of (drop (i + 1) kinds) (drop (i + 1) held))
held_more counts firsts returns given i k e h hc hf =
    let held = held_from kinds counts firsts returns given in
    file_more kinds held i h (held_long kinds counts firsts returns given i h hc hf)
    ∙ ap (λ (vs : List ℕ). records (get_or kinds i missing) vs ++ file_of (drop (i + 1) kinds) (drop (i + 1) held)) (held_at kinds counts firsts returns given i h hc hf)
    ∙ ap (λ (j : Kind). records j (pick j (get_or counts i 0) (get_or firsts i 0) returns given) ++ file_of (drop (i + 1) kinds) (drop (i + 1) held)) (sym e)

module _ (k : Kind) (count first : ℕ) (returns given : List ℕ) where
  pub pick_returns : k.byte ≡ 2 → returns ≡ pick k count first returns given
  unfolding pick
  pick_returns e = rw (eq-eqb _ _ e)

  module _ (n : k.byte ≡ 2 → ⊥) where
    pub pick_given : k.byte ≡ 9 → given ≡ pick k count first returns given
    unfolding pick
    pick_given e = rw (ne_eqb _ _ n, eq-eqb _ _ e)

    module _ (m : k.byte ≡ 9 → ⊥) where
      pub pick_none : count ≡ 0 → pick k count first returns given ≡ []
      unfolding pick
      pick_none e = rw (ne_eqb _ _ n, ne_eqb _ _ m, eq-eqb _ _ e)

      pub pick_first : (count ≡ 0 → ⊥) → first ∷ [] ≡ pick k count first returns given
      unfolding pick
      pick_first e = rw (ne_eqb _ _ n, ne_eqb _ _ m, ne_eqb _ _ e)

-- ---- the kinds that come once at most

-- such a list from its length and its first body
abbrev again : List ℕ → List ℕ
again vs = cond (eqb (length vs) 0) [] (first_of vs ∷ [])

ridge_again : (r : Regularization ℕ) → again (ridge r) ≡ ridge r
ridge_again Unregularized = refl
ridge_again (Ridge b) = refl

fixed_again : (s : Shrinkage ℕ) → again (fixed s) ≡ fixed s
fixed_again Unshrunk = refl
fixed_again (Fixed b) = refl
fixed_again (LedoitWolf t) = refl

target_again : (s : Shrinkage ℕ) → again (target s) ≡ target s
target_again Unshrunk = refl
target_again (Fixed b) = refl
target_again (LedoitWolf ConstantVariance) = refl
target_again (LedoitWolf ConstantCorrelation) = refl

half_life_again : (e : Estimate ℕ) → again (half_life e) ≡ half_life e
half_life_again Sample = refl
half_life_again Given = refl
half_life_again (Weighted (HalfLife b)) = refl
half_life_again (Weighted (Lambda b)) = refl
half_life_again Semi = refl
half_life_again (SemiBelow b) = refl

semi_again : (e : Estimate ℕ) → again (semi e) ≡ semi e
semi_again Sample = refl
semi_again Given = refl
semi_again (Weighted decay) = refl
semi_again Semi = refl
semi_again (SemiBelow b) = refl

threshold_again : (e : Estimate ℕ) → again (threshold e) ≡ threshold e
threshold_again Sample = refl
threshold_again Given = refl
threshold_again (Weighted decay) = refl
threshold_again Semi = refl
threshold_again (SemiBelow b) = refl

factor_again : (e : Estimate ℕ) → again (factor e) ≡ factor e
factor_again Sample = refl
factor_again Given = refl
factor_again (Weighted (HalfLife b)) = refl
factor_again (Weighted (Lambda b)) = refl
factor_again Semi = refl
factor_again (SemiBelow b) = refl

sweeps_again : (l : Option ℕ) → again (sweeps l) ≡ sweeps l
sweeps_again None = refl
sweeps_again (Some l) = refl

-- ---- all kinds

pub held_is : (c : Contents) → held (outline (bodies c)) c.returns c.given ≡ bodies c
unfolding outline bodies held_from pick kinds
held_is c =
    let q = c.question in
    rw (
      ridge_again q.regularization,
      fixed_again q.shrinkage,
      target_again q.shrinkage,
      half_life_again q.estimate,
      semi_again q.estimate,
      threshold_again q.estimate,
      sweeps_again q.limit,
      factor_again q.estimate,
    )

-- ---- how long a file can be

pub one_ridge : (r : Regularization ℕ) → length (ridge r) ≤ 1
one_ridge Unregularized = omega arith
one_ridge (Ridge b) = omega arith

pub one_shrinkage : (s : Shrinkage ℕ) → length (fixed s) + length (target s) ≤ 1
one_shrinkage Unshrunk = omega arith
one_shrinkage (Fixed b) = omega arith
one_shrinkage (LedoitWolf ConstantVariance) = omega arith
one_shrinkage (LedoitWolf ConstantCorrelation) = omega arith

pub one_estimate : (e : Estimate ℕ) → length (half_life e) + length (semi e) + length (threshold e) + length (factor e) ≤ 1
one_estimate Sample = omega arith
one_estimate Given = omega arith
one_estimate (Weighted (HalfLife b)) = omega arith
one_estimate (Weighted (Lambda b)) = omega arith
one_estimate Semi = omega arith
one_estimate (SemiBelow b) = omega arith

pub one_limit : (l : Option ℕ) → length (sweeps l) ≤ 1
one_limit None = omega arith
one_limit (Some l) = omega arith

pub length_few : (c : Contents) → length c.returns ≤ file_periods * file_assets → length c.given ≤ file_assets * file_assets → length_of kinds (map length (bodies c)) < 2 ^ 64
unfolding length_of kinds bodies
length_few c h k =
    let q = c.question in
    omega (arith, one_ridge q.regularization, one_shrinkage q.shrinkage, one_estimate q.estimate, one_limit q.limit)
