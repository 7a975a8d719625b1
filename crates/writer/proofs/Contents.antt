-- Laws of what stands in a question's file: the bodies of a question that keeps the format say that question (`contents_back`), the bodies of a file that is a
-- question are those of what it says (`lists_back`), and that keeps the format (`kept_format`). Assumes nothing.
use mathlib.Core.Path.{◌≡◌, refl, sym, ap, ◌∙◌, subst}
use mathlib.Core.Bool.{Bool, true, false, not, ◌&&◌, cond}
use mathlib.Core.List.{List, [], ◌∷◌}
use mathlib.Core.Logic.{inl, inr}
use Prim.Native.Nat.{ℕ, zero, suc, ◌*◌, ◌/◌, ◌%◌, ◌≤◌, ◌<◌}
use native.Mathlib.Nat.{zero-add, suc-ne-zero, suc_inj, not-suc-le-zero, le_of_suc-le-suc, mul-pos, mod-eq_of_lt, div-eq_of_lt, add-mul-div_left, add-mul-mod_self_left, mod-add-div}
use native.Mathlib.Omega.{arith}
use lib.ListN.{length}
use lib.Dec.{leb, eqb, T, leb→le, le→leb, eqb→eq}
use lib.Ieee.Fits.{and_l, and_r, and_i}
use lib.Ieee.Bits.{is_true}
use borrow.Author.Tests.{eq-eqb, ne_eqb}
use Rattle.rules.specs.Settings.{target_of}
use Rattle.rules.specs.declared.Target.TheVariants.{ConstantVariance, ConstantCorrelation}
use Rattle.rules.specs.declared.Estimate.{Estimate}
use Rattle.rules.specs.declared.Decay.TheVariants.{HalfLife, Lambda}
use Rattle.rules.specs.declared.Estimate.TheVariants.{Sample, Given, Weighted, Semi, SemiBelow}
use Rattle.rules.specs.declared.Shrinkage.{Shrinkage}
use Rattle.rules.specs.declared.Shrinkage.TheVariants.{Unshrunk, Fixed, LedoitWolf}
use Rattle.rules.specs.declared.Regularization.{Regularization}
use Rattle.rules.specs.declared.Regularization.TheVariants.{Unregularized, Ridge}
use Rattle.std.specs.Prelude.{Option, Some, None}
use Rattle.paper.specs.declared.question.Asked.{Asked}
use Rattle.paper.specs.declared.question.Asked.TheVariants.{Covariance, WeightedMean, JamesStein, BayesStein}
use Rattle.paper.specs.Grammar.{file_assets, file_periods, kinds, place_in, sheet}
use Rattle.paper.specs.declared.format.Outline.{Outline}
use Rattle.paper.specs.Rules.{first_of, outline, count, has, value, assets, periods, present, settings, shrinkages, estimates, takes, well_formed}
use Rattle.rules.specs.Adjusted.{is_given}
use Rattle.paper.specs.Question.{Contents, estimate_in, shrinkage_in, regularization_in, limit_in, asked_of, question_in, of_kind, contents_in, given_count}
use Rattle.paper.proofs.Outlines.{Ruled, ruled, OneOf, one_of}
use Rattle.paper.proofs.Questions.{count_is, value_is, count_none, has_none, given_counted, beside}
use Rattle.writer.specs.Bodies.{ridge, fixed, target, half_life, semi, threshold, factor, sweeps, asked_number, shape, bodies}
use Rattle.writer.specs.Writer.{shape_kept, limit_kept, given_kept, keeps_format}

-- ---- each field of a question, from its bodies

assets_back : (n t : ℕ) → n ≤ file_assets → shape n t % 65536 ≡ n
assets_back n t h = add-mul-mod_self_left n 65536 t ∙ mod-eq_of_lt (omega (arith, h))

periods_back : (n t : ℕ) → n ≤ file_assets → shape n t / 65536 ≡ t
periods_back n t h =
    let none : n / 65536 ≡ 0 = div-eq_of_lt (omega (arith, h)) in
    add-mul-div_left n t (omega arith) ∙ rw none (zero-add t)

-- whether a kind comes
abbrev comes : List ℕ → Bool
comes vs = not (eqb (length vs) 0)

regularization_back : (r : Regularization ℕ) → cond (comes (ridge r)) (Ridge (first_of (ridge r))) Unregularized ≡ r
regularization_back Unregularized = refl
regularization_back (Ridge bits) = refl

limit_back : (l : Option ℕ) → cond (comes (sweeps l)) (Some (first_of (sweeps l))) None ≡ l
limit_back None = refl
limit_back (Some limit) = refl

shrinkage_back : (s : Shrinkage ℕ) →
    cond (comes (fixed s)) (Fixed (first_of (fixed s))) (cond (comes (target s)) (LedoitWolf (target_of (first_of (target s)))) Unshrunk) ≡ s
unfolding target_of
shrinkage_back Unshrunk = refl
shrinkage_back (Fixed bits) = refl
shrinkage_back (LedoitWolf ConstantVariance) = refl
shrinkage_back (LedoitWolf ConstantCorrelation) = refl

asked_back : (a : Asked) → asked_of (asked_number a) ≡ a
unfolding asked_of
asked_back Covariance = refl
asked_back WeightedMean = refl
asked_back JamesStein = refl
asked_back BayesStein = refl

-- given entries come where the estimate is given
estimate_back : (e : Estimate ℕ) (given : Bool) → given ≡ is_given e →
    cond (comes (half_life e)) (Weighted (HalfLife (first_of (half_life e))))
    (cond (comes (factor e)) (Weighted (Lambda (first_of (factor e))))
    (cond (comes (semi e)) Semi
    (cond (comes (threshold e)) (SemiBelow (first_of (threshold e)))
    (cond given Given Sample)))) ≡ e
estimate_back Sample given h = rw h
estimate_back Given given h = rw h
estimate_back (Weighted (HalfLife bits)) given h = refl
estimate_back (Weighted (Lambda bits)) given h = refl
estimate_back Semi given h = refl
estimate_back (SemiBelow bits) given h = refl

-- ---- a question that keeps the format

-- n × n given entries, where n is not 0, or none
given_comes : (g : Bool) (n k : ℕ) → T (not (g && eqb n 0)) → k ≡ cond g (n * n) 0 → not (eqb k 0) ≡ g
given_comes true zero k h e = absurd h
given_comes true (suc n) k h e = rw (e, ne_eqb (suc n * suc n) 0 square)
  where
    square : suc n * suc n ≡ 0 → ⊥
    square z = let some : 0 < suc n * suc n = mul-pos (omega arith) (omega arith) in omega (arith, some, z)
given_comes false n k h e = rw e

module _ (c : Contents) (kept : keeps_format c ≡ true) where
  kept_all : T (shape_kept c.question && limit_kept c.question.limit && given_kept c.question c.given)
  unfolding keeps_format
  kept_all = and_l (shape_kept c.question && limit_kept c.question.limit && given_kept c.question c.given) (well_formed (outline (bodies c))) (subst T (sym kept) tt)

  kept_assets : c.question.assets ≤ file_assets
  unfolding shape_kept
  kept_assets =
      let shape = and_l (shape_kept c.question) (limit_kept c.question.limit) (and_l (shape_kept c.question && limit_kept c.question.limit) (given_kept c.question c.given) kept_all) in
      leb→le _ file_assets (and_l (leb c.question.assets file_assets) (leb c.question.periods file_periods) shape)

  kept_given : comes c.given ≡ is_given c.question.estimate
  unfolding given_kept given_count
  kept_given =
      let q = c.question in
      let given = and_r (shape_kept c.question && limit_kept q.limit) (given_kept c.question c.given) kept_all in
      let some = not (is_given q.estimate && eqb q.assets 0) in
      let counted = eqb (length c.given) (given_count q) in
      given_comes (is_given q.estimate) q.assets (length c.given) (and_l some counted given) (eqb→eq _ _ (and_r some counted given))

  -- its bodies say it
  pub contents_back : contents_in (bodies c) ≡ c
  unfolding contents_in question_in estimate_in shrinkage_in regularization_in limit_in outline bodies kinds place_in
  contents_back = rw (
    assets_back c.question.assets c.question.periods kept_assets,
    periods_back c.question.assets c.question.periods kept_assets,
    estimate_back c.question.estimate (comes c.given) kept_given,
    shrinkage_back c.question.shrinkage,
    regularization_back c.question.regularization,
    limit_back c.question.limit,
    asked_back c.question.asked,
  )

-- ---- lists of bodies as a file has them

-- the lists of the kinds, in the order of the table
abbrev pub by_kinds : List (List ℕ) → List (List ℕ)
by_kinds lists =
    of_kind lists 1 ∷ of_kind lists 2 ∷ of_kind lists 3 ∷ of_kind lists 4 ∷ of_kind lists 5 ∷ of_kind lists 6 ∷
    of_kind lists 7 ∷ of_kind lists 8 ∷ of_kind lists 9 ∷ of_kind lists 10 ∷ of_kind lists 12 ∷ of_kind lists 11 ∷ []

pub twelve : (a b c d e f g h i j k l : List ℕ) →
    a ∷ b ∷ c ∷ d ∷ e ∷ f ∷ g ∷ h ∷ i ∷ j ∷ k ∷ l ∷ [] ≡ by_kinds (a ∷ b ∷ c ∷ d ∷ e ∷ f ∷ g ∷ h ∷ i ∷ j ∷ k ∷ l ∷ [])
unfolding kinds place_in
twelve a b c d e f g h i j k l = refl

pub sheet_by_kinds : (file : List ℕ) → (sheet kinds file).lists ≡ by_kinds (sheet kinds file).lists
unfolding sheet kinds place_in
sheet_by_kinds file = refl

-- one list of each kind; of the kinds of one record, at most one body; that of kind 7 of no bytes, that of kind 10 of one
pub record Kept (lists : List (List ℕ)) : Type 0 where
  pub by_kinds_lem : lists ≡ by_kinds lists
  pub one_ridge : length (of_kind lists 3) ≤ 1
  pub one_fixed : length (of_kind lists 4) ≤ 1
  pub one_target : length (of_kind lists 5) ≤ 1
  pub one_half_life : length (of_kind lists 6) ≤ 1
  pub one_semi : length (of_kind lists 7) ≤ 1
  pub one_threshold : length (of_kind lists 8) ≤ 1
  pub one_limit : length (of_kind lists 10) ≤ 1
  pub one_factor : length (of_kind lists 12) ≤ 1
  pub semi_empty : first_of (of_kind lists 7) ≡ 0
  pub limit_byte : first_of (of_kind lists 10) ≤ 255

single : (vs : List ℕ) → length vs ≡ 1 → first_of vs ∷ [] ≡ vs
single [] h = absurd (suc-ne-zero 0 (sym h))
single (v ∷ []) h = refl
single (v ∷ w ∷ vs) h = absurd (suc-ne-zero (length vs) (suc_inj h))

nothing : (vs : List ℕ) → length vs ≡ 0 → [] ≡ vs
nothing [] h = refl
nothing (v ∷ vs) h = absurd (suc-ne-zero (length vs) h)

count_some : (o : Outline) (b : ℕ) → has o b ≡ true → count o b ≡ 0 → ⊥
count_some o b h e = subst T (sym h ∙ has_none o b e) tt

module _ (lists : List (List ℕ)) (b : ℕ) where
  counted_one : count (outline lists) b ≡ 1 → value (outline lists) b ∷ [] ≡ of_kind lists b
  counted_one h = rw (value_is lists b) (single (of_kind lists b) (sym (count_is lists b) ∙ h))

  the_one : length (of_kind lists b) ≤ 1 → has (outline lists) b ≡ true → value (outline lists) b ∷ [] ≡ of_kind lists b
  the_one few h =
      let least : count (outline lists) b ≤ 1 = rw (count_is lists b) few in
      counted_one (is_one (count (outline lists) b) least (count_some (outline lists) b h))
    where
      is_one : (k : ℕ) → k ≤ 1 → (k ≡ 0 → ⊥) → k ≡ 1
      is_one zero l n = absurd (n refl)
      is_one (suc zero) l n = refl
      is_one (suc (suc k)) l n = absurd (not-suc-le-zero (le_of_suc-le-suc l))

  no_one : has (outline lists) b ≡ false → [] ≡ of_kind lists b
  no_one h = nothing (of_kind lists b) (sym (count_is lists b) ∙ count_none (outline lists) b h)

-- ---- each kind's bodies, from what they say

abbrev Estimated : List (List ℕ) → Estimate ℕ → Type 0
Estimated lists e = (half_life e ≡ of_kind lists 6) × (semi e ≡ of_kind lists 7) × (threshold e ≡ of_kind lists 8) × (factor e ≡ of_kind lists 12)

target_number : (v : ℕ) → v ≤ 1 → target (LedoitWolf (target_of v)) ≡ v ∷ []
unfolding target_of
target_number zero h = refl
target_number (suc zero) h = refl
target_number (suc (suc v)) h = absurd (not-suc-le-zero (le_of_suc-le-suc h))

asked_number_lem : (v : ℕ) → v ≤ 3 → asked_number (asked_of v) ≡ v
unfolding asked_of
asked_number_lem zero h = refl
asked_number_lem (suc zero) h = refl
asked_number_lem (suc (suc zero)) h = refl
asked_number_lem (suc (suc (suc zero))) h = refl
asked_number_lem (suc (suc (suc (suc v)))) h = absurd (not-suc-le-zero (le_of_suc-le-suc (le_of_suc-le-suc (le_of_suc-le-suc h))))

-- a question takes something: it is one of the four
taken_known : (q : ℕ) (o : Outline) → T (takes q o) → q ≤ 3
unfolding takes
taken_known zero o h = omega arith
taken_known (suc zero) o h = omega arith
taken_known (suc (suc q)) o h =
    let other = rw (ne_eqb (suc (suc q)) 0 (suc-ne-zero (suc q)), ne_eqb (suc (suc q)) 1 (λ e. suc-ne-zero q (suc_inj e))) at h in
    leb→le (suc (suc q)) 3 (and_l (leb (suc (suc q)) 3) (eqb (present o settings) (present o (10 ∷ []))) other)

module _ (lists : List (List ℕ)) (r : Ruled (outline lists)) where
  shape_body : shape (assets (outline lists)) (periods (outline lists)) ∷ [] ≡ of_kind lists 1
  shape_body = rw (mod-add-div (value (outline lists) 1) 65536) (counted_one lists 1 r.one_shape)

  asked_body : asked_number (asked_of (value (outline lists) 11)) ∷ [] ≡ of_kind lists 11
  asked_body =
      rw (asked_number_lem (value (outline lists) 11) (taken_known (value (outline lists) 11) (outline lists) r.taken_by))
      (counted_one lists 11 r.one_question)

module _ (lists : List (List ℕ)) (k : Kept lists) where
  ridge_body : ridge (regularization_in (outline lists)) ≡ of_kind lists 3
  unfolding regularization_in
  ridge_body = go (has (outline lists) 3) refl
    where
      go : (t : Bool) → has (outline lists) 3 ≡ t → ridge (cond t (Ridge (value (outline lists) 3)) Unregularized) ≡ of_kind lists 3
      go true h = the_one lists 3 k.one_ridge h
      go false h = no_one lists 3 h

  limit_body : sweeps (limit_in (outline lists)) ≡ of_kind lists 10
  unfolding limit_in
  limit_body = go (has (outline lists) 10) refl
    where
      go : (t : Bool) → has (outline lists) 10 ≡ t → sweeps (cond t (Some (value (outline lists) 10)) None) ≡ of_kind lists 10
      go true h = the_one lists 10 k.one_limit h
      go false h = no_one lists 10 h

  semi_body : has (outline lists) 7 ≡ true → 0 ∷ [] ≡ of_kind lists 7
  semi_body h = ap (λ (v : ℕ). v ∷ []) (sym (value_is lists 7 ∙ k.semi_empty)) ∙ the_one lists 7 k.one_semi h

module _ (lists : List (List ℕ)) (k : Kept lists) (r : Ruled (outline lists)) where
  shrinkage_bodies : (fixed (shrinkage_in (outline lists)) ≡ of_kind lists 4) × (target (shrinkage_in (outline lists)) ≡ of_kind lists 5)
  unfolding shrinkage_in
  shrinkage_bodies = go (one_of (outline lists) shrinkages r.one_shrinkage)
    where
      go : OneOf (outline lists) shrinkages → (fixed (shrinkage_in (outline lists)) ≡ of_kind lists 4) × (target (shrinkage_in (outline lists)) ≡ of_kind lists 5)
      go (inl h) = rw h.0 (the_one lists 4 k.one_fixed h.0, no_one lists 5 h.1.0)
      go (inr (f4, inl h)) = rw (f4, h.0) (no_one lists 4 f4, target_number (value (outline lists) 5) r.target_known ∙ the_one lists 5 k.one_target h.0)
      go (inr (f4, inr (f5, e))) = rw (f4, f5) (no_one lists 4 f4, no_one lists 5 f5)

  estimate_bodies : Estimated lists (estimate_in (outline lists))
  unfolding estimate_in
  estimate_bodies = go (one_of (outline lists) estimates r.one_estimate)
    where
      no : (b : ℕ) → has (outline lists) b ≡ false → [] ≡ of_kind lists b
      no = no_one lists

      go : OneOf (outline lists) estimates → Estimated lists (estimate_in (outline lists))
      go (inl h) = rw h.0 (the_one lists 6 k.one_half_life h.0, no 7 h.1.0, no 8 h.1.1.0, no 12 h.1.1.1.1.0)
      go (inr (f6, inl h)) = rw (f6, h.1.1.1.0, h.0) (no 6 f6, semi_body lists k h.0, no 8 h.1.0, no 12 h.1.1.1.0)
      go (inr (f6, inr (f7, inl h))) = rw (f6, h.1.1.0, f7, h.0) (no 6 f6, no 7 f7, the_one lists 8 k.one_threshold h.0, no 12 h.1.1.0)
      go (inr (f6, inr (f7, inr (f8, inl h)))) = rw (f6, h.1.0, f7, f8, h.0) (no 6 f6, no 7 f7, no 8 f8, no 12 h.1.0)
      go (inr (f6, inr (f7, inr (f8, inr (f9, inl h))))) = rw (f6, h.0) (no 6 f6, no 7 f7, no 8 f8, the_one lists 12 k.one_factor h.0)
      go (inr (f6, inr (f7, inr (f8, inr (f9, inr (f12, e)))))) = rw (f6, f12, f7, f8, f9) (no 6 f6, no 7 f7, no 8 f8, no 12 f12)

-- ---- a file that is a question

also : {v w : List ℕ} {vs ws : List (List ℕ)} → v ≡ w → vs ≡ ws → v ∷ vs ≡ w ∷ ws
also e f = rw (e, f)

module _ (lists : List (List ℕ)) (k : Kept lists) (r : Ruled (outline lists)) where
  -- its bodies are those of what it says
  pub lists_back : bodies (contents_in lists) ≡ lists
  unfolding bodies contents_in question_in
  lists_back =
      let shrunk = shrinkage_bodies lists k r in
      let estimated = estimate_bodies lists k r in
      also (shape_body lists r) (also refl (also (ridge_body lists k) (also shrunk.0 (also shrunk.1
      (also estimated.0 (also estimated.1 (also estimated.2 (also refl
      (also (limit_body lists k) (also estimated.3 (also (asked_body lists r) refl))))))))))) ∙ sym k.by_kinds_lem

-- ---- and what it says keeps the format

only_given : (a b c d g : Bool) (x y z : ℕ) →
    T (is_given (cond a (Weighted (HalfLife x)) (cond b (Weighted (Lambda y)) (cond c Semi (cond d (SemiBelow z) (cond g Given Sample)))))) → g ≡ true
only_given true b c d g x y z h = absurd h
only_given false true c d g x y z h = absurd h
only_given false false true d g x y z h = absurd h
only_given false false false true g x y z h = absurd h
only_given false false false false true x y z h = refl
only_given false false false false false x y z h = absurd h

not_both : (x y : Bool) → (T x → T y → ⊥) → T (not (x && y))
not_both true true h = h tt tt
not_both true false h = tt
not_both false y h = tt

none_squared : (g : Bool) (n : ℕ) → n ≡ 0 → cond g (n * n) 0 ≡ 0
none_squared true n e = rw e
none_squared false n e = refl

module _ (lists : List (List ℕ)) (r : Ruled (outline lists)) where
  said_shape : T (shape_kept (contents_in lists).question)
  unfolding shape_kept
  said_shape =
      let b = beside lists r in
      let q = (contents_in lists).question in
      and_i (leb q.assets file_assets) (leb q.periods file_periods) (le→leb _ file_assets b.assets_few) (le→leb _ file_periods b.periods_few)

  some_given : T (is_given (estimate_in (outline lists))) → T (eqb (assets (outline lists)) 0) → ⊥
  unfolding estimate_in given_count question_in
  some_given h z =
      let o = outline lists in
      let e = only_given (has o 6) (has o 12) (has o 7) (has o 8) (has o 9) (value o 6) (value o 12) (value o 8) h in
      count_some o 9 e (given_counted o r ∙ none_squared (is_given (estimate_in o)) (assets o) (eqb→eq _ 0 z))

  said_given : T (given_kept (contents_in lists).question (contents_in lists).given)
  unfolding given_kept contents_in question_in
  said_given =
      let o = outline lists in
      and_i (not (is_given (estimate_in o) && eqb (assets o) 0)) _ (not_both (is_given (estimate_in o)) (eqb (assets o) 0) some_given)
      (subst T (sym (eq-eqb _ _ (beside lists r).given_as_said)) tt)

said_limit : (lists : List (List ℕ)) → Kept lists → T (limit_kept (limit_in (outline lists)))
unfolding limit_in
said_limit lists k = go (has (outline lists) 10)
  where
    go : (t : Bool) → T (limit_kept (cond t (Some (value (outline lists) 10)) None))
    go true = le→leb (value (outline lists) 10) 255 (rw (value_is lists 10) k.limit_byte)
    go false = tt

pub kept_format : (lists : List (List ℕ)) → well_formed (outline lists) ≡ true → Kept lists → keeps_format (contents_in lists) ≡ true
unfolding keeps_format contents_in question_in
kept_format lists w k =
    let r = ruled (outline lists) w in
    let c = contents_in lists in
    let meets : well_formed (outline (bodies c)) ≡ true = ap (λ (ls : List (List ℕ)). well_formed (outline ls)) (lists_back lists k r) ∙ w in
    is_true (keeps_format c) (and_i (shape_kept c.question && limit_kept c.question.limit && given_kept c.question c.given) (well_formed (outline (bodies c)))
    (and_i (shape_kept c.question && limit_kept c.question.limit) (given_kept c.question c.given)
    (and_i (shape_kept c.question) (limit_kept c.question.limit) (said_shape lists r) (said_limit lists k)) (said_given lists r))
    (subst T (sym meets) tt))
