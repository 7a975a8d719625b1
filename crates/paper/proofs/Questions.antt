-- Laws of the question record: the outline by kinds, a file's reading as a record, and that as many numbers stand beside a record as it says. Assumes nothing.
use mathlib.Core.Path.{◌≡◌, refl, sym, ◌∙◌, subst}
use mathlib.Core.Bool.{Bool, true, false, not, cond}
use mathlib.Core.List.{List, []}
use mathlib.Core.Logic.{◌⊎◌, inl, inr}
use Rattle.std.specs.Prelude.{Some, None}
use Prim.Native.Nat.{ℕ, ◌*◌, ◌≤◌}
use native.Mathlib.Nat.{mul-le-mul}
use native.Mathlib.Omega.{arith}
use lib.ListN.{length, get_or-map}
use lib.Dec.{eqb, T}
use borrow.Author.Tests.{eqb-true, eq-eqb}
use Rattle.paper.specs.declared.format.Outline.{Outline}
use Rattle.paper.specs.Grammar.{file_assets, file_periods, kinds, sheet}
use Rattle.paper.specs.Rules.{first_of, outline, count, has, value, assets, estimates, malformed, question, is_question, read_paper}
use Rattle.paper.specs.Question.{Contents, estimate_in, question_in, of_kind, contents_in, said, read_question, given_count}
use Rattle.paper.proofs.Outlines.{well_formed_lem, Ruled, ruled, OneOf, one_of}

-- ---- the outline by kinds

module _ (lists : List (List ℕ)) (b : ℕ) where
  pub count_is : count (outline lists) b ≡ length (of_kind lists b)
  unfolding outline
  count_is = get_or-map length lists _ []

  pub value_is : value (outline lists) b ≡ first_of (of_kind lists b)
  unfolding outline
  value_is = get_or-map first_of lists _ []

pub count_none : (o : Outline) (b : ℕ) → has o b ≡ false → count o b ≡ 0
count_none o b e = go (eqb (count o b) 0) refl e
  where
    go : (t : Bool) → eqb (count o b) 0 ≡ t → not t ≡ false → count o b ≡ 0
    go true w f = eqb-true (count o b) 0 w
    go false w f = absurd (subst T f tt)

pub has_none : (o : Outline) (b : ℕ) → count o b ≡ 0 → has o b ≡ false
has_none o b e = rw (eq-eqb (count o b) 0 e)

-- ---- the numbers beside a record

module _ (o : Outline) (r : Ruled o) where
  pub returns_few : count o 2 ≤ file_periods * file_assets
  returns_few = rw r.returns_all (mul-le-mul r.periods_few r.assets_few)

  pub given_few : count o 9 ≤ file_assets * file_assets
  given_few = go r.given_all
    where
      go : (count o 9 ≡ 0) ⊎ (count o 9 ≡ assets o * assets o) → count o 9 ≤ file_assets * file_assets
      go (inl e) = rw e (omega arith)
      go (inr e) = rw e (mul-le-mul r.assets_few r.assets_few)

  some_given : has o 9 ≡ true → count o 9 ≡ assets o * assets o
  some_given h = go r.given_all
    where
      go : (count o 9 ≡ 0) ⊎ (count o 9 ≡ assets o * assets o) → count o 9 ≡ assets o * assets o
      go (inl e) = absurd (subst T (sym h ∙ has_none o 9 e) tt)
      go (inr e) = e

  -- as many given entries as the record says: at most one estimate comes
  pub given_counted : count o 9 ≡ given_count (question_in o)
  unfolding given_count question_in estimate_in
  given_counted = go (one_of o estimates r.one_estimate)
    where
      go : OneOf o estimates → count o 9 ≡ given_count (question_in o)
      go (inl h) = count_none o 9 h.1.1.1.0 ∙ rw h.0
      go (inr (f6, inl h)) = count_none o 9 h.1.1.0 ∙ rw (f6, h.1.1.1.0, h.0)
      go (inr (f6, inr (f7, inl h))) = count_none o 9 h.1.0 ∙ rw (f6, h.1.1.0, f7, h.0)
      go (inr (f6, inr (f7, inr (f8, inl h)))) = some_given h.0 ∙ rw (f6, h.1.0, f7, f8, h.0)
      go (inr (f6, inr (f7, inr (f8, inr (f9, inl h))))) = count_none o 9 f9 ∙ rw (f6, h.0)
      go (inr (f6, inr (f7, inr (f8, inr (f9, inr (f12, e)))))) = count_none o 9 f9 ∙ rw (f6, f12, f7, f8, f9)

-- ---- a file's reading

-- the file was read as c: it is a question, with these lists of bodies
pub record ReadAs (file : List ℕ) (c : Contents) : Type 0 where
  pub is_question_lem : is_question (sheet kinds file) ≡ true
  pub contents_are : contents_in (sheet kinds file).lists ≡ c

pub read_as : (file : List ℕ) (c : Contents) → read_question file ≡ Some c → ReadAs file c
unfolding read_question said read_paper
read_as file c e = go (is_question (sheet kinds file)) refl e
  where
    go : (b : Bool) → is_question (sheet kinds file) ≡ b → said (cond b (question (sheet kinds file).lists) malformed) ≡ Some c → ReadAs file c
    go true w f = record { is_question_lem = w; contents_are = cc }
    go false w f = cc

pub is_read : (file : List ℕ) → is_question (sheet kinds file) ≡ true → read_question file ≡ Some (contents_in (sheet kinds file).lists)
unfolding read_question said read_paper
is_read file e = rw e

pub not_read : (file : List ℕ) → is_question (sheet kinds file) ≡ false → read_question file ≡ None
unfolding read_question said read_paper
not_read file e = rw e

-- what the rules say of it, in the record's terms
pub record Beside (c : Contents) : Type 0 where
  pub assets_few : c.question.assets ≤ file_assets
  pub periods_few : c.question.periods ≤ file_periods
  pub returns_counted : length c.returns ≡ c.question.periods * c.question.assets
  pub given_as_said : length c.given ≡ given_count c.question
  pub returns_room : length c.returns ≤ file_periods * file_assets
  pub given_room : length c.given ≤ file_assets * file_assets

pub beside : (lists : List (List ℕ)) → Ruled (outline lists) → Beside (contents_in lists)
unfolding contents_in question_in
beside lists r = record {
  assets_few = r.assets_few;
  periods_few = r.periods_few;
  returns_counted = sym (count_is lists 2) ∙ r.returns_all;
  given_as_said = sym (count_is lists 9) ∙ given_counted (outline lists) r;
  returns_room = rw (← count_is lists 2) (returns_few (outline lists) r);
  given_room = rw (← count_is lists 9) (given_few (outline lists) r);
}

pub read_beside : (file : List ℕ) (c : Contents) → read_question file ≡ Some c → Beside c
read_beside file c e =
    let r = read_as file c e in
    subst Beside r.contents_are (beside _ (ruled _ (well_formed_lem (sheet kinds file) r.is_question_lem)))
