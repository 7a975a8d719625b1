-- Laws of the rules of `specs/Rules.antt`, as the code tests them. Assumes nothing.
use mathlib.Core.Path.{◌≡◌, refl, sym, ◌∙◌, subst}
use mathlib.Core.Bool.{Bool, true, false, ◌&&◌, ◌||◌, cond, and-eq-true_iff}
use mathlib.Core.List.{List, [], ◌∷◌, map}
use mathlib.Core.Logic.{◌⊎◌, inl, inr}
use Prim.Native.Nat.{ℕ, suc, ◌+◌, ◌*◌, ◌^◌, ◌≤◌, ◌<◌}
use native.Mathlib.Nat.{add-zero, mul-le-mul, not-suc-le-zero, le_of_suc-le-suc}
use native.Mathlib.Numerals.{add-one}
use native.Mathlib.Omega.{arith}
use lib.ListN.{length, get_or, drop, drop_of_length-le}
use lib.Seq.{drop-cons}
use lib.Dec.{leb, eqb, T, leb→le, eqb→eq}
use lib.Ieee.Fits.{and_l, and_r}
use borrow.Author.Tests.{eqb-true}
use Rattle.paper.specs.declared.format.Outline.{Outline}
use Rattle.paper.specs.declared.kinds.KindName.{KindName}
use Rattle.paper.specs.declared.kinds.KindName.TheVariants.{Shape}
use Rattle.paper.specs.Inner.{byte_of}
use Rattle.paper.specs.Grammar.{file_assets, file_periods, Sheet}
use Rattle.paper.specs.Rules.{count, has, value, assets, periods, present, shape_fits, shrinkages, estimates, settings_fit, takes, well_formed, outline, is_question}

-- ---- how many of the listed kinds come: n of those before place i

module _ (o : Outline) (ks : List KindName) (i n : ℕ) where
  -- of the kinds from place j on
  abbrev left : ℕ → ℕ
  left j = present o (map byte_of (drop j ks))

  abbrev all : ℕ
  all = present o (map byte_of ks)

  module _ (counted : n + left i ≡ all) where
    pub present_yes : i < length ks → has o (byte_of (get_or ks i Shape)) ≡ true → n + 1 + left (i + 1) ≡ all
    unfolding present
    present_yes h e =
        let one : left i ≡ suc (left (i + 1)) = rw (add-one, drop-cons ks i Shape h, e) in
        omega arith

    pub present_no : i < length ks → has o (byte_of (get_or ks i Shape)) ≡ false → n + left (i + 1) ≡ all
    unfolding present
    present_no h e =
        let none : left i ≡ left (i + 1) = rw (add-one, drop-cons ks i Shape h, e) in
        omega arith

    pub present_all : length ks ≤ i → n ≡ all
    unfolding present
    present_all h = sym (add-zero n) ∙ rw (drop_of_length-le ks h) at counted

-- ---- T × n and n × n fit

pub product_fits : (t n : ℕ) → t ≤ file_periods → n ≤ file_periods → t * n < 2 ^ 64
product_fits t n h k = small (t * n) (mul-le-mul h k)
  where
    small : (x : ℕ) → x ≤ file_periods * file_periods → x < 2 ^ 64
    small x h = omega arith

-- ---- what the rules say of a question

pub well_formed_lem : (s : Sheet) → is_question s ≡ true → well_formed (outline s.lists) ≡ true
unfolding is_question
well_formed_lem s e = ((and-eq-true_iff (eqb (length s.rest) 0) _).0 e).1

pub record Ruled (o : Outline) : Type 0 where
  pub one_shape : count o 1 ≡ 1
  pub assets_few : assets o ≤ file_assets
  pub periods_few : periods o ≤ file_periods
  pub returns_all : count o 2 ≡ periods o * assets o
  pub given_all : (count o 9 ≡ 0) ⊎ (count o 9 ≡ assets o * assets o)
  pub one_shrinkage : present o shrinkages ≤ 1
  pub one_estimate : present o estimates ≤ 1
  pub target_known : value o 5 ≤ 1
  pub one_question : count o 11 ≡ 1
  pub taken_by : T (takes (value o 11) o)

either : (a b c : ℕ) → T (eqb a b || eqb a c) → (a ≡ b) ⊎ (a ≡ c)
either a b c t = go (eqb a b) refl t
  where
    go : (x : Bool) → eqb a b ≡ x → T (x || eqb a c) → (a ≡ b) ⊎ (a ≡ c)
    go true e t = inl (eqb-true a b e)
    go false e t = inr (eqb→eq a c t)

pub ruled : (o : Outline) → well_formed o ≡ true → Ruled o
unfolding well_formed shape_fits settings_fit
ruled o e =
    let n = assets o in
    let t = periods o in
    let one = eqb (count o 1) 1 in
    let given = eqb (count o 9) 0 || eqb (count o 9) (n * n) in
    let asks = eqb (count o 11) 1 && takes (value o 11) o in
    let all : T (shape_fits o && settings_fit o && asks) = subst T (sym e) tt in
    let both = and_l (shape_fits o && settings_fit o) asks all in
    let asked = and_r (shape_fits o && settings_fit o) asks all in
    let shape = and_l (shape_fits o) (settings_fit o) both in
    let settings = and_r (shape_fits o) (settings_fit o) both in
    let upto-2 = and_l (one && leb n file_assets && leb t file_periods && eqb (count o 2) (t * n)) given shape in
    let upto-t = and_l (one && leb n file_assets && leb t file_periods) (eqb (count o 2) (t * n)) upto-2 in
    let upto-n = and_l (one && leb n file_assets) (leb t file_periods) upto-t in
    let single = and_l (leb (present o shrinkages) 1 && leb (present o estimates) 1) (leb (value o 5) 1) settings in
    record {
      one_shape = eqb→eq (count o 1) 1 (and_l one (leb n file_assets) upto-n);
      assets_few = leb→le n file_assets (and_r one (leb n file_assets) upto-n);
      periods_few = leb→le t file_periods (and_r (one && leb n file_assets) (leb t file_periods) upto-t);
      returns_all = eqb→eq (count o 2) (t * n) (and_r (one && leb n file_assets && leb t file_periods) (eqb (count o 2) (t * n)) upto-2);
      given_all = either (count o 9) 0 (n * n) (and_r (one && leb n file_assets && leb t file_periods && eqb (count o 2) (t * n)) given shape);
      one_shrinkage = leb→le _ 1 (and_l (leb (present o shrinkages) 1) (leb (present o estimates) 1) single);
      one_estimate = leb→le _ 1 (and_r (leb (present o shrinkages) 1) (leb (present o estimates) 1) single);
      target_known = leb→le _ 1 (and_r (leb (present o shrinkages) 1 && leb (present o estimates) 1) (leb (value o 5) 1) settings);
      one_question = eqb→eq (count o 11) 1 (and_l (eqb (count o 11) 1) (takes (value o 11) o) asked);
      taken_by = and_r (eqb (count o 11) 1) (takes (value o 11) o) asked;
    }

-- ---- of some kinds at most one comes

abbrev pub NoneOf : Outline → List ℕ → Type 0
NoneOf o [] = Unit
NoneOf o (b ∷ bs) = (has o b ≡ false) × NoneOf o bs

abbrev pub OneOf : Outline → List ℕ → Type 0
OneOf o [] = Unit
OneOf o (b ∷ bs) = ((has o b ≡ true) × NoneOf o bs) ⊎ ((has o b ≡ false) × OneOf o bs)

none_of : (o : Outline) (bs : List ℕ) → present o bs ≤ 0 → NoneOf o bs
unfolding present
none_of o [] h = tt
none_of o (b ∷ bs) h = go (has o b) refl (none_of o bs) h
  where
    go : (t : Bool) → has o b ≡ t → (present o bs ≤ 0 → NoneOf o bs) → cond t (suc (present o bs)) (present o bs) ≤ 0 → NoneOf o (b ∷ bs)
    go true e rest h = absurd (not-suc-le-zero h)
    go false e rest h = (e, rest h)

pub one_of : (o : Outline) (bs : List ℕ) → present o bs ≤ 1 → OneOf o bs
unfolding present
one_of o [] h = tt
one_of o (b ∷ bs) h = go (has o b) refl (one_of o bs) h
  where
    go : (t : Bool) → has o b ≡ t → (present o bs ≤ 1 → OneOf o bs) → cond t (suc (present o bs)) (present o bs) ≤ 1 → OneOf o (b ∷ bs)
    go true e rest h = inl (e, none_of o bs (le_of_suc-le-suc h))
    go false e rest h = inr (e, rest h)
