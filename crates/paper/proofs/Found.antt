-- What a question that was read into slices with room tells the marking: the record and the two slices are those of the file, and no other answer comes of a question.
-- Assumes nothing.
use mathlib.Core.Path.{◌≡◌, refl, sym, ap, subst}
use mathlib.Core.Bool.{Bool, true, false, cond}
use mathlib.Core.List.{List}
use Rattle.std.specs.Prelude.{Option, Some, None, Result, Ok, Err}
use Prim.Native.Nat.{ℕ, ◌*◌, ◌≤◌}
use lib.ListN.{length, take, drop, replicate, length-replicate}
use lib.Seq.{take_at}
use lib.Dec.{T}
use borrow.Author.Tests.{le-leb}
use Rattle.paper.specs.declared.question.Question.{Question}
use Rattle.paper.specs.declared.reading.ReadError.{ReadError}
use Rattle.paper.specs.declared.reading.ReadError.TheVariants.{TooShort}
use Rattle.paper.specs.Grammar.{file_assets, file_periods}
use Rattle.paper.specs.Question.{Contents, contents, read_question, given_count, front, Into, into, room, read_into}
use Rattle.paper.specs.Answer.{malformed_number, refused, outcome_text}
use Rattle.paper.specs.Marking.{answer_of, examined, marking}
use Rattle.paper.proofs.Questions.{read_beside}

apart : (x : ReadError) (q : Question) (a b a' b' : List ℕ) → into (Err x) a b ≡ into (Ok q) a' b' → ⊥
apart x q a b a' b' e =
    let read : ◌≡◌ {A = Result Question ReadError} (Err x) (Ok q) = ap (λ (y : Into). y.read) e in
    let no : true ≡ false = cc in
    subst T no tt

-- the slices hold the contents c of the record q
pub record Holds (c : Contents) (q : Question) (returns given a b : List ℕ) : Type 0 where
  pub record_is : q ≡ c.question
  pub returns_are : a ≡ front c.returns returns
  pub given_are : b ≡ front c.given given

module _ (q : Question) (returns given a b : List ℕ) where
  holds : (c : Contents) → into (Ok q) a b ≡ read_into (Some c) returns given → Holds c q returns given a b
  unfolding read_into
  holds c e = go (room c returns given) e
    where
      go : (t : Bool) → into (Ok q) a b ≡ cond t (into (Ok c.question) (front c.returns returns) (front c.given given)) (into (Err TooShort) returns given) → Holds c q returns given a b
      go true e =
          let read : ◌≡◌ {A = Result Question ReadError} (Ok q) (Ok c.question) = ap (λ (x : Into). x.read) e in
          record { record_is = (cc); returns_are = ap (λ (x : Into). x.returns) e; given_are = ap (λ (x : Into). x.given) e }
      go false e = absurd (apart _ _ _ _ _ _ (sym e))

-- the marking's slices, which have room for every question
module _ (s : List ℕ) where
  abbrev returns : List ℕ
  returns = replicate (file_periods * file_assets) 0

  abbrev given : List ℕ
  given = replicate (file_assets * file_assets) 0

  has_room : (c : Contents) → read_question s ≡ Some c → room c returns given ≡ true
  has_room c e =
      let b = read_beside s c e in
      let h : length c.returns ≤ length returns = rw (length-replicate {A = ℕ} (file_periods * file_assets) 0) b.returns_room in
      let k : length c.given ≤ length given = rw (length-replicate {A = ℕ} (file_assets * file_assets) 0) b.given_room in
      rw (le-leb _ _ h, le-leb _ _ k)

  -- another answer is that of a file that is no question
  pub unfound : (e : ReadError) (a b : List ℕ) → into (Err e) a b ≡ read_into (read_question s) returns given → outcome_text (refused malformed_number) ≡ marking s
  unfolding marking examined read_into
  unfound x a b e = go (read_question s) refl e
    where
      go : (o : Option Contents) → read_question s ≡ o → into (Err x) a b ≡ read_into o returns given → outcome_text (refused malformed_number) ≡ outcome_text (examined o)
      go None w e = refl
      go (Some c) w e = absurd (apart _ _ _ _ _ _ (rw (has_room c w) at e))

  module _ (q : Question) (a b : List ℕ) (e : into (Ok q) a b ≡ read_into (read_question s) returns given) where
    -- what `examine` asks, with what it answers
    pub record Examined : Type 0 where
      pub assets_few : q.assets ≤ file_assets
      pub periods_few : q.periods ≤ file_periods
      pub returns_front : q.periods * q.assets ≤ file_periods * file_assets
      pub given_front : given_count q ≤ file_assets * file_assets
      pub text : (g : ℕ) → g ≡ given_count q → outcome_text (answer_of (contents q (take (q.periods * q.assets) a) (take g b))) ≡ marking s

    pub found : Examined
    unfolding marking examined read_into
    found = go (read_question s) refl e
      where
        go : (o : Option Contents) → read_question s ≡ o → into (Ok q) a b ≡ read_into o returns given → Examined
        go None w e = absurd (apart _ _ _ _ _ _ (sym e))
        go (Some c) w e =
            let h = holds q returns given a b c e in
            let k = read_beside s c w in
            let n : length c.returns ≡ q.periods * q.assets = rw h.record_is k.returns_counted in
            let m : length c.given ≡ given_count q = rw h.record_is k.given_as_said in
            record {
              assets_few = rw h.record_is k.assets_few;
              periods_few = rw h.record_is k.periods_few;
              returns_front = rw (← n) k.returns_room;
              given_front = rw (← m) k.given_room;
              text = λ g eg. rw (
                eg,
                w,
                h.returns_are,
                h.given_are,
                take_at c.returns (drop (length c.returns) returns) (q.periods * q.assets) n,
                take_at c.given (drop (length c.given) given) (given_count q) m,
                h.record_is,
              );
            }
