-- From a scanned file to its reading, and from that to the question record. Assumes nothing.
use mathlib.Core.Path.{◌≡◌, refl, sym, ap, ◌∙◌, subst}
use mathlib.Core.Bool.{Bool, true, false, cond}
use mathlib.Core.List.{List, flatten}
use Rattle.std.specs.Prelude.{Option, Some, None, Ok, Err}
use lib.Dec.{T}
use Prim.Native.Nat.{ℕ, ◌+◌, ◌-◌, ◌≤◌, ◌<◌}
use native.Mathlib.Omega.{arith}
use lib.ListN.{length, drop, length-drop}
use borrow.Author.Tests.{eq-eqb, ne_eqb, le-leb, lt-leb}
use Rattle.paper.specs.declared.reader.Scanned.{Scanned}
use Rattle.paper.specs.Grammar.{kinds, sheet}
use Rattle.paper.specs.declared.format.Outline.{Outline}
use Rattle.paper.specs.declared.question.Question.{Question}
use Rattle.paper.specs.declared.reading.ReadError.TheVariants.{Malformed, TooShort}
use Rattle.paper.specs.Rules.{outline, count, well_formed, is_question}
use Rattle.paper.specs.Question.{contents, question_in, of_kind, contents_in, read_question, front, into, read_into}
use Rattle.paper.specs.Inner.{max_records, ScannedIs, ReadIs, split, total}
use Rattle.paper.proofs.Writes.{write_room}
use Rattle.paper.proofs.Outlines.{well_formed_lem, Ruled, ruled}
use Rattle.paper.proofs.Scanning.{numbers_fit}
use Rattle.paper.proofs.Pieces.{total_flatten, split_flatten}
use Rattle.paper.proofs.Questions.{count_is, is_read, not_read}

module _ (s v v' : List ℕ) (r : Scanned) (x : ScannedIs (sheet kinds s) s v v' r) where
  abbrev lists : List (List ℕ)
  lists = (sheet kinds s).lists

  left_over : length (sheet kinds s).rest ≡ length s - r.end
  left_over = ap length (sym x.rest) ∙ length-drop r.end s

  -- the code's tests
  pub good_yes : r.end ≡ length s → well_formed r.outline ≡ is_question (sheet kinds s)
  unfolding is_question
  good_yes e = rw (eq-eqb (length (sheet kinds s).rest) 0 (omega (arith, left_over)), ← x.outline_is)

  pub good_no : (r.end ≡ length s → ⊥) → is_question (sheet kinds s) ≡ false
  unfolding is_question
  good_no n = rw (ne_eqb (length (sheet kinds s).rest) 0 (λ e. n (omega (arith, left_over))))

  cut : length v ≡ max_records → split (outline lists).counts v' ≡ lists
  unfolding outline
  cut h =
      let room : 0 + length (flatten lists) ≤ length v = omega (arith, numbers_fit s) in
      rw (x.numbers, write_room (flatten lists) v 0 room) (split_flatten lists (drop (0 + length (flatten lists)) v))

  module _ (h : length v ≡ max_records) (h' : max_records ≡ length v') where
    pub read_is : (o : Option Outline) → o ≡ cond (is_question (sheet kinds s)) (Some (outline lists)) None → ReadIs s v v' o
    read_is o e = record { room = h'; outline_is = e; parts_are = cut h; numbers = x.numbers }

    -- the code's answers
    pub read_some : r.end ≡ length s → well_formed r.outline ≡ true → ReadIs s v v' (Some r.outline)
    read_some e f = read_is _ (rw (sym (good_yes e) ∙ f, x.outline_is))

    pub read_unruly : r.end ≡ length s → well_formed r.outline ≡ false → ReadIs s v v' None
    read_unruly e f = read_is _ (rw (sym (good_yes e) ∙ f))

    pub read_longer : (r.end ≡ length s → ⊥) → ReadIs s v v' None
    read_longer n = read_is _ (rw (good_no n))

-- ---- what `read` tells

module _ (s v v' : List ℕ) where
  pub unread : ReadIs s v v' None → read_question s ≡ None
  unread x = go (is_question (sheet kinds s)) refl x.outline_is
    where
      go : (t : Bool) → is_question (sheet kinds s) ≡ t → None ≡ cond t (Some (outline (sheet kinds s).lists)) None → read_question s ≡ None
      go true w e = cc
      go false w e = not_read s w

  module _ (o : Outline) (x : ReadIs s v v' (Some o)) where
    abbrev parts : List (List ℕ)
    parts = split o.counts v'

    -- it is a question with this outline
    record Read : Type 0 where
      pub asks : is_question (sheet kinds s) ≡ true
      pub is : o ≡ outline (sheet kinds s).lists

    read : Read
    read = go (is_question (sheet kinds s)) refl x.outline_is
      where
        go : (t : Bool) → is_question (sheet kinds s) ≡ t → Some o ≡ cond t (Some (outline (sheet kinds s).lists)) None → Read
        go true w e = let i : o ≡ outline (sheet kinds s).lists = cc in record { asks = w; is = i }
        go false w e = let no : true ≡ false = cc in absurd (subst T no tt)

    pub room_is : total o.counts ≤ length v'
    unfolding outline
    room_is = rw (← x.room, read.is, total_flatten (sheet kinds s).lists) (numbers_fit s)

    pub rules_met : Ruled o
    rules_met = rw read.is (ruled _ (well_formed_lem (sheet kinds s) read.asks))

    parts_are : parts ≡ (sheet kinds s).lists
    parts_are = rw read.is x.parts_are

    pub was_read : read_question s ≡ Some (contents (question_in o) (of_kind parts 2) (of_kind parts 9))
    unfolding contents_in
    was_read = is_read s read.asks ∙ rw (parts_are, read.is)

    bodies_counted : (b : ℕ) → count o b ≡ length (of_kind parts b)
    bodies_counted b = ap (λ (o : Outline). count o b) read.is ∙ count_is (sheet kinds s).lists b ∙ ap (λ (l : List (List ℕ)). length (of_kind l b)) (sym parts_are)

-- ---- what `read_question` answers

module _ (s v v' returns given : List ℕ) where
  pub answer_malformed : ReadIs s v v' None → into (Err Malformed) returns given ≡ read_into (read_question s) returns given
  unfolding read_into
  answer_malformed x = rw (unread s v v' x)

  module _ (o : Outline) (x : ReadIs s v v' (Some o)) where
    abbrev lists_read : List (List ℕ)
    lists_read = split o.counts v'

    returns_counted : count o 2 ≡ length (of_kind lists_read 2)
    returns_counted = bodies_counted s v v' o x 2

    given_counted : count o 9 ≡ length (of_kind lists_read 9)
    given_counted = bodies_counted s v v' o x 9

    pub answer_short_returns : length returns < count o 2 → into (Err TooShort) returns given ≡ read_into (read_question s) returns given
    unfolding read_into
    answer_short_returns h = rw (was_read s v v' o x, lt-leb _ _ (rw returns_counted at h))

    module _ (h : count o 2 ≤ length returns) where
      pub answer_short_given : length given < count o 9 → into (Err TooShort) returns given ≡ read_into (read_question s) returns given
      unfolding read_into
      answer_short_given k = rw (was_read s v v' o x, le-leb _ _ (rw returns_counted at h), lt-leb _ _ (rw given_counted at k))

      pub answer_found : count o 9 ≤ length given → (q : Question) (a b : List ℕ) → q ≡ question_in o → a ≡ front (of_kind lists_read 2) returns
          → b ≡ front (of_kind lists_read 9) given → into (Ok q) a b ≡ read_into (read_question s) returns given
      unfolding read_into
      answer_found k q a b eq ea eb = rw (was_read s v v' o x, le-leb _ _ (rw returns_counted at h), le-leb _ _ (rw given_counted at k), eq, ea, eb)
