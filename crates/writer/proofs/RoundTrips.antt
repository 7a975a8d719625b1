-- Document 02, "Paper 5. Question authors write files", as theorems: reading what was written gives the question, with the same bits and a missing limit as missing;
-- writing what was read gives the file; the file is as long as the kinds say; and a question is written exactly where some file reads as it. Assumes nothing.
use mathlib.Core.Path.{◌≡◌, refl, sym, ap, ◌∙◌, subst}
use mathlib.Core.Bool.{true, and-eq-true_iff}
use mathlib.Core.List.{List, [], ◌∷◌, ◌++◌, append-nil}
use mathlib.Core.Logic.{◌↔◌}
use Rattle.std.specs.Prelude.{Some}
use Prim.Native.Nat.{ℕ, suc, ◌+◌, ◌≤◌, ◌<◌}
use native.Mathlib.Omega.{arith}
use lib.ListN.{length}
use lib.Pow.{are_bytes}
use lib.Dec.{ltb, eqb, T}
use lib.Ieee.Fits.{and_l}
use lib.Ieee.Bits.{is_true}
use borrow.Author.Tests.{eqb-true, ltb-true}
use Rattle.paper.specs.Grammar.{kinds, place_in, Sheet, sheet}
use Rattle.paper.specs.Rules.{first_of, outline, well_formed, is_question}
use Rattle.paper.specs.Question.{Contents, of_kind, contents_in, read_question}
use Rattle.paper.proofs.Outlines.{well_formed_lem, ruled}
use Rattle.paper.proofs.Questions.{read_as, is_read}
use Rattle.writer.specs.Bodies.{bodies}
use Rattle.writer.specs.Files.{file_of, file, smallest_length}
use Rattle.writer.specs.Writer.{record_kept, keeps_format}
use Rattle.writer.proofs.Trips.{below, sheet_forth, sheet_back, sheet_within, file_length, file_bytes}
use Rattle.writer.proofs.Contents.{Kept, sheet_by_kinds, contents_back, lists_back, kept_format}
use Rattle.writer.proofs.Fits.{Words, fits}

-- ---- the file is as long as the kinds say

pub file_long : (c : Contents) → length (file c) ≡ smallest_length c
unfolding file smallest_length
file_long c = file_length kinds (bodies c)

-- ---- reading what was written

module _ (c : Contents) (keeps : keeps_format c ≡ true) where
  meets_rules : well_formed (outline (bodies c)) ≡ true
  unfolding keeps_format
  meets_rules = ((and-eq-true_iff (record_kept c.question c.given) _).0 keeps).1

  pub read_written : Words c → read_question (file c) ≡ Some c
  unfolding file is_question
  read_written w =
      let s : sheet kinds (file c) ≡ record { lists = bodies c; rest = [] } = sheet_forth kinds (bodies c) (fits c w keeps) in
      let q : is_question (sheet kinds (file c)) ≡ true = rw s meets_rules in
      is_read (file c) q ∙ ap Some (ap (λ (x : Sheet). contents_in x.lists) s ∙ contents_back c keeps)

-- ---- writing what was read

first_below : (n : ℕ) (vs : List ℕ) → T (below (n + 1) vs) → first_of vs ≤ n
first_below n [] t = omega arith
first_below n (v ∷ vs) t = let h : v < n + 1 = ltb-true v (n + 1) (is_true _ (and_l (ltb v (n + 1)) (below (n + 1) vs) t)) in omega arith

first_none : (vs : List ℕ) → T (below 1 vs) → first_of vs ≡ 0
first_none vs t = let h : first_of vs ≤ 0 = first_below 0 vs t in omega arith

none_left : (bs : List ℕ) → length bs ≡ 0 → bs ≡ []
none_left [] e = refl
none_left (b ∷ bs) e = absurd (no (length bs) e)
  where
    no : (n : ℕ) → suc n ≡ 0 → ⊥
    no n e = omega arith

module _ (bs : List ℕ) (bytes : T (are_bytes bs)) where
  kept : Kept (sheet kinds bs).lists
  unfolding sheet kinds place_in
  kept =
      let w = sheet_within kinds bs bytes in
      let w3 = w.2.2 in
      let w6 = w3.2.2.2 in
      let w10 = w6.2.2.2.2 in
      record {
        by_kinds_lem = sheet_by_kinds bs;
        one_ridge = w3.0;
        one_fixed = w3.2.0;
        one_target = w3.2.2.0;
        one_half_life = w6.0;
        one_semi = w6.2.0;
        one_threshold = w6.2.2.0;
        one_limit = w10.0;
        one_factor = w10.2.0;
        semi_empty = first_none (of_kind (sheet kinds bs).lists 7) w6.2.1;
        limit_byte = first_below 255 (of_kind (sheet kinds bs).lists 10) w10.1;
      }

  module _ (c : Contents) (read : read_question bs ≡ Some c) where
    rules_met : well_formed (outline (sheet kinds bs).lists) ≡ true
    rules_met = well_formed_lem (sheet kinds bs) (read_as bs c read).is_question_lem

    nothing_left : (sheet kinds bs).rest ≡ []
    unfolding is_question
    nothing_left = none_left _ (eqb-true _ 0 ((and-eq-true_iff (eqb (length (sheet kinds bs).rest) 0) _).0 (read_as bs c read).is_question_lem).0)

    -- it is written
    pub keeps_read : keeps_format c ≡ true
    keeps_read = subst (λ (x : Contents). keeps_format x ≡ true) (read_as bs c read).contents_are (kept_format (sheet kinds bs).lists rules_met kept)

    pub written_read : file c ≡ bs
    unfolding file
    written_read =
        let lists = (sheet kinds bs).lists in
        let back : bodies c ≡ lists = ap bodies (sym (read_as bs c read).contents_are) ∙ lists_back lists kept (ruled (outline lists) rules_met) in
        ap (file_of kinds) back ∙ sym (append-nil (file_of kinds lists)) ∙ ap (λ (r : List ℕ). file_of kinds lists ++ r) (sym nothing_left) ∙ sheet_back kinds bs bytes

-- ---- exactly

-- some file reads as c
pub record Source (c : Contents) : Type 0 where
  pub source : List ℕ
  pub bytes : T (are_bytes source)
  pub reads : read_question source ≡ Some c

pub written_exactly : (c : Contents) → Words c → (keeps_format c ≡ true) ↔ Source c
unfolding file kinds
written_exactly c w = (
  λ keeps. record { source = file c; bytes = file_bytes kinds (bodies c) tt; reads = read_written c keeps w },
  λ s. keeps_read s.source s.bytes c s.reads,
)
