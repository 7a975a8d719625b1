-- The writer's answer, from what its code holds: the tests, the length and the file. Assumes nothing.
use mathlib.Core.Path.{◌≡◌, sym, ap, ◌∙◌}
use mathlib.Core.Bool.{true, false}
use mathlib.Core.List.{List}
use Rattle.std.specs.Prelude.{Ok, Err}
use Prim.Native.Nat.{ℕ, ◌*◌, ◌^◌, ◌≤◌, ◌<◌}
use native.Mathlib.Nat.{zero-add}
use native.Mathlib.Omega.{arith}
use lib.ListN.{length}
use borrow.Author.Tests.{le-leb, lt-leb}
use Rattle.paper.specs.declared.format.Outline.{Outline}
use Rattle.paper.specs.declared.question.Question.{Question}
use Rattle.paper.specs.Text.{out, write}
use Rattle.paper.specs.Grammar.{file_assets, file_periods, kinds, place_in}
use Rattle.paper.specs.Rules.{outline, well_formed}
use Rattle.paper.specs.Question.{Contents, contents, front}
use Rattle.paper.specs.Inner.{buffer}
use Rattle.paper.proofs.Writes.{write_room}
use Rattle.paper.proofs.Outlines.{Ruled, ruled}
use Rattle.paper.proofs.Questions.{returns_few, given_few}
use Rattle.writer.specs.declared.calls.WriteError.TheVariants.{BreaksFormat, TooShort}
use Rattle.writer.specs.Bodies.{bodies}
use Rattle.writer.specs.Files.{file_of, file, length_of, smallest_length}
use Rattle.writer.specs.Writer.{record_kept, keeps_format, left, written}
use Rattle.writer.specs.Inner.{held}
use Rattle.writer.proofs.Held.{held_is, length_few}
use Rattle.writer.proofs.Trips.{file_length}

module _ (q : Question) (returns given s : List ℕ) where
  abbrev c : Contents
  c = contents q returns given

  pub broken_record : record_kept q given ≡ false → left (Err BreaksFormat) s ≡ written c s
  unfolding written keeps_format
  broken_record e = rw e

  module _ (kept : record_kept q given ≡ true) (o : Outline) (eo : o ≡ outline (bodies c)) where
    pub broken_rules : well_formed o ≡ false → left (Err BreaksFormat) s ≡ written c s
    unfolding written keeps_format
    broken_rules e = rw (kept, ← eo, e)

    module _ (ok : well_formed o ≡ true) where
      keeps : keeps_format c ≡ true
      unfolding keeps_format
      keeps = rw (kept, ← eo, ok)

      length_is : length_of kinds o.counts ≡ smallest_length c
      unfolding smallest_length outline
      length_is = rw eo

      rules : Ruled (outline (bodies c))
      rules = ruled (outline (bodies c)) (rw (← eo) ok)

      few_returns : length returns ≤ file_periods * file_assets
      unfolding outline bodies kinds place_in
      few_returns = returns_few (outline (bodies c)) rules

      few_given : length given ≤ file_assets * file_assets
      unfolding outline bodies kinds place_in
      few_given = given_few (outline (bodies c)) rules

      pub length_small : length_of kinds o.counts < 2 ^ 64
      unfolding outline
      length_small = rw eo (length_few c few_returns few_given)

      is_file : file_of kinds (held o returns given) ≡ file c
      unfolding file
      is_file = rw (eo, held_is c)

      file_long : length (file c) ≡ smallest_length c
      unfolding file smallest_length
      file_long = file_length kinds (bodies c)

      module _ (n : ℕ) (en : n ≡ length_of kinds o.counts) where
        pub too_short : length s < n → left (Err TooShort) s ≡ written c s
        unfolding written
        too_short h = rw (keeps, ← length_is, ← en, lt-leb _ _ h)

        pub all_written : n ≤ length s → (v : List ℕ) (r : ℕ) → out v r ≡ write (out s 0) (file_of kinds (held o returns given)) → left (Ok n) v ≡ written c s
        unfolding written
        all_written h v r e =
            let t = file c in
            let long : length t ≡ n = file_long ∙ sym length_is ∙ sym en in
            let stands : v ≡ front t s = ap buffer (e ∙ ap (write (out s 0)) is_file ∙ write_room t s 0 (omega arith)) ∙ rw (zero-add (length t)) in
            rw (keeps, ← length_is, ← en, le-leb _ _ h) (ap (left (Ok n)) stands)
