-- Document 02, "Paper 5. Question authors write files": which questions are written, and the writer. `written_exactly` (proofs/RoundTrips.antt) proves that they are those
-- that some file reads as. Definitions only.
use Rattle.std.specs.Prelude.{ℕ, Bool, true, not, ◌&&◌, cond, List, length, leb, eqb, Option, Some, None, Result, Ok, Err}
use Rattle.paper.specs.declared.question.Question.{Question}
use Rattle.paper.specs.Grammar.{file_assets, file_periods}
use Rattle.paper.specs.Rules.{outline, well_formed}
use Rattle.rules.specs.Adjusted.{is_given}
use Rattle.paper.specs.Question.{Contents, given_count, front}
use Rattle.writer.specs.declared.calls.WriteError.{WriteError}
use Rattle.writer.specs.declared.calls.WriteError.TheVariants.{BreaksFormat, TooShort}
use Rattle.writer.specs.Bodies.{bodies}
use Rattle.writer.specs.Files.{file, smallest_length}

-- ---- 17: what breaks a rule of the format, or has a given matrix of 0 assets

-- n and T within the file's limits, and so within their 2 bytes
unfoldable pub shape_kept : Question → Bool
shape_kept q = leb q.assets file_assets && leb q.periods file_periods

-- a limit of one byte
abbrev pub limit_kept : Option ℕ → Bool
limit_kept None = true
limit_kept (Some limit) = leb limit 255

-- as many given entries as the estimate says: n × n, which is not 0, or none
unfoldable pub given_kept : Question → List ℕ → Bool
given_kept q given = not (is_given q.estimate && eqb q.assets 0) && eqb (length given) (given_count q)

abbrev pub record_kept : Question → List ℕ → Bool
record_kept q given = shape_kept q && limit_kept q.limit && given_kept q given

-- and what would stand in the file meets the reader's rules
unfoldable pub keeps_format : Contents → Bool
keeps_format c = record_kept c.question c.given && well_formed (outline (bodies c))

-- ---- the writer

-- what is answered, and the output after it
pub record Left : Type 0 where
  pub answer : Result ℕ WriteError
  pub out : List ℕ

abbrev pub left : Result ℕ WriteError → List ℕ → Left
left answer out = record { answer = answer; out = out }

-- 17, then 18 where the output is too short, then the file with its length
unfoldable pub written : Contents → List ℕ → Left
written c out =
    cond (not (keeps_format c)) (left (Err BreaksFormat) out)
    (cond (not (leb (smallest_length c) (length out))) (left (Err TooShort) out)
    (left (Ok (smallest_length c)) (front (file c) out)))
