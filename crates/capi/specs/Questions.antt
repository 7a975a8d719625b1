-- What only the contracts of the C interface cite: a question written and read, with the numbers that are returned (include/engine.h). Definitions only.
use Rattle.std.specs.Prelude.{ℕ, Bool, true, false, List, Result, Ok, Err}
use Rattle.leaves.specs.Numbers.{zero⁺}
use Rattle.paper.specs.declared.question.Question.{Question}
use Rattle.paper.specs.declared.reading.ReadError.{ReadError}
use Rattle.paper.specs.declared.reading.ReadError.TheVariants.{Malformed, TooShort}
use Rattle.paper.specs.Answer.{malformed_number}
use Rattle.paper.specs.Question.{contents, read_into, read_question}
use Rattle.writer.specs.declared.calls.WriteError.{WriteError}
use Rattle.writer.specs.declared.calls.WriteError.TheVariants.{BreaksFormat, TooShort as ShortOutput}
use Rattle.writer.specs.Writer.{written}
use Rattle.capi.specs.Report.{reported}
use Rattle.capi.specs.Record.{bits_of, wholes_of}
use Rattle.capi.specs.Calls.{unknown_kind}
use Rattle.capi.specs.declared.report.Report.{Report}

-- ---- the writer

-- the numbers of its two refusals
abbrev pub broken_number : ℕ
broken_number = 17

abbrev pub short_number : ℕ
short_number = 18

abbrev pub report_of_written : Result ℕ WriteError → Report
report_of_written (Err BreaksFormat) = reported broken_number zero⁺ zero⁺ 0 0
report_of_written (Err ShortOutput) = reported short_number zero⁺ zero⁺ 0 0
report_of_written (Ok count) = reported 0 zero⁺ zero⁺ count 0

-- what a call leaves behind: the report, and the output
pub record LeftFile : Type 0 where
  pub report : Report
  pub out : List ℕ

abbrev pub left_file : Report → List ℕ → LeftFile
left_file report out = record { report = report; out = out }

unfoldable pub engine_write_question : Bool → Question → List ℕ → List ℕ → List ℕ → LeftFile
engine_write_question true q returns given out = let w = written (contents q returns given) out in left_file (report_of_written w.answer) w.out
engine_write_question false q returns given out = left_file (reported unknown_kind zero⁺ zero⁺ 0 0) out

-- ---- the reader

abbrev pub short_slice : ℕ
short_slice = 4

-- what a call leaves behind: its number, the two slices, and the record in numbers
pub record LeftRecord : Type 0 where
  pub number : ℕ
  pub returns : List ℕ
  pub given : List ℕ
  pub bits : List ℕ
  pub wholes : List ℕ

abbrev pub left_record : ℕ → List ℕ → List ℕ → List ℕ → List ℕ → LeftRecord
left_record number returns given bits wholes = record { number = number; returns = returns; given = given; bits = bits; wholes = wholes }

-- a refusal leaves bits and wholes as they were
abbrev pub told_record : Result Question ReadError → List ℕ → List ℕ → List ℕ → List ℕ → LeftRecord
told_record (Err Malformed) returns given bits wholes = left_record malformed_number returns given bits wholes
told_record (Err TooShort) returns given bits wholes = left_record short_slice returns given bits wholes
told_record (Ok q) returns given bits wholes = left_record 0 returns given (bits_of q) (wholes_of q)

unfoldable pub engine_read_question : List ℕ → List ℕ → List ℕ → List ℕ → List ℕ → LeftRecord
engine_read_question file returns given bits wholes = let i = read_into (read_question file) returns given in told_record i.read i.returns i.given bits wholes
