-- Document 01, "The exam program", the output: what is printed of an answer. Definitions only.
use Rattle.std.specs.Prelude.{ℕ, suc, ◌/◌, ◌%◌, List, [], ◌∷◌, ◌++◌, Float, Result, Ok, Err}
use Rattle.std.specs.Float.{binary64}
use Rattle.std.specs.Float.Ieee.{to_bits}
use Rattle.rules.specs.Refusals.{number}
use Rattle.rules.specs.declared.Answer.{Answer}
use Rattle.rules.specs.declared.Refusal.{Refusal}
use Rattle.paper.specs.Text.{line_feed, space, digits, decimal}
use Rattle.paper.specs.Screen.{screen_text}

-- sixteen hexadecimal digits; `to_bits` has 7FF8000000000000 for NaN
abbrev pub bits_text : Float → List ℕ
bits_text x = digits 16 16 (to_bits binary64 x)

-- row, column, bits and screen number, parted by one space, and a line feed
unfoldable pub line_text : ℕ → ℕ → Float → List ℕ
line_text i j x = decimal i ++ (space ∷ (decimal j ++ (space ∷ (bits_text x ++ (space ∷ (screen_text x ++ (line_feed ∷ [])))))))

-- the entries from entry k on, row by row, c to a row
unfoldable pub lines_text : ℕ → ℕ → List Float → List ℕ
lines_text c k [] = []
lines_text c k (x ∷ xs) = line_text (k / c) (k % c) x ++ lines_text c (suc k) xs

-- the number of a file that is no question
abbrev pub malformed_number : ℕ
malformed_number = 15

-- refused with a number; or n rows of c columns, with their entries
pub data Outcome : Type 0 where
  refused : ℕ → Outcome
  ok : ℕ → ℕ → List Float → Outcome

-- what the engine returned, as n rows of c columns, with its answer slice
unfoldable pub outcome : ℕ → ℕ → Result Answer Refusal → List Float → Outcome
outcome n c (Err r) xs = refused (number r)
outcome n c (Ok a) xs = ok n c xs

-- `refused N`, or `ok n c` and the lines
unfoldable pub outcome_text : Outcome → List ℕ
outcome_text (refused k) = 114 ∷ 101 ∷ 102 ∷ 117 ∷ 115 ∷ 101 ∷ 100 ∷ space ∷ (decimal k ++ (line_feed ∷ []))
outcome_text (ok n c xs) = 111 ∷ 107 ∷ space ∷ (decimal n ++ (space ∷ (decimal c ++ (line_feed ∷ lines_text c 0 xs))))
