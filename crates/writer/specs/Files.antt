-- Document 02, "Paper 5. Question authors write files": the file of a question, by the reader's table of kinds, and how long it is. Definitions only.
use Rattle.std.specs.Prelude.{ℕ, zero, suc, ◌+◌, ◌*◌, ◌/◌, ◌%◌, List, [], ◌∷◌, ◌++◌, map, length}
use Rattle.paper.specs.declared.kinds.Kind.{Kind}
use Rattle.paper.specs.Grammar.{kinds}
use Rattle.paper.specs.Question.{Contents}
use Rattle.writer.specs.Bodies.{bodies}

-- v in l bytes, little-endian
unfoldable pub bytes_of : ℕ → ℕ → List ℕ
bytes_of zero v = []
bytes_of (suc l) v = v % 256 ∷ bytes_of l (v / 256)

-- a kind's records with these bodies
unfoldable pub records : Kind → List ℕ → List ℕ
records k [] = []
records k (v ∷ vs) = k.byte ∷ (bytes_of k.body v ++ records k vs)

-- the records of each kind, in the order of the table
unfoldable pub file_of : List Kind → List (List ℕ) → List ℕ
file_of [] lists = []
file_of (k ∷ ks) [] = []
file_of (k ∷ ks) (vs ∷ lists) = records k vs ++ file_of ks lists

unfoldable pub file : Contents → List ℕ
file c = file_of kinds (bodies c)

-- the bytes of so many records of each kind: a record is its kind's byte and a body
unfoldable pub length_of : List Kind → List ℕ → ℕ
length_of [] counts = 0
length_of (k ∷ ks) [] = 0
length_of (k ∷ ks) (count ∷ counts) = count * (k.body + 1) + length_of ks counts

-- the smallest output
unfoldable pub smallest_length : Contents → ℕ
smallest_length c = length_of kinds (map length (bodies c))
