-- Document 01, "The exam program", and document 02, "Paper 1", kind 12: the question file. The grammar is data: the kinds in the order of the file, each
-- with its byte, the length of its body and how many records of it there may be. A file is taken kind by kind; what is read of a kind is the list of its
-- bodies, as numbers. A number of 8 bytes stays a number here, since a float would not keep the bits of a NaN. Definitions only.
use Rattle.std.specs.Prelude.{ℕ, zero, suc, ◌+◌, ◌*◌, Bool, ◌&&◌, cond, List, [], ◌∷◌, length, get_or, take, drop, ltb, eqb}
use Rattle.paper.specs.declared.kinds.Kind.{Kind}

-- in a file, n is at most 8 and T at most 128
abbrev pub file_assets : ℕ
file_assets = 8

abbrev pub file_periods : ℕ
file_periods = 128

abbrev pub kind : ℕ → ℕ → ℕ → Kind
kind b l m = record { byte = b; body = l; most = m }

-- 1 assets and periods, 2 a return, 3 regularization, 4 fixed shrinkage, 5 target, 6 half-life, 7 semi, 8 semi threshold, 9 a given entry, 10 sweep limit,
-- 12 decay factor, 11 question
unfoldable pub kinds : List Kind
kinds =
    kind 1 4 1 ∷
    kind 2 8 (file_periods * file_assets) ∷
    kind 3 8 1 ∷
    kind 4 8 1 ∷
    kind 5 1 1 ∷
    kind 6 8 1 ∷
    kind 7 0 1 ∷
    kind 8 8 1 ∷
    kind 9 8 (file_assets * file_assets) ∷
    kind 10 1 1 ∷
    kind 12 8 1 ∷
    kind 11 1 1 ∷
    []

-- where the kind of a byte stands in a table
unfoldable pub place_in : List Kind → ℕ → ℕ
place_in [] b = 0
place_in (k ∷ ks) b = cond (eqb k.byte b) 0 (suc (place_in ks b))

-- ---- one kind

-- little-endian
unfoldable pub little : List ℕ → ℕ
little [] = 0
little (b ∷ bs) = b + 256 * little bs

-- a record of the kind stands in front, body and all
unfoldable pub starts : Kind → List ℕ → Bool
starts k bs = ltb k.body (length bs) && eqb (get_or bs 0 0) k.byte

-- the body of the record in front
abbrev pub body : Kind → List ℕ → ℕ
body k bs = little (take k.body (drop 1 bs))

-- the bodies that were read, and the bytes after them
pub record Taken : Type 0 where
  pub bodies : List ℕ
  pub rest : List ℕ

abbrev pub none : List ℕ → Taken
none bs = record { bodies = []; rest = bs }

abbrev pub more : ℕ → Taken → Taken
more v t = record { bodies = v ∷ t.bodies; rest = t.rest }

-- the records of the kind in front, m at most
unfoldable pub taken : Kind → ℕ → List ℕ → Taken
taken k zero bs = none bs
taken k (suc m) bs = cond (starts k bs) (more (body k bs) (taken k m (drop (k.body + 1) bs))) (none bs)

-- ---- all kinds

-- the bodies of each kind, in the order of the file, and the bytes after the last
pub record Sheet : Type 0 where
  pub lists : List (List ℕ)
  pub rest : List ℕ

abbrev pub also : List ℕ → Sheet → Sheet
also vs s = record { lists = vs ∷ s.lists; rest = s.rest }

unfoldable pub sheet : List Kind → List ℕ → Sheet
sheet [] bs = record { lists = []; rest = bs }
sheet (k ∷ ks) bs = let t = taken k k.most bs in also t.bodies (sheet ks t.rest)
