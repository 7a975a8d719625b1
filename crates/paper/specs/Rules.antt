-- Document 01, "The exam program", and document 02, "Paper 1", kind 12: which files are questions. The rules look at an outline: of each kind, in the order
-- of the file, how many records there are and the first body, 0 where there is none. Definitions only.
use Rattle.std.specs.Prelude.{ℕ, suc, ◌*◌, ◌/◌, ◌%◌, Bool, not, ◌&&◌, ◌||◌, cond, List, [], ◌∷◌, map, length, get_or, leb, eqb}
use Rattle.rules.specs.Settings.{is_target}
use Rattle.paper.specs.declared.format.Outline.{Outline}
use Rattle.paper.specs.Grammar.{file_assets, file_periods, kinds, place_in, Sheet, sheet}

abbrev pub first_of : List ℕ → ℕ
first_of vs = get_or vs 0 0

unfoldable pub outline : List (List ℕ) → Outline
outline q = record { counts = map length q; firsts = map first_of q }

-- how many records of the kind b there are, whether there is any, and the first body
abbrev pub count : Outline → ℕ → ℕ
count o b = get_or o.counts (place_in kinds b) 0

abbrev pub has : Outline → ℕ → Bool
has o b = not (eqb (count o b) 0)

abbrev pub value : Outline → ℕ → ℕ
value o b = get_or o.firsts (place_in kinds b) 0

-- n and T, of 16 bits each
abbrev pub assets : Outline → ℕ
assets o = value o 1 % 65536

abbrev pub periods : Outline → ℕ
periods o = value o 1 / 65536

-- how many of the listed kinds come
unfoldable pub present : Outline → List ℕ → ℕ
present o [] = 0
present o (b ∷ bs) = cond (has o b) (suc (present o bs)) (present o bs)

-- ---- the rules

-- one shape, within the limits; T × n returns; n × n given entries or none
unfoldable pub shape_fits : Outline → Bool
shape_fits o =
    eqb (count o 1) 1 && leb (assets o) file_assets && leb (periods o) file_periods &&
    eqb (count o 2) (periods o * assets o) && (eqb (count o 9) 0 || eqb (count o 9) (assets o * assets o))

abbrev pub settings : List ℕ
settings = 3 ∷ 4 ∷ 5 ∷ 6 ∷ 7 ∷ 8 ∷ 9 ∷ 10 ∷ 12 ∷ []

abbrev pub shrinkages : List ℕ
shrinkages = 4 ∷ 5 ∷ []

abbrev pub estimates : List ℕ
estimates = 6 ∷ 7 ∷ 8 ∷ 9 ∷ 12 ∷ []

-- at most one shrinkage and one estimate; a known target
unfoldable pub settings_fit : Outline → Bool
settings_fit o = leb (present o shrinkages) 1 && leb (present o estimates) 1 && is_target (value o 5)

-- a half-life or a decay factor
unfoldable pub has_decay : Outline → Bool
has_decay o = has o 6 || has o 12

-- what question q takes: 0 covariance, a sweep limit only beside a given matrix; 1 weighted mean, a half-life or a decay factor and no other setting;
-- 2 James-Stein and 3 Bayes-Stein, a sweep limit alone
unfoldable pub takes : ℕ → Outline → Bool
takes q o =
    cond (eqb q 0) (not (has o 10) || has o 9)
    (cond (eqb q 1) (has_decay o && eqb (present o settings) 1)
    (leb q 3 && eqb (present o settings) (present o (10 ∷ []))))

unfoldable pub well_formed : Outline → Bool
well_formed o = shape_fits o && settings_fit o && (eqb (count o 11) 1 && takes (value o 11) o)

-- ---- reading

pub data Reading : Type 0 where
  malformed : Reading
  -- the bodies of each kind, in the order of the file
  question : List (List ℕ) → Reading

-- nothing is left over, and the rules are met
unfoldable pub is_question : Sheet → Bool
is_question s = eqb (length s.rest) 0 && well_formed (outline s.lists)

unfoldable pub read_paper : List ℕ → Reading
read_paper bs = let s = sheet kinds bs in cond (is_question s) (question s.lists) malformed
