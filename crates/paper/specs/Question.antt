-- Document 02, "Paper 5. Question authors write files": the question record, which stands between the reader and the marking; what a file says in its terms; and
-- a file read into lent slices. A number is its 64 bits, so that a NaN keeps its own. The returns and the given entries stand beside the record. Definitions only.
use Rattle.std.specs.Prelude.{ℕ, ◌*◌, Bool, true, false, ◌&&◌, cond, List, [], ◌++◌, length, get_or, drop, leb, eqb, Option, Some, None, Result, Ok, Err}
use Rattle.rules.specs.Adjusted.{is_given}
use Rattle.rules.specs.Settings.{target_of}
use Rattle.paper.specs.declared.format.Outline.{Outline}
use Rattle.rules.specs.declared.Estimate.{Estimate}
use Rattle.rules.specs.declared.Decay.TheVariants.{HalfLife, Lambda}
use Rattle.rules.specs.declared.Estimate.TheVariants.{Sample, Given, Weighted, Semi, SemiBelow}
use Rattle.rules.specs.declared.Shrinkage.{Shrinkage}
use Rattle.rules.specs.declared.Shrinkage.TheVariants.{Unshrunk, Fixed, LedoitWolf}
use Rattle.rules.specs.declared.Regularization.{Regularization}
use Rattle.rules.specs.declared.Regularization.TheVariants.{Unregularized, Ridge}
use Rattle.paper.specs.declared.question.Asked.{Asked}
use Rattle.paper.specs.declared.question.Asked.TheVariants.{Covariance, WeightedMean, JamesStein, BayesStein}
use Rattle.paper.specs.declared.question.Question.{Question}
use Rattle.paper.specs.declared.reading.ReadError.{ReadError}
use Rattle.paper.specs.declared.reading.ReadError.TheVariants.{Malformed, TooShort}
use Rattle.paper.specs.Grammar.{kinds, place_in}
use Rattle.paper.specs.Rules.{outline, has, value, assets, periods, Reading, malformed, question, read_paper}

-- a question: its record, its returns and its given entries
pub record Contents : Type 0 where
  pub question : Question
  pub returns : List ℕ
  pub given : List ℕ

abbrev pub contents : Question → List ℕ → List ℕ → Contents
contents q returns given = record { question = q; returns = returns; given = given }

-- ---- what a file says, from the outline of its bodies

unfoldable pub estimate_in : Outline → Estimate ℕ
estimate_in o =
    cond (has o 6) (Weighted (HalfLife (value o 6)))
    (cond (has o 12) (Weighted (Lambda (value o 12)))
    (cond (has o 7) Semi
    (cond (has o 8) (SemiBelow (value o 8))
    (cond (has o 9) Given Sample))))

unfoldable pub shrinkage_in : Outline → Shrinkage ℕ
shrinkage_in o = cond (has o 4) (Fixed (value o 4)) (cond (has o 5) (LedoitWolf (target_of (value o 5))) Unshrunk)

unfoldable pub regularization_in : Outline → Regularization ℕ
regularization_in o = cond (has o 3) (Ridge (value o 3)) Unregularized

unfoldable pub limit_in : Outline → Option ℕ
limit_in o = cond (has o 10) (Some (value o 10)) None

unfoldable pub asked_of : ℕ → Asked
asked_of number = cond (eqb number 0) Covariance (cond (eqb number 1) WeightedMean (cond (eqb number 2) JamesStein BayesStein))

unfoldable pub question_in : Outline → Question
question_in o = record {
  assets = assets o;
  periods = periods o;
  estimate = estimate_in o;
  shrinkage = shrinkage_in o;
  regularization = regularization_in o;
  limit = limit_in o;
  asked = asked_of (value o 11);
}

-- the bodies of kind b
abbrev pub of_kind : List (List ℕ) → ℕ → List ℕ
of_kind lists b = get_or lists (place_in kinds b) []

unfoldable pub contents_in : List (List ℕ) → Contents
contents_in lists = contents (question_in (outline lists)) (of_kind lists 2) (of_kind lists 9)

unfoldable pub said : Reading → Option Contents
said malformed = None
said (question lists) = Some (contents_in lists)

-- nothing where the file is no question
unfoldable pub read_question : List ℕ → Option Contents
read_question file = said (read_paper file)

-- ---- how many numbers stand beside a record

unfoldable pub given_count : Question → ℕ
given_count q = cond (is_given q.estimate) (q.assets * q.assets) 0

-- ---- a file read into lent slices

-- numbers at the front of a slice, which is as it was behind them
abbrev pub front : List ℕ → List ℕ → List ℕ
front xs slice = xs ++ drop (length xs) slice

pub record Into : Type 0 where
  pub read : Result Question ReadError
  pub returns : List ℕ
  pub given : List ℕ

abbrev pub into : Result Question ReadError → List ℕ → List ℕ → Into
into read returns given = record { read = read; returns = returns; given = given }

-- both slices are long enough
abbrev pub room : Contents → List ℕ → List ℕ → Bool
room c returns given = leb (length c.returns) (length returns) && leb (length c.given) (length given)

-- nothing is written where the file is no question, nor where a slice is too short
unfoldable pub read_into : Option Contents → List ℕ → List ℕ → Into
read_into None returns given = into (Err Malformed) returns given
read_into (Some c) returns given = cond (room c returns given) (into (Ok c.question) (front c.returns returns) (front c.given given)) (into (Err TooShort) returns given)
