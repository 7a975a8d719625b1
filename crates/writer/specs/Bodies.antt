-- Document 02, "Paper 5. Question authors write files": what stands in a question's file, as the bodies of each kind in the order of the file. A kind that does not come
-- has none. Definitions only.
use Rattle.std.specs.Prelude.{ℕ, ◌+◌, ◌*◌, List, [], ◌∷◌, Option, Some, None}
use Rattle.rules.specs.declared.Target.TheVariants.{ConstantVariance, ConstantCorrelation}
use Rattle.rules.specs.declared.Estimate.{Estimate}
use Rattle.rules.specs.declared.Decay.TheVariants.{HalfLife, Lambda}
use Rattle.rules.specs.declared.Estimate.TheVariants.{Sample, Given, Weighted, Semi, SemiBelow}
use Rattle.rules.specs.declared.Shrinkage.{Shrinkage}
use Rattle.rules.specs.declared.Shrinkage.TheVariants.{Unshrunk, Fixed, LedoitWolf}
use Rattle.rules.specs.declared.Regularization.{Regularization}
use Rattle.rules.specs.declared.Regularization.TheVariants.{Unregularized, Ridge}
use Rattle.paper.specs.declared.question.Asked.{Asked}
use Rattle.paper.specs.declared.question.Asked.TheVariants.{Covariance, WeightedMean, JamesStein, BayesStein}
use Rattle.paper.specs.Question.{Contents}

-- ---- one kind each

abbrev pub ridge : Regularization ℕ → List ℕ
ridge Unregularized = []
ridge (Ridge bits) = bits ∷ []

abbrev pub fixed : Shrinkage ℕ → List ℕ
fixed Unshrunk = []
fixed (Fixed bits) = bits ∷ []
fixed (LedoitWolf t) = []

abbrev pub target : Shrinkage ℕ → List ℕ
target Unshrunk = []
target (Fixed bits) = []
target (LedoitWolf ConstantVariance) = 0 ∷ []
target (LedoitWolf ConstantCorrelation) = 1 ∷ []

abbrev pub half_life : Estimate ℕ → List ℕ
half_life Sample = []
half_life Given = []
half_life (Weighted (HalfLife bits)) = bits ∷ []
half_life (Weighted (Lambda bits)) = []
half_life Semi = []
half_life (SemiBelow bits) = []

-- a record without a body, which is the number of no bytes
abbrev pub semi : Estimate ℕ → List ℕ
semi Sample = []
semi Given = []
semi (Weighted decay) = []
semi Semi = 0 ∷ []
semi (SemiBelow bits) = []

abbrev pub threshold : Estimate ℕ → List ℕ
threshold Sample = []
threshold Given = []
threshold (Weighted decay) = []
threshold Semi = []
threshold (SemiBelow bits) = bits ∷ []

abbrev pub factor : Estimate ℕ → List ℕ
factor Sample = []
factor Given = []
factor (Weighted (HalfLife bits)) = []
factor (Weighted (Lambda bits)) = bits ∷ []
factor Semi = []
factor (SemiBelow bits) = []

abbrev pub sweeps : Option ℕ → List ℕ
sweeps None = []
sweeps (Some limit) = limit ∷ []

abbrev pub asked_number : Asked → ℕ
asked_number Covariance = 0
asked_number WeightedMean = 1
asked_number JamesStein = 2
asked_number BayesStein = 3

-- n and T, of 16 bits each
abbrev pub shape : ℕ → ℕ → ℕ
shape n T = n + 65536 * T

-- ---- all kinds

-- 1 assets and periods, 2 the returns, 3 regularization, 4 fixed shrinkage, 5 target, 6 half-life, 7 semi, 8 semi threshold, 9 the given entries, 10 sweep limit,
-- 12 decay factor, 11 question
unfoldable pub bodies : Contents → List (List ℕ)
bodies c =
    let q = c.question in
    (shape q.assets q.periods ∷ []) ∷
    c.returns ∷
    ridge q.regularization ∷
    fixed q.shrinkage ∷
    target q.shrinkage ∷
    half_life q.estimate ∷
    semi q.estimate ∷
    threshold q.estimate ∷
    c.given ∷
    sweeps q.limit ∷
    factor q.estimate ∷
    (asked_number q.asked ∷ []) ∷
    []
