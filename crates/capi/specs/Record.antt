-- What only the contracts of the C interface cite: a question record in numbers (include/engine.h), a kind each, with the bits that some kinds have. Definitions only.
use Rattle.std.specs.Prelude.{ℕ, Bool, cond, ◌&&◌, List, [], ◌∷◌, ltb, eqb, Option, Some, None}
use Rattle.rules.specs.declared.Target.TheVariants.{ConstantVariance, ConstantCorrelation}
use Rattle.rules.specs.declared.Estimate.{Estimate}
use Rattle.rules.specs.declared.Decay.TheVariants.{HalfLife, Lambda}
use Rattle.rules.specs.declared.Estimate.TheVariants.{Sample, Given, Weighted, Semi, SemiBelow}
use Rattle.rules.specs.declared.Shrinkage.{Shrinkage}
use Rattle.rules.specs.declared.Shrinkage.TheVariants.{Unshrunk, Fixed, LedoitWolf}
use Rattle.rules.specs.declared.Regularization.{Regularization}
use Rattle.rules.specs.declared.Regularization.TheVariants.{Unregularized, Ridge}
use Rattle.paper.specs.declared.question.Asked.{Asked}
use Rattle.paper.specs.declared.question.Asked.TheVariants.{Covariance, WeightedMean, JamesStein, BayesStein}
use Rattle.paper.specs.declared.question.Question.{Question}
use Rattle.paper.specs.Question.{asked_of}
use Rattle.capi.specs.Settings.{known, estimate_of, shrinkage_of, regularization_of}

-- ---- from numbers

-- how many numbers, from 0 on, stand for a question
abbrev pub question_kinds : ℕ
question_kinds = 4

-- and whether there is a limit: 0 or 1
unfoldable pub known_question : ℕ → ℕ → ℕ → ℕ → ℕ → Bool
known_question estimate shrinkage regularization has_limit question = known estimate shrinkage regularization && ltb has_limit 2 && ltb question question_kinds

unfoldable pub limit_from : ℕ → ℕ → Option ℕ
limit_from has_limit limit = cond (eqb has_limit 0) None (Some limit)

abbrev pub question_from : ℕ → ℕ → ℕ → ℕ → ℕ → ℕ → ℕ → ℕ → ℕ → ℕ → ℕ → Question
question_from assets periods estimate estimateBits shrinkage shrinkageBits regularization regularizationBits has_limit limit question = record {
  assets = assets;
  periods = periods;
  estimate = estimate_of estimate estimateBits;
  shrinkage = shrinkage_of shrinkage shrinkageBits;
  regularization = regularization_of regularization regularizationBits;
  limit = limit_from has_limit limit;
  asked = asked_of question;
}

-- ---- to numbers; 0 for the bits that a kind does not have

abbrev pub estimate_kind : Estimate ℕ → ℕ
estimate_kind Sample = 0
estimate_kind Given = 1
estimate_kind (Weighted (HalfLife bits)) = 2
estimate_kind (Weighted (Lambda bits)) = 5
estimate_kind Semi = 3
estimate_kind (SemiBelow bits) = 4

abbrev pub estimate_value : Estimate ℕ → ℕ
estimate_value Sample = 0
estimate_value Given = 0
estimate_value (Weighted (HalfLife bits)) = bits
estimate_value (Weighted (Lambda bits)) = bits
estimate_value Semi = 0
estimate_value (SemiBelow bits) = bits

abbrev pub shrinkage_kind : Shrinkage ℕ → ℕ
shrinkage_kind Unshrunk = 0
shrinkage_kind (Fixed bits) = 1
shrinkage_kind (LedoitWolf ConstantVariance) = 2
shrinkage_kind (LedoitWolf ConstantCorrelation) = 3

abbrev pub shrinkage_value : Shrinkage ℕ → ℕ
shrinkage_value Unshrunk = 0
shrinkage_value (Fixed bits) = bits
shrinkage_value (LedoitWolf target) = 0

abbrev pub regularization_kind : Regularization ℕ → ℕ
regularization_kind Unregularized = 0
regularization_kind (Ridge bits) = 1

abbrev pub regularization_value : Regularization ℕ → ℕ
regularization_value Unregularized = 0
regularization_value (Ridge bits) = bits

abbrev pub has_limit : Option ℕ → ℕ
has_limit None = 0
has_limit (Some limit) = 1

abbrev pub limit_value : Option ℕ → ℕ
limit_value None = 0
limit_value (Some limit) = limit

abbrev pub asked_kind : Asked → ℕ
asked_kind Covariance = 0
asked_kind WeightedMean = 1
asked_kind JamesStein = 2
asked_kind BayesStein = 3

unfoldable pub bits_of : Question → List ℕ
bits_of q = estimate_value q.estimate ∷ shrinkage_value q.shrinkage ∷ regularization_value q.regularization ∷ []

unfoldable pub wholes_of : Question → List ℕ
wholes_of q =
    q.assets ∷
    q.periods ∷
    estimate_kind q.estimate ∷
    shrinkage_kind q.shrinkage ∷
    regularization_kind q.regularization ∷
    has_limit q.limit ∷
    limit_value q.limit ∷
    asked_kind q.asked ∷
    []
