-- Document 01, "The exam program", with document 02, "Paper 1", kind 12, as a whole: from the bytes of a question file to the bytes that are printed.
-- Definitions only.
use Rattle.std.specs.Prelude.{ℕ, ◌*◌, List, map, replicate, Float, Option, Some, None}
use Rattle.leaves.specs.Numbers.{zero⁺, float}
use Rattle.matrix.specs.Limits.{max_sweeps}
use Rattle.rules.specs.Calls.{Answered, adjusted_covariance, exponentially_weighted_mean, james_stein_mean, bayes_stein_mean}
use Rattle.rules.specs.declared.Decay.{Decay}
use Rattle.rules.specs.declared.Decay.TheVariants.{HalfLife, Lambda}
use Rattle.rules.specs.declared.Estimate.{Estimate}
use Rattle.rules.specs.declared.Estimate.TheVariants.{Sample, Given, Weighted, Semi, SemiBelow}
use Rattle.rules.specs.declared.Shrinkage.{Shrinkage}
use Rattle.rules.specs.declared.Shrinkage.TheVariants.{Unshrunk, Fixed, LedoitWolf}
use Rattle.rules.specs.declared.Regularization.{Regularization}
use Rattle.rules.specs.declared.Regularization.TheVariants.{Unregularized, Ridge}
use Rattle.rules.specs.declared.Settings.{Settings}
use Rattle.paper.specs.declared.question.Asked.{Asked}
use Rattle.paper.specs.declared.question.Asked.TheVariants.{Covariance, WeightedMean, JamesStein, BayesStein}
use Rattle.paper.specs.declared.question.Question.{Question}
use Rattle.paper.specs.Question.{Contents, read_question}
use Rattle.paper.specs.Answer.{malformed_number, Outcome, refused, outcome, outcome_text}

-- ---- the settings record: floats of the bits

-- a weighted mean has a half-life or a decay factor; what stands for another estimate is never asked for
abbrev pub decay_of : Estimate ℕ → Decay Float
decay_of (Weighted (HalfLife bits)) = HalfLife (float bits)
decay_of (Weighted (Lambda bits)) = Lambda (float bits)
decay_of Sample = Lambda (float 0)
decay_of Given = Lambda (float 0)
decay_of Semi = Lambda (float 0)
decay_of (SemiBelow bits) = Lambda (float 0)

abbrev pub estimate_of : Estimate ℕ → Estimate Float
estimate_of Sample = Sample
estimate_of Given = Given
estimate_of (Weighted (HalfLife bits)) = Weighted (HalfLife (float bits))
estimate_of (Weighted (Lambda bits)) = Weighted (Lambda (float bits))
estimate_of Semi = Semi
estimate_of (SemiBelow bits) = SemiBelow (float bits)

abbrev pub shrinkage_of : Shrinkage ℕ → Shrinkage Float
shrinkage_of Unshrunk = Unshrunk
shrinkage_of (Fixed bits) = Fixed (float bits)
shrinkage_of (LedoitWolf target) = LedoitWolf target

abbrev pub regularization_of : Regularization ℕ → Regularization Float
regularization_of Unregularized = Unregularized
regularization_of (Ridge bits) = Ridge (float bits)

-- "Without 10 the limit is 100", the largest
abbrev pub limit_of : Option ℕ → ℕ
limit_of None = max_sweeps
limit_of (Some limit) = limit

unfoldable pub settings_of : Question → Settings
settings_of q = record { estimate = estimate_of q.estimate; shrinkage = shrinkage_of q.shrinkage; regularization = regularization_of q.regularization; limit = limit_of q.limit }

-- ---- the engine's answer

-- a given matrix has side n
unfoldable pub asked_for : Asked → Question → List Float → List Float → List Float → Answered
asked_for Covariance q returns given slice = adjusted_covariance returns q.assets q.periods (settings_of q) given q.assets slice
asked_for WeightedMean q returns given slice = exponentially_weighted_mean returns q.assets q.periods (decay_of q.estimate) slice
asked_for JamesStein q returns given slice = james_stein_mean returns q.assets q.periods (limit_of q.limit) slice
asked_for BayesStein q returns given slice = bayes_stein_mean returns q.assets q.periods (limit_of q.limit) slice

abbrev pub asked : Question → List Float → List Float → List Float → Answered
asked q returns given slice = asked_for q.asked q returns given slice

-- means have one column
abbrev pub columns : Asked → ℕ → ℕ
columns Covariance n = n
columns WeightedMean n = 1
columns JamesStein n = 1
columns BayesStein n = 1

-- what is printed of an answer of n rows and c columns
abbrev pub printed : ℕ → ℕ → Answered → Outcome
printed n c a = outcome n c a.answer a.slice

-- the answer slice is as long as the answer, and holds zeros before the call
unfoldable pub answer_to : Question → List Float → List Float → Outcome
answer_to q returns given =
    let n = q.assets in
    let c = columns q.asked n in
    printed n c (asked q returns given (replicate (n * c) zero⁺))

abbrev pub answer_of : Contents → Outcome
answer_of c = answer_to c.question (map float c.returns) (map float c.given)

-- ---- the whole

unfoldable pub examined : Option Contents → Outcome
examined None = refused malformed_number
examined (Some c) = answer_of c

unfoldable pub marking : List ℕ → List ℕ
marking paper = outcome_text (examined (read_question paper))
