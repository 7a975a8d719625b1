-- `paper::marking::ask` meets its contract, question by question.
use mathlib.Core.Path.{◌∙◌}
use Rattle.paper.proofs.Marks.{asked_covariance, asked_weighted, asked_james_stein, asked_bayes_stein}
use Rattle.paper.proofs.marking.ask.Goals as goal

pub returns-in-Covariance : goal.returns-in-Covariance
returns-in-Covariance c =
    let s = c in
    c.adjusted_covariance.ensures ∙ asked_covariance _ _ _ _ _ s.in-Covariance.is s.settings.ensures

pub returns-in-WeightedMean : goal.returns-in-WeightedMean
returns-in-WeightedMean c =
    let s = c in
    c.exponentially_weighted_mean.ensures ∙ asked_weighted _ _ _ _ _ s.in-WeightedMean.is s.decay.ensures

pub returns-in-JamesStein : goal.returns-in-JamesStein
returns-in-JamesStein c =
    let s = c in
    c.james_stein_mean.ensures ∙ asked_james_stein _ _ _ _ _ s.in-JamesStein.is s.limit.ensures

pub returns-in-BayesStein : goal.returns-in-BayesStein
returns-in-BayesStein c =
    let s = c in
    c.bayes_stein_mean.ensures ∙ asked_bayes_stein _ _ _ _ _ s.in-BayesStein.is s.limit-in-BayesStein.ensures
