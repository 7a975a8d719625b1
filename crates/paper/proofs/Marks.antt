-- Laws of `specs/Marking.antt`: the question asked, and the answer slice. Assumes nothing.
use mathlib.Core.Path.{◌≡◌, refl, ap, ◌∙◌}
use mathlib.Core.List.{List, ◌∷◌}
use Prim.Native.Nat.{ℕ, zero, suc, ◌*◌, ◌≤◌}
use native.Mathlib.Nat.{mul-le-mul, not-suc-le-zero, le_of_suc-le-suc}
use native.Mathlib.Omega.{arith}
use lib.ListN.{take, replicate}
use lib.Ieee.{Float, of_bits}
use Rattle.leaves.specs.Numbers.{float}
use Rattle.rules.specs.Calls.{adjusted_covariance, exponentially_weighted_mean, james_stein_mean, bayes_stein_mean}
use Rattle.rules.specs.declared.Decay.{Decay}
use Rattle.rules.specs.declared.Settings.{Settings}
use Rattle.paper.specs.declared.question.Asked.{Asked}
use Rattle.paper.specs.declared.question.Asked.TheVariants.{Covariance, WeightedMean, JamesStein, BayesStein}
use Rattle.paper.specs.declared.question.Question.{Question}
use Rattle.paper.specs.Grammar.{file_assets}
use Rattle.paper.specs.Marking.{decay_of, limit_of, settings_of, asked_for, asked, columns, printed, answer_to}

-- ---- the question asked, from what the code holds

module _ (q : Question) (r g slice : List Float) where
  pub asked_covariance : (s : Settings) → q.asked ≡ Covariance → s ≡ settings_of q → adjusted_covariance r q.assets q.periods s g q.assets slice ≡ asked q r g slice
  unfolding asked_for
  asked_covariance s e es = ap (λ (x : Settings). adjusted_covariance r q.assets q.periods x g q.assets slice) es ∙ rw e

  pub asked_weighted : (d : Decay Float) → q.asked ≡ WeightedMean → d ≡ decay_of q.estimate → exponentially_weighted_mean r q.assets q.periods d slice ≡ asked q r g slice
  unfolding asked_for
  asked_weighted d e ed = rw (e, ed)

  module _ (l : ℕ) where
    pub asked_james_stein : q.asked ≡ JamesStein → l ≡ limit_of q.limit → james_stein_mean r q.assets q.periods l slice ≡ asked q r g slice
    unfolding asked_for
    asked_james_stein e el = rw (e, el)

    pub asked_bayes_stein : q.asked ≡ BayesStein → l ≡ limit_of q.limit → bayes_stein_mean r q.assets q.periods l slice ≡ asked q r g slice
    unfolding asked_for
    asked_bayes_stein e el = rw (e, el)

-- ---- the answer slice

-- the front of the code's array of zeros
take_replicate : (m n : ℕ) (x : Float) → m ≤ n → take m (replicate n x) ≡ replicate m x
take_replicate zero n x h = refl
take_replicate (suc m) zero x h = absurd (not-suc-le-zero h)
take_replicate (suc m) (suc n) x h = ap (λ (l : List Float). x ∷ l) (take_replicate m n x (le_of_suc-le-suc h))

columns_few : (a : Asked) (n : ℕ) → n ≤ file_assets → columns a n ≤ file_assets
columns_few Covariance n h = h
columns_few WeightedMean n h = omega arith
columns_few JamesStein n h = omega arith
columns_few BayesStein n h = omega arith

module _ (q : Question) (c : ℕ) (few : q.assets ≤ file_assets) (ec : c ≡ columns q.asked q.assets) where
  pub answer_fits : q.assets * c ≤ file_assets * file_assets
  answer_fits = let h : c ≤ file_assets = rw ec (columns_few q.asked q.assets few) in mul-le-mul few h

  pub answer_is : (r g : List Float) → printed q.assets c (asked q r g (take (q.assets * c) (replicate (file_assets * file_assets) (float 0)))) ≡ answer_to q r g
  unfolding answer_to of_bits
  answer_is r g = rw (take_replicate (q.assets * c) (file_assets * file_assets) (float 0) answer_fits, ec)
