-- `means::bayes_stein::shrink_in` meets its contract: each return is the case of `settle` that the checks leave.
use Rattle.std.proofs.Common.{◌≡◌, ℕ, List, ℤ, sym, ap, ◌∙◌}
use Rattle.std.specs.Prelude.{Result, Ok}
use Rattle.std.specs.Result.{IsErrAnd}
use lib.Ieee.{Float}
use Rattle.leaves.specs.Loops.{tab, nth}
use Rattle.matrix.specs.Matrix.{at, rows}
use Rattle.matrix.specs.Jacobi.{Decomposition, decompose}
use Rattle.rules.specs.Sample.{volatility, correlation}
use Rattle.rules.specs.Refusals.{Check, passes, refuses, first}
use Rattle.rules.specs.BayesStein.{MeanShrinkage, bayes_stein_shrinkage, shrunk_mean, exponent_at}
use Rattle.rules.specs.Moments.{moments_of}
use Rattle.rules.specs.Calls.{Answered, answered, settle}
use Rattle.rules.specs.Order.{by_correlations, by_decomposition, of_correlations}
use Rattle.rules.specs.declared.Refusal.{Refusal}
use Rattle.rules.specs.declared.Answer.{Answer}
use Rattle.rules.specs.declared.Answer.TheVariants.{Shrunk}
use Rattle.rules.proofs.Firsts.{front_refuses, front_passes}
use Rattle.rules.proofs.Opened.{settle_accepted}
use Rattle.means.specs.Stein.{mean_shrinkage, BayesSteinShrinks, bayes_stein_of}
use Rattle.means.proofs.Settled.{settle_err}
use Rattle.means.proofs.bayes_stein.shrink_in.Goals as goal

-- μ and Σ are the moments, v and C the volatilities and correlations found
module _ (n limit : ℕ) (μ Σ : List Float) (T : Float) (es : List ℤ) (size : ℕ → Float) (slice v C : List Float) (is-v : v ≡ tab n (volatility (at Σ n))) (is-C : C ≡ rows n n (correlation (at Σ n))) where
  abbrev e : ℕ → ℤ
  e = exponent_at es

  abbrev outcome : MeanShrinkage → ℕ → ℕ → Answered
  outcome w sweeps rotations = answered (Ok (Shrunk w.intensity w.target sweeps rotations)) (tab n (λ i. shrunk_mean w (nth μ i) (e i)))

  abbrev accepts : List Float → Answered
  accepts C = let d = decompose limit n (at C n) in outcome (bayes_stein_shrinkage n T (nth μ) (at Σ n) e d) d.sweeps d.rotations

  abbrev earlier : List Check
  earlier = by_correlations n size (at Σ n) (at C n)

  abbrev later : Decomposition → List Check
  later d = by_decomposition n d

  abbrev checks : List Float → List Check
  checks C = of_correlations n size (at Σ n) (at C n) (decompose limit n (at C n))

  abbrev Answers : Answered → Type 0
  Answers a = a ≡ bayes_stein_of n limit (moments_of μ Σ T) e size slice

  -- the answer by the correlations as they are stored
  stored : Answers (settle (first (checks C)) slice (accepts C))
  stored = ap (λ (C : List Float). settle (first (checks C)) slice (accepts C)) is-C

  refused : (r : Result Answer Refusal) {c : Refusal} → IsErrAnd r (λ f. f ≡ c) → refuses c ≡ first earlier → Answers (answered r slice)
  refused r f h = settle_err slice (accepts C) r f (front_refuses earlier (later (decompose limit n (at C n))) h) ∙ stored

  -- d is the decomposition found
  module _ (pass : passes ≡ first earlier) (d : Decomposition) (is-d : d ≡ decompose limit n (at C n)) where
    back : {k : Check} → k ≡ first (later d) → k ≡ first (checks C)
    back h = h ∙ ap (λ (d : Decomposition). first (later d)) is-d ∙ front_passes earlier (later (decompose limit n (at C n))) pass

    singular : (r : Result Answer Refusal) {c : Refusal} → IsErrAnd r (λ f. f ≡ c) → refuses c ≡ first (later d) → Answers (answered r slice)
    singular r f h = settle_err slice (accepts C) r f (back h) ∙ stored

    accepted : passes ≡ first (later d) → (α μ₀ : Float) (out : List Float) → BayesSteinShrinks n μ v es T d.values d.vectors α μ₀ → out ≡ tab n (λ i. shrunk_mean (mean_shrinkage α μ₀) (nth μ i) (e i))
        → Answers (answered (Ok (Shrunk α μ₀ d.sweeps d.rotations)) out)
    accepted h α μ₀ out shrinks is-out =
        let w = shrinks (at Σ n) (decompose limit n (at C n)) is-v (λ t. (sym is-d t).values) (λ t. (sym is-d t).vectors) in
        (λ t. answered (Ok (Shrunk α μ₀ d.sweeps d.rotations)) (is-out t)) ∙ (λ t. outcome (w t) (is-d t).sweeps (is-d t).rotations)
        ∙ settle_accepted slice (accepts C) (back h) ∙ stored

pub returns-in_err-correlate : goal.returns-in_err-correlate
returns-in_err-correlate c =
    let a = c.args in
    let e = c.in_err-correlate.ensures in
    refused a.n a.limit a.means.now a.covariance.now a.periods a.exponents.now (nth a.sizes.now) a.out.now _ _ e.0 e.1 _ c.from_residual.ensures.1 e.2

pub returns-in_err-judge : goal.returns-in_err-judge
returns-in_err-judge c =
    let a = c.args in
    let e = c.in_ok-correlate.ensures in
    singular a.n a.limit a.means.now a.covariance.now a.periods a.exponents.now (nth a.sizes.now) a.out.now _ _ e.0 e.1
    e.2 _ c.decompose-d.ensures _ c.from_residual-in_err-judge.ensures.1 (c.in_err-judge.ensures _)

pub returns : goal.returns
returns c =
    let a = c.args in
    let e = c.in_ok-correlate.ensures in
    let w = c.shrinkage-w in
    accepted a.n a.limit a.means.now a.covariance.now a.periods a.exponents.now (nth a.sizes.now) a.out.now _ _ e.0 e.1
    e.2 _ c.decompose-d.ensures (c.in_ok-judge.ensures _) w.result.intensity w.result.target _ w.ensures (rw c.requires.12 at c.put_shrunk.ensures)
