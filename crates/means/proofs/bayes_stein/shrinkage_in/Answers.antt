-- `means::bayes_stein::shrinkage_in` meets its contract: the steps of `bayes_stein_shrinkage`, one after the other.
use Rattle.std.proofs.Common.{◌≡◌, ℕ, ◌<◌, List, ℤ, pos, neg_ℤ, refl, ap, arith}
use lib.Ieee.{Float}
use Rattle.leaves.specs.Numbers.{◌⊘◌, one}
use Rattle.leaves.specs.Loops.{nth}
use Rattle.leaves.proofs.Lists.{nth_stored}
use Rattle.matrix.specs.Matrix.{Matrix}
use Rattle.matrix.specs.Jacobi.{Decomposition}
use Rattle.rules.specs.Sample.{volatility}
use Rattle.rules.specs.BayesStein.{MeanShrinkage, bayes_stein_shrinkage, ratio_of, squared_distance_of, shrinkage_by, exponent_at}
use Rattle.tables.proofs.Exponents.{read}
use Rattle.means.specs.Gather.{Gathered}
use Rattle.means.proofs.Gathered.{gathered_as}
use Rattle.means.proofs.bayes_stein.shrinkage_in.Goals as goal

steps : (n : ℕ) (T : Float) (μ : ℕ → Float) (Σ : Matrix) (e : ℕ → ℤ) (d : Decomposition) (a b : ℤ) (ones scaled : List Float) (r s : Float) (w : MeanShrinkage)
    → Gathered n (λ i. one ⊘ volatility Σ i) (λ i. neg_ℤ (e i)) a ones → Gathered n (λ i. μ i ⊘ volatility Σ i) (λ i. pos 0) b scaled
    → r ≡ ratio_of n d ones scaled → s ≡ squared_distance_of n d ones scaled r → w ≡ shrinkage_by n T r s a b → w ≡ bayes_stein_shrinkage n T μ Σ e d
unfolding bayes_stein_shrinkage
steps n T μ Σ e d a b ones scaled r s w A B is-r is-s is-w = rw (is-w, is-s, is-r, A.numbers, B.numbers, A.power, B.power)

pub returns : goal.returns
returns c Σ d is-v is-values is-vectors =
    let a = c.args in
    let A = c.gather_ones-a in
    let B = c.gather_means-b in
    let n = a.d.now.n in
    let root : (i : ℕ) → i < n → nth a.volatilities.now i ≡ volatility Σ i = λ i h. nth_stored n (volatility Σ) is-v i h in
    steps n a.periods (nth a.means.now) Σ (exponent_at a.exponents.now) d A.result B.result _ _ c.ratio-ratio.result c.squared_distance-squared.result _
    (gathered_as (λ i h. ap (λ (x : Float). one ⊘ x) (root i h)) (λ i h. refl) A.ensures)
    (gathered_as (λ i h. ap (λ (x : Float). nth a.means.now i ⊘ x) (root i h)) (λ i h. refl) B.ensures)
    (c.ratio-ratio.ensures d is-values is-vectors)
    (c.squared_distance-squared.ensures d is-values is-vectors)
    (rw (read A.result (omega arith), read B.result (omega arith)) at c.shrinkage_by.ensures)
