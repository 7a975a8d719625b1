-- `covariances::targets::average_correlation` meets its contract: the volatilities are those of s.
use Rattle.std.proofs.Common.{◌≡◌, ℕ, ◌-◌, ◌*◌, List, rules, ◌∙◌}
use Rattle.std.proofs.iter.Serving.{serving}
use lib.Ieee.{Float, of_bits}
use Rattle.leaves.specs.Numbers.{◌⊘◌, count, zero⁺}
use Rattle.leaves.specs.Loops.{tab, nth}
use Rattle.leaves.proofs.Lists.{tab_long}
use Rattle.matrix.specs.Matrix.{Matrix, at, sum_over}
use Rattle.matrix.proofs.SumOver.{sum_over_ext}
use Rattle.rules.specs.Sample.{volatility, correlation_by, correlation}
use Rattle.rules.specs.LedoitWolf.{apart, average_correlation}
use Rattle.covariances.proofs.Samples.{correlation_stored}
use Rattle.covariances.proofs.targets.average_correlation.Goals as goal

average : (n : ℕ) (s : Matrix) {volatilities : List Float} {t k : Float} → volatilities ≡ tab n (volatility s) → t ≡ sum_over n apart (correlation_by (nth volatilities) s) zero⁺ → k ≡ count (n * (n - 1)) → t ⊘ k ≡ average_correlation n s
unfolding average_correlation
average n s {volatilities} ed et ek = λ u.
    (et ∙ sum_over_ext n apart (correlation_by (nth volatilities) s) (correlation s) zero⁺ (correlation_stored n s ed)) u ⊘ ek u

pub sum_apart-t-requires : goal.sum_apart-t-requires
sum_apart-t-requires c =
    let long = tab_long _ _ _ c.requires.3 in
    grind (serving, long)

pub returns : goal.returns
unfolding of_bits
returns c = let a = c.args in average a.n (at a.s.now a.n) c.requires.3 (c.sum_apart-t.ensures (correlation_by (nth a.volatilities.now) (at a.s.now a.n)) (λ i j y hi hj p. search rules)) c.nearest_u64_to_f64.ensures
