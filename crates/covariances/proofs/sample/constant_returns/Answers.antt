-- `covariances::sample::constant_returns` meets its contract. The invariant: no asset passed is constant.
use Rattle.std.proofs.Common.{◌≡◌, ℕ, List, sym, refl, arith}
use lib.Ieee.{Float}
use Rattle.leaves.specs.Loops.{first_to, tab, nth}
use Rattle.leaves.proofs.Invariants.{at_end}
use Rattle.leaves.proofs.Search.{first_none, first_more, first_at}
use Rattle.leaves.proofs.Lists.{nth_stored}
use Rattle.matrix.specs.Matrix.{Matrix}
use Rattle.rules.specs.Sample.{constant_asset, volatility}
use Rattle.rules.proofs.Constant.{constant_ext}
use Rattle.covariances.proofs.sample.constant_returns.Goals as goal
use Rattle.covariances.proofs.sample.constant_returns.Invariants.{constant}

constant-is : (n : ℕ) (volatilities sizes : List Float) (s : Matrix) → volatilities ≡ tab n (volatility s) → constant_asset n s (nth sizes) ≡ first_to n (constant volatilities sizes)
unfolding constant_asset
constant-is n volatilities sizes s e = constant_ext n (volatility s) (nth volatilities) (nth sizes) (nth sizes) (λ i h. sym (nth_stored n (volatility s) e i h)) (λ i h. refl)

pub loop-i-init : goal.loop-i-init
loop-i-init c = (omega arith, first_none _)

pub returns-then-volatilities-i : goal.returns-then-volatilities-i
returns-then-volatilities-i c s is-v =
    let a = c.args in
    rw (constant-is a.n a.volatilities.now a.sizes.now s is-v, first_at (constant a.volatilities.now a.sizes.now) _ a.n c.loop-i.invariant.1 c.if-volatilities-i.true c.loop-i-test.true)

pub loop-i-preserved : goal.loop-i-preserved
loop-i-preserved c = (omega arith, first_more _ _ c.loop-i.invariant.1 c.if-volatilities-i.false)

pub returns : goal.returns
returns c s is-v =
    let a = c.args in
    rw (constant-is a.n a.volatilities.now a.sizes.now s is-v, sym (at_end (λ k. first_to k (constant a.volatilities.now a.sizes.now)) _ _ _ (sym c.loop-i.invariant.1) c.loop-i.invariant.0 c.loop-i-test.false))
