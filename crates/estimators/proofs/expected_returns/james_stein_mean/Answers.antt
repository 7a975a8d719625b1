-- `estimators::expected_returns::james_stein_mean` meets its contract: each return is the case of the call that the checks pick.
use mathlib.Core.Path.{ap, ◌∙◌}
use Prim.Native.Nat.{ℕ}
use native.Mathlib.Omega.{arith}
use Rattle.leaves.proofs.Ints.{read_back}
use Rattle.leaves.specs.Scaling.{binary_exponent}
use Rattle.tables.proofs.Exponents.{read}
use Rattle.means.specs.Held.{held}
use Rattle.means.specs.Stein.{james_stein_of}
use Rattle.estimators.proofs.MeanCalls.{james_stein_refused, james_stein_accepted}
use Rattle.estimators.proofs.expected_returns.james_stein_mean.Goals as goal

pub returns-in_err-check_limited : goal.returns-in_err-check_limited
returns-in_err-check_limited c =
    let a = c.args in
    let r = a.r.now in
    james_stein_refused r.numbers.now r.assets r.periods a.out.now r.shaped c.requires a.limit _ c.from_residual.ensures.1 c.in_err-check_limited.ensures.0

pub returns : goal.returns
returns c =
    let a = c.args in
    let r = a.r.now in
    let m = c.over-m in
    let e = c.exponent-e in
    let k = read e.result (omega arith) ∙ e.ensures.0 ∙ ap binary_exponent c.amax.ensures in
    c.shrink.ensures ∙ ap (λ (n : ℕ). james_stein_of n a.limit (held m.result) (read_back e.result) a.out.now) m.ensures.0
    ∙ james_stein_accepted r.numbers.now r.assets r.periods a.out.now r.shaped c.requires a.limit c.in_ok-check_limited.ensures.0 _ _ m.ensures.1 k
