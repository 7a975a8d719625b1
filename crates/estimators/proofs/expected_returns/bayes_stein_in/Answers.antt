-- `estimators::expected_returns::bayes_stein_in` meets its contract: the largest returns, their exponents, the moments over those, one after the other.
use mathlib.Core.Path.{ap, ◌∙◌}
use Prim.Native.Nat.{ℕ}
use Rattle.leaves.specs.Loops.{nth}
use Rattle.leaves.proofs.Lists.{tab_long}
use Rattle.rules.specs.BayesStein.{exponent_at}
use Rattle.tables.specs.Rows.{return_at}
use Rattle.means.specs.Held.{held}
use Rattle.means.specs.Stein.{bayes_stein_of}
use Rattle.means.proofs.BayesSteinLists.{bayes_stein_lists}
use Rattle.estimators.proofs.expected_returns.bayes_stein_in.Goals as goal

pub returns : goal.returns
returns c =
    let a = c.args in
    let r = a.r.now in
    let l = c.amax.ensures in
    let x = c.put_exponents.ensures.0 in
    let m = c.of_returns-m in
    c.shrink.ensures ∙ ap (λ (n : ℕ). bayes_stein_of n a.limit (held m.result) (exponent_at c.put_exponents.new.out) (nth c.scale_down.new.out) a.out.now) m.ensures.0
    ∙ bayes_stein_lists r.assets r.periods a.limit (return_at r) a.out.now _ _ _ l (rw c.requires.2 at x) (held m.result) m.ensures.1 (rw (tab_long _ _ _ l) at c.scale_down.ensures)
