-- `means::bayes_stein::put_correlations` meets its contract. The invariant: every correlation passed.
use Rattle.std.proofs.Common.{◌/◌, ◌%◌, sym, arith, rules}
use Rattle.leaves.specs.Numbers.{◌⊘◌}
use Rattle.leaves.specs.Loops.{nth}
use Rattle.leaves.proofs.Invariants.{filled_more, filled_none}
use Rattle.matrix.specs.Matrix.{at}
use Rattle.matrix.proofs.Stored.{entry_at}
use Rattle.matrix.proofs.FilledRows.{filled_rows}
use Rattle.rules.specs.Sample.{correlation_by}
use Rattle.means.proofs.bayes_stein.put_correlations.Goals as goal

pub loop-k-init : goal.loop-k-init
loop-k-init c = filled_none _ _ _

pub loop-k-preserved : goal.loop-k-preserved
loop-k-preserved c =
    let a = c.args in
    let l = c.loop-k in
    filled_more l.invariant (omega arith) (omega arith)
    (λ t. sym (entry_at a.covariance.now a.n l.k) t ⊘ nth a.volatilities.now (l.k / a.n) ⊘ nth a.volatilities.now (l.k % a.n))

pub returns : goal.returns
returns c = let a = c.args in filled_rows (correlation_by (nth a.volatilities.now) (at a.covariance.now a.n)) a.n c.loop-k.invariant (omega arith) (search rules)
