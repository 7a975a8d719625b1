-- `estimators::covariance::zero_variance` meets its contract. The invariant: no variance passed is 0.
use lib.Ieee.{of_bits}
use Rattle.leaves.proofs.Search.{first_none, first_more, first_at}
use Rattle.estimators.proofs.covariance.zero_variance.Goals as goal
use Rattle.estimators.proofs.covariance.zero_variance.Invariants.{flat}

pub loop-i-init : goal.loop-i-init
loop-i-init c = first_none _

pub returns-then-b-i : goal.returns-then-b-i
unfolding of_bits
returns-then-b-i c =
    let a = c.args in
    rw (first_at (flat a.b.now a.n) _ a.n c.loop-i.invariant c.if-b-i.true c.loop-i-test.true)

pub loop-i-preserved : goal.loop-i-preserved
unfolding of_bits
loop-i-preserved c = first_more _ _ c.loop-i.invariant c.if-b-i.false
