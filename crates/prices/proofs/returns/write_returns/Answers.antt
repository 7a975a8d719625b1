-- `prices::returns::write_returns` meets its contract. The invariant: every return passed is written.
use native.Mathlib.Omega.{arith}
use native.Mathlib.Nat.{le_refl}
use mathlib.Core.Path.{refl}
use Rattle.leaves.proofs.Invariants.{filled_more, filled_none, filled_whole}
use Rattle.prices.proofs.returns.write_returns.Goals as goal

pub loop-k-init : goal.loop-k-init
loop-k-init c = filled_none _ _ _

pub loop-k-preserved : goal.loop-k-preserved
loop-k-preserved c = filled_more c.loop-k.invariant (omega (arith, c.loop-k-test.true)) (le_refl _) c.return_at.ensures

pub returns : goal.returns
returns c = filled_whole c.loop-k.invariant (omega (arith, c.loop-k-test.false)) refl
