-- `means::james_stein::put_shrunk` meets its contract. The invariant: every mean passed is moved.
use Rattle.std.proofs.Common.{refl, arith, to_z-of_z}
use Rattle.leaves.proofs.Invariants.{filled_more, filled_whole, filled_none}
use Rattle.rules.specs.JamesStein.{towards}
use Rattle.means.proofs.james_stein.put_shrunk.Goals as goal

pub loop-i-init : goal.loop-i-init
loop-i-init c = filled_none _ _ _

pub loop-i-preserved : goal.loop-i-preserved
unfolding towards
loop-i-preserved c = filled_more c.loop-i.invariant (omega arith) (omega arith) c.pow2_scaled.ensures

pub returns : goal.returns
returns c = rw (to_z-of_z c.ranges.exponent) at (filled_whole c.loop-i.invariant (omega arith) refl)
