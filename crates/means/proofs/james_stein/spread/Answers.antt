-- `means::james_stein::spread` meets its contract. The invariant: the sum over the means passed.
use Rattle.std.proofs.Common.{length, pos, ◌-ℤ◌, ap, arith}
use lib.Ieee.{Float, of_bits}
use Rattle.leaves.specs.Numbers.{◌⊕◌, ◌⊗◌}
use Rattle.leaves.specs.Loops.{sum_to}
use Rattle.leaves.proofs.Ints.{read_back}
use Rattle.leaves.proofs.Invariants.{sum_none, sum_turn, at_end}
use Rattle.rules.specs.JamesStein.{spread}
use Rattle.tables.proofs.Exponents.{neg_read}
use Rattle.means.proofs.james_stein.spread.Goals as goal
use Rattle.means.proofs.james_stein.spread.Invariants.{square}

pub loop-x-init : goal.loop-x-init
unfolding of_bits
loop-x-init c = sum_none _

pub loop-x-preserved : goal.loop-x-preserved
loop-x-preserved c = sum_turn _ _ _ _ c.loop-x.invariant (ap (λ (d : Float). c.loop-x.s ⊕ d ⊗ d) c.pow2_scaled-d.ensures)

pub returns : goal.returns
unfolding spread
returns c =
    let a = c.args in
    rw (neg_read a.shift (omega arith)) at (at_end (λ k. sum_to k (square a.means.now a.target (read_back (pos 0 -ℤ read_back a.shift)))) c.loop-x.x-index (length a.means.now) _ c.loop-x.invariant (omega arith) (omega arith))
