-- `leaves::exponential::exp_m1` meets its contract: each arm returns what `cond` picks at the arm's test.
use lib.Ieee.{of_bits}
use Rattle.leaves.specs.Exp.{exp_m1}
use Rattle.leaves.proofs.exponential.exp_m1.Goals as goal

pub returns-then-y : goal.returns-then-y
unfolding exp_m1 of_bits
returns-then-y c = rw (c.if-y.true, c.exp.ensures)

pub returns-else-y : goal.returns-else-y
unfolding exp_m1 of_bits
returns-else-y c = rw (c.if-y.false, c.horner.ensures)
