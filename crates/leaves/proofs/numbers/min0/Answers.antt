-- `leaves::numbers::min0` meets its contract: each arm returns what `cond` picks at the arm's test.
use lib.Ieee.{of_bits}
use Rattle.leaves.specs.Numbers.{min0}
use Rattle.leaves.proofs.numbers.min0.Goals as goal

pub returns-then-y : goal.returns-then-y
unfolding min0 of_bits
returns-then-y c = rw c.if-y.true

pub returns-else-y : goal.returns-else-y
unfolding min0 of_bits
returns-else-y c = rw c.if-y.false
