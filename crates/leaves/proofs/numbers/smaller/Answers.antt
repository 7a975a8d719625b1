-- `leaves::numbers::smaller` meets its contract: each arm returns what `cond` picks at the arm's test.
use Rattle.leaves.specs.Numbers.{smaller}
use Rattle.leaves.proofs.numbers.smaller.Goals as goal

pub returns-then-x-m : goal.returns-then-x-m
unfolding smaller
returns-then-x-m c = rw c.if-x-m.true

pub returns-else-x-m : goal.returns-else-x-m
unfolding smaller
returns-else-x-m c = rw c.if-x-m.false
