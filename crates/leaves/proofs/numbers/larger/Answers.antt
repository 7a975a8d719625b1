-- `leaves::numbers::larger` meets its contract: each arm returns what `cond` picks at the arm's test.
use Rattle.leaves.specs.Numbers.{larger}
use Rattle.leaves.proofs.numbers.larger.Goals as goal

pub returns-then-m-x : goal.returns-then-m-x
unfolding larger
returns-then-m-x c = rw c.if-m-x.true

pub returns-else-m-x : goal.returns-else-m-x
unfolding larger
returns-else-m-x c = rw c.if-m-x.false
