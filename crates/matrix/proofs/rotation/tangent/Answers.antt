-- `matrix::rotation::tangent` meets its contract: each arm returns what `cond` picks at the arm's test.
use lib.Ieee.{of_bits}
use Rattle.matrix.specs.Rotation.{tangent}
use Rattle.matrix.proofs.rotation.tangent.Goals as goal

pub returns-then-size : goal.returns-then-size
unfolding tangent of_bits
returns-then-size c = rw (← c.abs-size.ensures, c.if-size.true)

pub returns-else-size : goal.returns-else-size
unfolding tangent of_bits
returns-else-size c = rw (← c.abs-size.ensures, c.if-size.false, ← c.signum.ensures, ← c.sqrt.ensures)
