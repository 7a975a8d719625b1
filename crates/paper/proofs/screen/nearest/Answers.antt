-- `paper::screen::nearest` meets its contract, by the way down and the way up.
use native.Mathlib.Omega.{arith}
use Rattle.paper.proofs.Nearest.{nearest_down, nearest_up}
use Rattle.paper.proofs.screen.nearest.Goals as goal

pub returns-then-rest-unit : goal.returns-then-rest-unit
returns-then-rest-unit c = nearest_down _ _ c.requires.1 (omega (arith, c.if-rest-unit.true))

pub returns-else-rest-unit : goal.returns-else-rest-unit
returns-else-rest-unit c = nearest_up _ _ c.requires.1 (omega (arith, c.if-rest-unit.false))
