-- `paper::screen::units` meets its contract: a quotient by 2 ^ shift, rounded, or nothing where the shift leaves less than a half.
use Rattle.paper.proofs.Screens.{units_none}
use Rattle.paper.proofs.screen.units.Goals as goal

pub returns-then-shift-gt63 : goal.returns-then-shift-gt63
returns-then-shift-gt63 c = units_none _ _ c.requires c.if-shift-gt63.true
