use mathlib.Core.Path.{◌≡◌}
use mathlib.Core.List.{◌++◌}
use lib.ListN.{length, drop}
use Rattle.paper.specs.Text.{digits}
use Rattle.paper.proofs.text.fill_digits.Given as goal

abbrev pub invariant-loop-i : goal.invariant-loop-i
invariant-loop-i l = digits l.base (length l.initial.text) l.n ≡ digits l.base l.i l.rest ++ drop l.i l.text
