use mathlib.Core.Path.{◌≡◌}
use lib.ListN.{drop}
use Rattle.paper.specs.Text.{unpadded}
use Rattle.paper.proofs.text.significant.Given as goal

abbrev pub invariant-loop-i : goal.invariant-loop-i
invariant-loop-i l = unpadded (drop l.i l.text) ≡ unpadded l.text
