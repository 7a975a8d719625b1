use mathlib.Core.Path.{◌≡◌}
use lib.ListN.{take}
use Rattle.paper.specs.Inner.{total}
use Rattle.paper.proofs.reading.start.Given as goal

abbrev pub invariant-loop-count : goal.invariant-loop-count
invariant-loop-count l = l.s ≡ total (take l.count-index l.count-items)
