use mathlib.Core.Path.{◌≡◌}
use lib.ListN.{drop}
use Rattle.paper.specs.Text.{out as into, write}
use Rattle.paper.proofs.text.put_text.Given as goal

abbrev pub invariant-loop-b : goal.invariant-loop-b
invariant-loop-b l = write (into l.out l.at) (drop l.b-index l.text) ≡ write (into l.initial.out l.from) l.text
