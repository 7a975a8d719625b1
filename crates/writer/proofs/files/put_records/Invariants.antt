use mathlib.Core.Path.{◌≡◌}
use lib.ListN.{drop}
use Rattle.paper.specs.Text.{write, out as into}
use Rattle.writer.specs.Files.{records}
use Rattle.writer.proofs.files.put_records.Given as goal

abbrev pub invariant-loop-body : goal.invariant-loop-body
invariant-loop-body l = write (into l.out l.at) (records l.k (drop l.body-index l.bodies)) ≡ write (into l.initial.out l.from) (records l.k l.bodies)
