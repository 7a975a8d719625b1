use Prim.Native.Nat.{◌≤◌, ◌-◌}
use lib.ListN.{length, drop}
use Rattle.paper.specs.Text.{out as into}
use Rattle.paper.specs.Grammar.{taken}
use Rattle.paper.proofs.Taking.{Left}
use Rattle.paper.proofs.reader.take_kind.Given as goal

abbrev pub invariant-loop-count : goal.invariant-loop-count
invariant-loop-count l = (l.at ≤ length l.file) × Left l.file (taken l.k l.k.most (drop l.from l.file)) (into l.initial.numbers l.to) l.k (l.k.most - l.count) l.at l.count (into l.numbers l.next)
