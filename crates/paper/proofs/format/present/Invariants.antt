use mathlib.Core.Path.{◌≡◌}
use mathlib.Core.List.{map}
use Prim.Native.Nat.{◌+◌, ◌≤◌}
use lib.ListN.{drop}
use Rattle.paper.specs.Rules.{present}
use Rattle.paper.specs.Inner.{byte_of}
use Rattle.paper.proofs.format.present.Given as goal

abbrev pub invariant-loop-kind : goal.invariant-loop-kind
invariant-loop-kind l = (l.n ≤ l.kind-index) × (l.n + present l.o (map byte_of (drop l.kind-index l.kinds)) ≡ present l.o (map byte_of l.kinds))
