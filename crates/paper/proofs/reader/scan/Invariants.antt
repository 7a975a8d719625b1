use mathlib.Core.Path.{◌≡◌}
use Prim.Native.Nat.{◌≤◌}
use lib.ListN.{length, take, drop}
use Rattle.paper.specs.Text.{out as into}
use Rattle.paper.specs.Grammar.{kinds, sheet}
use Rattle.paper.proofs.Scanning.{Going}
use Rattle.paper.proofs.reader.scan.Given as goal

abbrev pub invariant-loop-i : goal.invariant-loop-i
invariant-loop-i l =
    (l.i ≤ length kinds) × (l.at ≤ length l.file) × (length l.numbers ≡ length l.initial.numbers) × (length l.counts ≡ length kinds) × (length l.firsts ≡ length kinds)
    × Going l.file (sheet kinds l.file) (into l.initial.numbers 0) (drop l.i kinds) l.at (into l.numbers l.next) (take l.i l.counts) (take l.i l.firsts)
