use mathlib.Core.Path.{◌≡◌}
use Prim.Native.Nat.{◌+◌}
use lib.ListN.{drop}
use Rattle.paper.specs.Grammar.{kinds}
use Rattle.writer.specs.Files.{length_of}
use Rattle.writer.proofs.files.file_length.Given as goal

abbrev pub invariant-loop-i : goal.invariant-loop-i
invariant-loop-i l = l.s + length_of (drop l.i kinds) (drop l.i l.count-items) ≡ length_of kinds l.count-items
