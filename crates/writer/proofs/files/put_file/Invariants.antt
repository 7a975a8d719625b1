use mathlib.Core.Path.{◌≡◌}
use lib.ListN.{drop}
use Rattle.paper.specs.Text.{write, out as into}
use Rattle.paper.specs.Grammar.{kinds}
use Rattle.writer.specs.Files.{file_of}
use Rattle.writer.specs.Inner.{held}
use Rattle.writer.proofs.files.put_file.Given as goal

abbrev pub invariant-loop-i : goal.invariant-loop-i
invariant-loop-i l =
    write (into l.out l.at) (file_of (drop l.i kinds) (drop l.i (held l.o l.returns l.given))) ≡ write (into l.initial.out 0) (file_of kinds (held l.o l.returns l.given))
