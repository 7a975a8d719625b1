use mathlib.Core.Path.{◌≡◌}
use Prim.Native.Nat.{◌-◌}
use Rattle.paper.specs.Text.{write, out as into}
use Rattle.writer.specs.Files.{bytes_of}
use Rattle.writer.proofs.files.put_body.Given as goal

abbrev pub invariant-loop-i : goal.invariant-loop-i
invariant-loop-i l = write (into l.out l.at) (bytes_of (l.len - l._i) l.rest) ≡ write (into l.initial.out l.from) (bytes_of l.len l.v)
