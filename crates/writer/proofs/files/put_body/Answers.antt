-- `writer::files::put_body` meets its contract. The invariant: what is written, with the bytes that are left, is the whole body.
use mathlib.Core.Path.{◌∙◌}
use Prim.Native.Nat.{◌-◌}
use native.Mathlib.Omega.{arith}
use Rattle.paper.specs.Text.{out as into}
use Rattle.paper.proofs.Writes.{onward, ended}
use Rattle.writer.specs.Files.{bytes_of}
use Rattle.writer.proofs.Left.{body_more, body_none}
use Rattle.writer.proofs.files.put_body.Goals as goal

pub loop-i-preserved : goal.loop-i-preserved
loop-i-preserved c =
    let l = c.loop-i in
    let len = c.args.len in
    onward (into l.out l.at) _ _ (bytes_of (len - l._i) l.rest) c.put-at.ensures (body_more len l._i l.rest (omega arith)) ∙ l.invariant

pub returns : goal.returns
returns c =
    let l = c.loop-i in
    let len = c.args.len in
    ended _ _ (bytes_of (len - l._i) l.rest) (body_none len l._i l.rest (omega arith)) l.invariant
