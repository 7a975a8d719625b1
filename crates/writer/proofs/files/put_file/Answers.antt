-- `writer::files::put_file` meets its contract. The invariant: what is written, with the kinds that are left, is the whole file.
use mathlib.Core.Path.{◌∙◌}
use native.Mathlib.Omega.{arith}
use lib.ListN.{drop}
use Rattle.paper.specs.Text.{out as into}
use Rattle.paper.specs.Grammar.{kinds}
use Rattle.paper.proofs.Table.{how_many}
use Rattle.paper.proofs.Writes.{onward, ended}
use Rattle.writer.specs.Files.{file_of}
use Rattle.writer.specs.Inner.{held}
use Rattle.writer.proofs.Left.{file_none}
use Rattle.writer.proofs.Held.{held_more}
use Rattle.writer.proofs.files.put_file.Goals as goal

pub kind_at-k-requires : goal.kind_at-k-requires
kind_at-k-requires c = omega (arith, how_many)

pub loop-i-preserved : goal.loop-i-preserved
loop-i-preserved c =
    let l = c.loop-i in
    let a = c.args in
    let o = a.o in
    onward (into l.out l.at) _ _ (file_of (drop l.i kinds) (drop l.i (held o a.returns.now a.given.now))) c.put_kind-at.ensures
    (held_more o.counts o.firsts a.returns.now a.given.now l.i _ c.kind_at-k.ensures (omega (arith, how_many)) (omega (arith, how_many)) (omega (arith, how_many)))
    ∙ l.invariant

pub returns : goal.returns
returns c =
    let l = c.loop-i in
    let a = c.args in
    let written = held a.o a.returns.now a.given.now in
    ended _ _ (file_of (drop l.i kinds) (drop l.i written)) (file_none kinds written l.i (omega (arith, how_many))) l.invariant
