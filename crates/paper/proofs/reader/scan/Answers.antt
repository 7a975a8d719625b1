-- `paper::reader::scan` meets its contract. The invariant: what is read, with the kinds that are left, is the whole file.
use mathlib.Core.Path.{refl, sym}
use Prim.Native.Nat.{◌<◌}
use native.Mathlib.Omega.{arith}
use lib.ListN.{length, length-set}
use Rattle.paper.specs.Grammar.{kinds}
use Rattle.paper.proofs.Table.{how_many, small_body, some_most}
use Rattle.paper.proofs.Scanning.{going_all, going_turn, going_end}
use Rattle.paper.proofs.reader.scan.Goals as goal

pub loop-i-init : goal.loop-i-init
loop-i-init c = (omega arith, omega arith, refl, sym how_many, sym how_many, going_all _ _)

pub kind_at-k-requires : goal.kind_at-k-requires
kind_at-k-requires c = omega (arith, how_many)

pub first-requires : goal.first-requires
first-requires c =
    let i = c.loop-i.i in
    let h : i < length kinds = omega (arith, how_many) in
    (rw c.kind_at-k.ensures (small_body i h), rw c.kind_at-k.ensures (some_most i h), c.loop-i.invariant.1)

pub take_kind-t-requires : goal.take_kind-t-requires
take_kind-t-requires c =
    let k = c in
    (rw k.kind_at-k.ensures (small_body k.loop-i.i (omega (arith, how_many))), k.loop-i.invariant.1)

pub loop-i-preserved : goal.loop-i-preserved
loop-i-preserved c =
    let t = c in
    let k = t in
    let l = k.loop-i in
    let file = k.args.file.now in (
      omega (arith, how_many),
      t.take_kind-t.ensures.within,
      omega arith,
      simp length-set l.invariant.3,
      simp length-set l.invariant.4,
      going_turn file _ _ l.i l.at l.numbers l.next _ t.take_kind-t.result l.counts l.firsts _ _ (omega (arith, how_many)) (omega (arith, how_many)) (omega (arith, how_many)) l.invariant.5 k.kind_at-k.ensures t.take_kind-t.ensures t.first.ensures,
    )

pub returns : goal.returns
returns c =
    let l = c.loop-i in
    going_end _ _ _ l.i l.at l.numbers l.next l.counts l.firsts (omega (arith, how_many)) (omega (arith, how_many)) (omega (arith, how_many)) l.invariant.1 l.invariant.5
