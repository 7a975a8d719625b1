-- `paper::reader::take_kind` meets its contract. The invariant: what is taken, with the records that are left, is all of them.
use mathlib.Core.Path.{◌≡◌, sym, ◌∙◌}
use Prim.Native.Nat.{◌-◌}
use native.Mathlib.Omega.{arith}
use Rattle.paper.proofs.Taking.{fits_in, taken_stop, taken_full, left_more, left_none}
use Rattle.paper.proofs.reader.take_kind.Goals as goal

pub returns-then-not-starts : goal.returns-then-not-starts
returns-then-not-starts c =
    let l = c.loop-count in
    let a = c.args in
    left_none a.file.now _ _ _ a.k (a.k.most - l.count) _ _ l.invariant.1 l.invariant.0 (taken_stop _ _ _ (sym c.starts.ensures ∙ c.if-not-starts.true))

pub number-requires : goal.number-requires
number-requires c = (c.requires.0, fits_in c.args.k c.loop-count.at c.args.file.now (sym c.starts.ensures ∙ c.if-not-starts.false))

pub loop-count-preserved : goal.loop-count-preserved
loop-count-preserved c =
    let l = c.loop-count in
    let a = c.args in
    let starts = sym c.starts.ensures ∙ c.if-not-starts.false in
    (omega (arith, fits_in a.k l.at a.file.now starts), left_more a.file.now _ _ a.k a.k.most l.at l.count _ _ l.invariant.1 (omega arith) starts _ c.number.ensures c.put-next.ensures)

pub returns : goal.returns
returns c =
    let l = c.loop-count in
    let a = c.args in
    let e : l.count ≡ a.k.most = omega arith in
    left_none a.file.now _ _ _ a.k (a.k.most - a.k.most) _ _ (rw e at l.invariant.1) l.invariant.0 (taken_full _ _ _ (omega arith))
