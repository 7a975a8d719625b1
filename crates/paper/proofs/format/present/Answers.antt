-- `paper::format::present` meets its contract. The invariant: what is counted, with what is left to count, is the whole.
use mathlib.Core.Path.{sym, ◌∙◌}
use native.Mathlib.Omega.{arith}
use Rattle.paper.proofs.Outlines.{present_yes, present_no, present_all}
use Rattle.paper.proofs.format.present.Goals as goal
use Rattle.paper.proofs.format.present.Goals.{then-has, else-has}

pub loop-kind-preserved : goal.loop-kind-preserved
loop-kind-preserved c =
    let l = c.loop-kind in
    let ks = c.args.kinds.now in
    elim c.if-has.branch [
      | then-has w ↦ (omega arith, rw w.n-is (present_yes _ ks l.kind-index l.n l.invariant.1 (omega arith) (sym c.has.ensures ∙ w.if-has.true)))
      | else-has w ↦ (omega arith, rw w.n-is (present_no _ ks l.kind-index l.n l.invariant.1 (omega arith) (sym c.has.ensures ∙ w.if-has.false)))
    ]

pub returns : goal.returns
returns c = let l = c.loop-kind in present_all _ _ l.kind-index l.n l.invariant.1 (omega arith)
