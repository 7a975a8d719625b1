-- `paper::mark` meets its contract: what was read is examined, or refused as malformed.
use mathlib.Core.Path.{sym, ap, ◌∙◌}
use native.Mathlib.Omega.{arith}
use native.Mathlib.Nat.{le_trans, min-le_left}
use lib.ListN.{length-take}
use lib.Seq.{length-take-le}
use Rattle.paper.specs.Text.{write}
use Rattle.paper.proofs.Writes.{counts}
use Rattle.paper.proofs.Found.{unfound, found}
use Rattle.paper.proofs.mark.Goals as goal

pub overflow_mul-t : goal.overflow_mul-t
overflow_mul-t c = omega (arith, (found _ _ _ _ (rw c.in-Ok.is at c.read_question.ensures)).returns_front)

pub given_count-g-requires : goal.given_count-g-requires
given_count-g-requires c = (found _ _ _ _ (rw c.in-Ok.is at c.read_question.ensures)).assets_few

pub slice_bounds-returns-end : goal.slice_bounds-returns-end
slice_bounds-returns-end c = omega (arith, (found _ _ _ _ (rw c.in-Ok.is at c.read_question.ensures)).returns_front)

pub slice_bounds-examine-end : goal.slice_bounds-examine-end
slice_bounds-examine-end c =
    let h = (found _ _ _ _ (rw c.in-Ok.is at c.read_question.ensures)).returns_front in
    sym (length-take-le _ _ (omega arith))

pub slice_bounds-given-end : goal.slice_bounds-given-end
slice_bounds-given-end c = omega (arith, (found _ _ _ _ (rw c.in-Ok.is at c.read_question.ensures)).given_front)

pub slice_bounds-examine-end-in-Ok : goal.slice_bounds-examine-end-in-Ok
slice_bounds-examine-end-in-Ok c =
    let h = (found _ _ _ _ (rw c.in-Ok.is at c.read_question.ensures)).given_front in
    sym (length-take-le _ _ (omega arith))

pub examine-requires : goal.examine-requires
examine-requires c =
    let x = found _ _ _ _ (rw c.in-Ok.is at c.read_question.ensures) in
    let h = x.given_front in
    (x.assets_few, rw length-take (le_trans (min-le_left _ _) x.returns_front), rw length-take (le_trans (min-le_left _ _) (omega arith)))

pub returns-in-Ok : goal.returns-in-Ok
returns-in-Ok c =
    let x = found _ _ _ _ (rw c.in-Ok.is at c.read_question.ensures) in
    let e = c.examine.ensures ∙ ap (write _) (x.text _ c.given_count-g.ensures) in
    record { result_after = e; counts = counts _ _ _ _ e }

pub returns-in-Err : goal.returns-in-Err
returns-in-Err c =
    let e = c.put_refused.ensures ∙ ap (write _) (unfound _ _ _ _ (rw c.in-Err.is at c.read_question.ensures)) in
    record { result_after = e; counts = counts _ _ _ _ e }
