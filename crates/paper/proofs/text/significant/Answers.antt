-- `paper::text::significant` meets its contract. The invariant: only zeros in front were passed.
use mathlib.Core.Path.{◌≡◌, sym, ◌∙◌}
use native.Mathlib.Omega.{arith}
use Rattle.paper.proofs.Digits.{unpadded_zero, unpadded_digit, unpadded_last}
use Rattle.paper.proofs.text.significant.Goals as goal

pub returns-then-text-i-ne48 : goal.returns-then-text-i-ne48
returns-then-text-i-ne48 c = let l = c.loop-i in (omega arith, sym (unpadded_digit _ l.i (omega arith) c.if-text-i-ne48.true) ∙ l.invariant)

pub loop-i-preserved : goal.loop-i-preserved
loop-i-preserved c = let l = c.loop-i in sym (unpadded_zero _ l.i (omega arith) c.if-text-i-ne48.false) ∙ l.invariant

pub returns : goal.returns
returns c =
    let l = c.loop-i in
    let e : l.i ≡ c.saturating_sub-last.result = omega arith in
    (omega arith, rw (← e) (sym (unpadded_last _ l.i (omega arith)) ∙ l.invariant))
