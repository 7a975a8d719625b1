-- `paper::text::fill_digits` meets its contract. The invariant: the digits of what is left, with those that stand in the text, are all.
use native.Mathlib.Omega.{arith}
use Rattle.paper.proofs.Digits.{digits_turn, digits_end}
use Rattle.paper.proofs.text.fill_digits.Goals as goal

pub loop-i-preserved : goal.loop-i-preserved
loop-i-preserved c = let l = c.loop-i in rw c.glyph.ensures (digits_turn _ l.rest l.i l.text _ c.loop-i-test.true (omega arith) l.invariant)

pub returns : goal.returns
returns c = let l = c.loop-i in digits_end _ _ l.i _ _ (omega arith) l.invariant
