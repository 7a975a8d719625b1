-- `paper::answer::put_lines` meets its contract. The invariant: what is written, with the lines that are left, is all of them.
use mathlib.Core.Path.{◌∙◌}
use native.Mathlib.Omega.{arith}
use lib.ListN.{drop}
use Rattle.paper.specs.Text.{out as into}
use Rattle.paper.specs.Answer.{lines_text}
use Rattle.paper.proofs.Writes.{onward, ended}
use Rattle.paper.proofs.Lines.{lines_more, lines_none}
use Rattle.paper.proofs.answer.put_lines.Goals as goal

pub loop-k-preserved : goal.loop-k-preserved
loop-k-preserved c =
    let l = c.loop-k in
    let a = c.args in
    onward (into l.out l.at) _ _ (lines_text a.e.now.columns l.k (drop l.k a.e.now.numbers.now)) c.put_line-at.ensures (lines_more _ l.k a.e.now.numbers.now _ (omega arith)) ∙ l.invariant

pub returns : goal.returns
returns c =
    let l = c.loop-k in
    let a = c.args in
    ended _ _ (lines_text a.e.now.columns l.k (drop l.k a.e.now.numbers.now)) (lines_none _ _ _ (omega arith)) l.invariant
