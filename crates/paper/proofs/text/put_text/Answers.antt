-- `paper::text::put_text` meets its contract. The invariant: what is written, with what is left of the text, is the whole.
use mathlib.Core.Path.{◌∙◌}
use native.Mathlib.Omega.{arith}
use lib.ListN.{drop, drop_of_length-le}
use Rattle.paper.specs.Text.{out as into}
use Rattle.paper.proofs.Writes.{onward, ended, drop_next}
use Rattle.paper.proofs.text.put_text.Goals as goal

pub loop-b-preserved : goal.loop-b-preserved
loop-b-preserved c =
    let l = c.loop-b in
    let text = c.args.text.now in
    onward (into l.out l.at) _ _ (drop l.b-index text) c.put-at.ensures (drop_next text l.b-index 0 (omega arith)) ∙ l.invariant

pub returns : goal.returns
returns c =
    let l = c.loop-b in
    let text = c.args.text.now in
    ended _ _ (drop l.b-index text) (drop_of_length-le text {i = l.b-index} (omega arith)) l.invariant
