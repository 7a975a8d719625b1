use mathlib.Core.Path.{◌≡◌}
use lib.ListN.{drop}
use Rattle.paper.specs.Text.{out as into, write}
use Rattle.paper.specs.Answer.{lines_text}
use Rattle.paper.proofs.answer.put_lines.Given as goal

abbrev pub invariant-loop-k : goal.invariant-loop-k
invariant-loop-k l = write (into l.out l.at) (lines_text l.e.columns l.k (drop l.k l.e.numbers.now)) ≡ write (into l.initial.out l.from) (lines_text l.e.columns 0 l.e.numbers.now)
