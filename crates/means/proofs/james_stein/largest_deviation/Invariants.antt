use Rattle.std.proofs.Common.{◌≡◌}
use Rattle.leaves.specs.Loops.{nth}
use Rattle.rules.specs.JamesStein.{largest_deviation}
use Rattle.means.proofs.james_stein.largest_deviation.Given as goal

abbrev pub invariant-loop-x : goal.invariant-loop-x
invariant-loop-x l = l.m ≡ largest_deviation l.x-index (nth l.means) l.target
