-- `matrix::entries::smallest` meets its contract: the fold is the definition's loop.
use Rattle.std.proofs.Common.{rules, ◌≡◌, ◌∙◌}
use Rattle.std.specs.List.{fold}
use Rattle.leaves.specs.Numbers.{smaller}
use Rattle.leaves.specs.Loops.{nth, min_to}
use Rattle.matrix.proofs.Folds.{fold_is}
use Rattle.matrix.proofs.entries.smallest.Goals as goal

pub returns : goal.returns
unfolding min_to
returns c =
    let l = c.args.values.now in
    let run : c.fold.result ≡ fold smaller (nth l 0) l = search rules in
    run ∙ fold_is smaller (nth l 0) l
