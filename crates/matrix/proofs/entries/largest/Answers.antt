-- `matrix::entries::largest` meets its contract: the fold is the definition's loop.
use Rattle.std.proofs.Common.{rules, ◌≡◌, ◌∙◌}
use Rattle.std.specs.List.{fold}
use Rattle.leaves.specs.Numbers.{larger}
use Rattle.leaves.specs.Loops.{nth, max_to}
use Rattle.matrix.proofs.Folds.{fold_is}
use Rattle.matrix.proofs.entries.largest.Goals as goal

pub returns : goal.returns
unfolding max_to
returns c =
    let l = c.args.values.now in
    let run : c.fold.result ≡ fold larger (nth l 0) l = search rules in
    run ∙ fold_is larger (nth l 0) l
