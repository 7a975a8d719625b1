-- `paper::reading::start` meets its contract. The invariant: the sum of the counts passed.
use mathlib.Core.Path.{refl}
use mathlib.Core.List.{sum}
use Prim.Native.Nat.{◌+◌}
use native.Mathlib.Omega.{arith}
use lib.ListN.{take}
use Rattle.paper.proofs.Pieces.{total_more, total_take}
use Rattle.paper.proofs.reading.start.Goals as goal

pub loop-count-init : goal.loop-count-init
unfolding sum
loop-count-init c = refl

pub overflow_add-s : goal.overflow_add-s
overflow_add-s c =
    let cs = c.args.counts in
    let p = c.args.p in
    let i = c.loop-count.count-index in
    omega (arith, total_more (take p cs) i (omega arith), total_take (take p cs) (i + 1), total_take cs p)

pub loop-count-preserved : goal.loop-count-preserved
loop-count-preserved c = omega (arith, total_more (take c.args.p c.args.counts) c.loop-count.count-index (omega arith))
