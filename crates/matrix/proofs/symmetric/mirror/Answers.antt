-- `matrix::symmetric::mirror` meets its contract. The invariant: the rows passed have their two numbers.
use mathlib.Core.Path.{refl, ◌∙◌}
use native.Mathlib.Omega.{arith}
use lib.ListN.{length-set}
use Rattle.leaves.proofs.Invariants.{loop_turn, loop_end, loop_start}
use Rattle.leaves.proofs.Cells.{row}
use Rattle.matrix.proofs.Symmetry.{copied_all}
use Rattle.matrix.proofs.symmetric.mirror.Goals as goal

pub overflow_mul-pn : goal.overflow_mul-pn
overflow_mul-pn c = omega (arith, row c.args.p c.args.n c.args.n (omega arith))

pub overflow_mul-qn : goal.overflow_mul-qn
overflow_mul-qn c = omega (arith, row _ _ c.args.n c.requires.1)

pub loop-k-init : goal.loop-k-init
loop-k-init c = (omega arith, loop_start _ _, refl, row _ _ _ (omega arith), row _ _ _ c.requires.1)

pub overflow_mul-base : goal.overflow_mul-base
overflow_mul-base c = omega (arith, row _ _ c.args.n c.loop-k-test.true)

pub overflow_add-a : goal.overflow_add-a
overflow_add-a c = omega (arith, row _ _ c.args.n c.loop-k-test.true)

pub offset_bounds-a-base : goal.offset_bounds-a-base
offset_bounds-a-base c = omega (arith, row _ _ c.args.n c.loop-k-test.true)

pub bounds-a-base : goal.bounds-a-base
bounds-a-base c = omega (arith, row _ _ c.args.n c.loop-k-test.true)

pub overflow_add-a-in-loop-k : goal.overflow_add-a-in-loop-k
overflow_add-a-in-loop-k c = omega (arith, row _ _ c.args.n c.loop-k-test.true)

pub offset_bounds-a-base-in-loop-k : goal.offset_bounds-a-base-in-loop-k
offset_bounds-a-base-in-loop-k c = omega (arith, row _ _ c.args.n c.loop-k-test.true)

pub bounds-a-base-in-loop-k : goal.bounds-a-base-in-loop-k
bounds-a-base-in-loop-k c = rw length-set (omega (arith, row _ _ c.args.n c.loop-k-test.true))

pub loop-k-preserved : goal.loop-k-preserved
loop-k-preserved c = let i = c.loop-k.invariant in (omega arith, loop_turn _ _ _ _ _ i.1 refl, simp length-set i.2, i.3, i.4)

pub returns : goal.returns
returns c = let a = c in loop_end _ _ _ _ _ c.loop-k.invariant.1 (omega arith) ∙ copied_all a.args.n _ _ a.requires.0 a.requires.1 _ a.requires.2 a.requires.3
