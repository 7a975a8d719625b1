-- `matrix::jacobi::sweep` meets its contract. The invariant: the rows swept so far, whatever was counted before.
use mathlib.Core.Path.{◌≡◌, sym, ap, ◌∙◌}
use mathlib.Core.List.{List}
use Prim.Native.Nat.{ℕ, suc, ◌≤◌, ◌<◌, ◌-◌, ◌+◌, ◌*◌}
use native.Mathlib.Nat.{add-zero, add_assoc, le_refl}
use native.Mathlib.Omega.{arith}
use borrow.Author.Rules.{rules}
use lib.Ieee.{Float}
use Rattle.leaves.proofs.Invariants.{loop_turn, loop_end, loop_start}
use Rattle.leaves.proofs.Cells.{row}
use Rattle.matrix.specs.Limits.{max_side}
use Rattle.matrix.specs.Jacobi.{sweep_row, sweep}
use Rattle.matrix.specs.Inner.{state}
use Rattle.matrix.proofs.Counts.{row_pairs, row_pairs_most, square_most}
use Rattle.matrix.proofs.Rotations.{row_count, rows_count}
use Rattle.matrix.proofs.Symmetry.{rows_symmetric}
use Rattle.matrix.proofs.jacobi.sweep.Goals as goal

-- the count stays below the square of the side
room : (n p r r' : ℕ) → p < n → n ≤ max_side → r ≤ 0 + row_pairs n p → r' ≤ 0 + (n - suc p) → r + r' ≤ max_side * max_side
room n p r r' h l e e' = omega (arith, row_pairs_most n p, row p n n h, square_most l)

-- a row more
next : (n p k r r' : ℕ) (a v : List Float) {a' v' : List Float} → ((k : ℕ) → state a' v' (k + r') ≡ sweep_row n p (state a v k)) → state a' v' (k + (r + r')) ≡ sweep_row n p (state a v (k + r))
next n p k r r' a v {a'} {v'} h = ap (state a' v') (sym (add_assoc k r r')) ∙ h (k + r)

pub loop-p-init : goal.loop-p-init
loop-p-init c = λ k. ap (state _ _) (add-zero k) ∙ loop_start _ _

pub sweep_row-rotations-requires : goal.sweep_row-rotations-requires
sweep_row-rotations-requires c =
    let l = c in
    let i = l in
    (omega arith, i.requires.0, search rules, search rules, rows_symmetric _ _ _ i.requires.1 i.requires.3 _ (l.loop-p.invariant 0))

pub overflow_add-rotations : goal.overflow_add-rotations
overflow_add-rotations c =
    let l = c in
    omega (arith, room _ _ _ _ c.loop-p-test.true l.requires.0 (rows_count _ _ _ _ (l.loop-p.invariant 0)) (row_count _ _ _ _ _ (c.sweep_row-rotations.ensures 0) (le_refl _)))

pub loop-p-preserved : goal.loop-p-preserved
loop-p-preserved c = λ k. loop_turn _ _ _ _ _ (c.loop-p.invariant k) (next _ _ _ _ _ _ _ c.sweep_row-rotations.ensures)

pub returns : goal.returns
unfolding sweep
returns c = λ k. loop_end _ _ _ _ _ (c.loop-p.invariant k) (omega arith)
