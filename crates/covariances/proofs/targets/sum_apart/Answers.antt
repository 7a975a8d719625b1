-- `covariances::targets::sum_apart` meets its contract. The invariants: the sum of the rows passed, and the row's up to column j.
use Rattle.std.proofs.Common.{◌≡◌, ℕ, ap, ◌∙◌, eq-eqb, ne_eqb, arith}
use lib.Ieee.{Float}
use Rattle.leaves.specs.Numbers.{◌⊕◌}
use Rattle.leaves.proofs.Invariants.{loop_turn, loop_end, loop_start}
use Rattle.matrix.specs.Matrix.{Matrix, add_kept, sum_over}
use Rattle.rules.specs.LedoitWolf.{apart}
use Rattle.covariances.proofs.targets.sum_apart.Goals as goal
use Rattle.covariances.proofs.targets.sum_apart.Goals.{then-i-j, else-i-j}

left : (x : Matrix) (i j : ℕ) (s : Float) → i ≡ j → s ≡ add_kept apart x i j s
left x i j s e = rw (add_kept, eq-eqb i j e)

kept : (x : Matrix) (i j : ℕ) (s : Float) → (i ≡ j → ⊥) → s ⊕ x i j ≡ add_kept apart x i j s
kept x i j s ne = rw (add_kept, ne_eqb i j ne)

pub loop-i-init : goal.loop-i-init
loop-i-init g c = λ x h. loop_start _ _

pub loop-j-init : goal.loop-j-init
loop-j-init g c = λ x h. loop_start _ _

pub loop-j-preserved : goal.loop-j-preserved
loop-j-preserved g c =
    λ x h. loop_turn (add_kept apart x c.loop-i.i) _ _ _ _ (c.loop-j.invariant x h)
    (elim c.if-i-j.branch [ then-i-j w ↦ w.t-is ∙ ap (λ (y : Float). c.loop-j.t ⊕ y) (h _ _ _ c.loop-i-test.true c.loop-j-test.true w.f-t.ensures) ∙ kept x _ _ _ w.if-i-j.true | else-i-j w ↦ w.t-is ∙ left x _ _ _ w.if-i-j.false ])

pub loop-i-preserved : goal.loop-i-preserved
loop-i-preserved g c =
    λ x h. loop_turn _ _ _ _ _ (c.loop-i.invariant x h) (loop_end _ _ _ _ _ (c.loop-j.invariant x h) (omega arith))

pub returns : goal.returns
unfolding sum_over
returns g c x h = loop_end _ _ _ _ _ (c.loop-i.invariant x h) (omega arith)
