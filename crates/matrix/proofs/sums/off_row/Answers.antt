-- `matrix::sums::off_row` meets its contract. The invariant: the row's sum up to column q.
use mathlib.Core.Path.{◌≡◌, ◌∙◌}
use mathlib.Core.List.{List}
use Prim.Native.Nat.{ℕ, ◌<◌}
use native.Mathlib.Omega.{arith}
use lib.Dec.{ltb}
use lib.Ieee.{Float}
use Rattle.leaves.specs.Numbers.{◌⊕◌, ◌⊗◌}
use Rattle.leaves.proofs.Invariants.{loop_turn, at_end}
use Rattle.matrix.specs.Matrix.{at, squared, add_kept, sum_row}
use Rattle.matrix.proofs.SumOver.{above_none, above_more}
use Rattle.matrix.proofs.sums.off_row.Goals as goal

-- an entry more, by what `get` ensures
more : (a : List Float) (n p q : ℕ) (s : Float) {x : Float} → x ≡ at a n p q → p < q → s ⊕ x ⊗ x ≡ add_kept ltb (squared (at a n)) p q s
more a n p q s e h = (λ t. s ⊕ e t ⊗ e t) ∙ above_more (squared (at a n)) p q s h

pub loop-q-init : goal.loop-q-init
loop-q-init c = let a = c.args in above_none (squared (at a.a.now a.n)) _ _

pub loop-q-preserved : goal.loop-q-preserved
loop-q-preserved c = let a = c.args in loop_turn (add_kept ltb (squared (at a.a.now a.n)) a.p) _ _ _ _ c.loop-q.invariant (more a.a.now a.n a.p _ _ c.get-x.ensures (omega arith))

pub returns : goal.returns
returns c = let a = c.args in at_end (λ k. sum_row k ltb (squared (at a.a.now a.n)) a.p a.sum) _ _ _ c.loop-q.invariant (omega arith) (omega arith)
