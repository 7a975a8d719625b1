-- `matrix::jacobi::sweep_row` meets its contract. The invariant: the rotations made so far, whatever was counted before.
use mathlib.Core.Path.{◌≡◌, ap, ◌∙◌}
use mathlib.Core.Bool.{Bool, true, false}
use mathlib.Core.List.{List}
use Prim.Native.Nat.{ℕ, suc, ◌+◌, ◌-◌, ◌≤◌, ◌<◌}
use native.Mathlib.Nat.{add-zero}
use native.Mathlib.Omega.{arith}
use borrow.Author.Rules.{rules}
use lib.Ieee.{Float}
use Rattle.std.specs.Int.{from_bool}
use Rattle.leaves.specs.Loops.{loop}
use Rattle.leaves.proofs.Invariants.{loop_turn, loop_end, loop_start}
use Rattle.matrix.specs.Rotation.{State, rotate}
use Rattle.matrix.specs.Inner.{state, counted}
use Rattle.matrix.proofs.Rotations.{row_count}
use Rattle.matrix.proofs.Symmetry.{row_symmetric}
use Rattle.matrix.proofs.jacobi.sweep_row.Goals as goal

count : (t : Bool) (k r : ℕ) → k + (r + from_bool t) ≡ counted t (k + r)
count true k r = omega arith
count false k r = omega arith

at_most_one : (t : Bool) → from_bool t ≤ 1
at_most_one true = omega arith
at_most_one false = omega arith

-- a rotation more
next : (n p q r : ℕ) (t : Bool) (a v : List Float) {a' v' : List Float} {b : ℕ} (s : ℕ → State) → p < q → b ≡ from_bool t
    → ((k : ℕ) → state a v (k + r) ≡ loop (q - suc p) (λ j. rotate n p (suc p + j)) (s k))
    → ((k : ℕ) → state a' v' (counted t k) ≡ rotate n p q (state a v k)) → (k : ℕ) → state a' v' (k + (r + b)) ≡ loop (q + 1 - suc p) (λ j. rotate n p (suc p + j)) (s k)
next n p q r t a v {a'} {v'} {b} s h e before made k =
    let j = q - suc p in
    let here : q ≡ suc p + j = omega arith in
    let more : j + 1 ≡ q + 1 - suc p = omega arith in
    let turned = ap (λ (b : ℕ). state a' v' (k + (r + b))) e ∙ ap (state a' v') (count t k r) ∙ made (k + r) ∙ ap (λ (q : ℕ). rotate n p q (state a v (k + r))) here in
    loop_turn (λ j. rotate n p (suc p + j)) j (s k) (state a v (k + r)) (state a' v' (k + (r + b))) (before k) turned
    ∙ ap (λ (j : ℕ). loop j (λ j. rotate n p (suc p + j)) (s k)) more

-- none yet
begun : (p : ℕ) (f : ℕ → State → State) (s : State) → s ≡ loop (p + 1 - suc p) f s
begun p f s = let none : 0 ≡ p + 1 - suc p = omega arith in loop_start f s ∙ ap (λ (j : ℕ). loop j f s) none

pub loop-q-init : goal.loop-q-init
loop-q-init c = λ k. ap (state _ _) (add-zero k) ∙ begun c.args.p _ _

pub rotate-requires : goal.rotate-requires
rotate-requires c = (omega arith, omega arith, search rules, search rules, row_symmetric _ _ _ c.requires.2 c.requires.4 _ _ (c.loop-q.invariant 0) (omega arith))

pub overflow_add-rotations : goal.overflow_add-rotations
overflow_add-rotations c = omega (arith, c.from-rotations.ensures, at_most_one c.rotate.result, row_count _ _ _ _ _ (c.loop-q.invariant 0) (omega arith))

pub loop-q-preserved : goal.loop-q-preserved
loop-q-preserved c = next _ _ _ _ c.rotate.result _ _ _ (omega arith) c.from-rotations.ensures c.loop-q.invariant c.rotate.ensures

pub returns : goal.returns
returns c = λ k. loop_end _ _ _ _ _ (c.loop-q.invariant k) (omega arith)
