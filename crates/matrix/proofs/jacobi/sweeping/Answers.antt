-- `matrix::jacobi::sweeping` meets its contract. The invariant: the state after k sweeps, none of which the test forbade.
use mathlib.Core.Path.{◌≡◌, refl, sym, ap, ◌∙◌}
use mathlib.Core.Bool.{Bool, true, false}
use mathlib.Core.Option.{Option, none, some}
use Prim.Native.Nat.{ℕ, ◌≤◌, ◌<◌, ◌+◌, ◌*◌}
use native.Mathlib.Nat.{zero-add, mul-le-mul}
use native.Mathlib.Omega.{arith}
use borrow.Author.Rules.{rules}
use lib.Ieee.{Float, of_bits, le, is_nan}
use Rattle.leaves.specs.Numbers.{◌⊗◌, two}
use Rattle.leaves.specs.Loops.{first_to}
use Rattle.leaves.specs.Root.{sqrt}
use Rattle.leaves.proofs.Invariants.{loop_turn, loop_start}
use Rattle.leaves.proofs.Search.{first_none, first_more, first_at}
use Rattle.matrix.specs.Limits.{max_side, max_sweeps}
use Rattle.matrix.specs.Matrix.{at}
use Rattle.matrix.specs.Rotation.{State}
use Rattle.matrix.specs.Jacobi.{off_diagonal, sweep, after_sweeps, Test, fails, converged, goes_on, test, stops, is_converged, stopping, swept_by, sweeping}
use Rattle.matrix.specs.Inner.{state, swept_to}
use Rattle.matrix.proofs.Counts.{pairs, pairs_most}
use Rattle.matrix.proofs.Rotations.{sweep_count, sweeps_count}
use Rattle.matrix.proofs.Sweeps.{sweeping_is}
use Rattle.matrix.proofs.Symmetry.{sweeps_symmetric}
use Rattle.matrix.proofs.jacobi.sweeping.Goals as goal

-- what the test says, by what the code computed: s, the sum off the diagonal, and x, the root that is compared
module _ (n : ℕ) (tolerance : Float) (st : State) {s : Float} (es : s ≡ off_diagonal n (at st.matrix n)) where
  test-fails : is_nan s ≡ true → test n tolerance st ≡ fails
  unfolding test
  test-fails h = rw (test, (λ i. is_nan (sym es i)) ∙ h)

  module _ (h : is_nan s ≡ false) {x : Float} (ex : x ≡ sqrt (two ⊗ s)) where
    test-compares : {small : Bool} → le x tolerance ≡ small → test n tolerance st ≡ elim small [ true ↦ converged | false ↦ goes_on ]
    unfolding test
    test-compares u = rw (test, (λ i. is_nan (sym es i)) ∙ h, (λ i. le (sqrt (two ⊗ sym es i)) tolerance) ∙ (λ i. le (sym ex i) tolerance) ∙ u)

module _ (limit n : ℕ) (tolerance : Float) (st₀ : State) where
  answer : (o : Option ℕ) → first_to limit (stopping n tolerance st₀) ≡ o → swept_by n tolerance st₀ limit o ≡ sweeping limit n tolerance st₀
  answer o e = sym (sweeping_is n tolerance st₀ limit ∙ ap (swept_by n tolerance st₀ limit) e)

  -- a return at sweep k, and after the last
  stopped : (k : ℕ) (st : State) (t : Test) → st ≡ after_sweeps k n st₀ → first_to k (stopping n tolerance st₀) ≡ none → k < limit → test n tolerance st ≡ t → stops t ≡ true
      → swept_to (is_converged t) k st ≡ sweeping limit n tolerance st₀
  stopped k st t e f h et es =
      (λ i. swept_to (is_converged ((sym et ∙ ap (test n tolerance) e) i)) k (e i))
      ∙ answer (some k) (first_at (stopping n tolerance st₀) k limit f (ap (λ (s : State). stops (test n tolerance s)) (sym e) ∙ ap stops et ∙ es) h)

  ran_out : (k : ℕ) (st : State) → st ≡ after_sweeps k n st₀ → first_to k (stopping n tolerance st₀) ≡ none → k ≡ limit → swept_to false limit st ≡ sweeping limit n tolerance st₀
  ran_out k st e f h = (λ i. swept_to false limit ((e ∙ ap (λ (k : ℕ). after_sweeps k n st₀) h) i)) ∙ answer none (ap (λ (k : ℕ). first_to k (stopping n tolerance st₀)) (sym h) ∙ f)

-- a sweep more
unstopped : (n : ℕ) (tolerance : Float) (st₀ : State) (k : ℕ) (st : State) → st ≡ after_sweeps k n st₀ → first_to k (stopping n tolerance st₀) ≡ none → test n tolerance st ≡ goes_on
    → first_to (k + 1) (stopping n tolerance st₀) ≡ none
unstopped n tolerance st₀ k st e f et = first_more (stopping n tolerance st₀) k f (ap (λ (s : State). stops (test n tolerance s)) (sym e) ∙ ap stops et)

swept-more : (n k : ℕ) (st₀ st st' : State) → st ≡ after_sweeps k n st₀ → st' ≡ sweep n st → st' ≡ after_sweeps (k + 1) n st₀
unfolding after_sweeps
swept-more n k st₀ st st' e e' = loop_turn (λ i. sweep n) k st₀ st st' e e'

swept_none : (n : ℕ) (st : State) → st ≡ after_sweeps 0 n st
unfolding after_sweeps
swept_none n st = loop_start (λ i. sweep n) st

-- the count stays within the limits
room : (n k r r' : ℕ) → n ≤ max_side → k ≤ max_sweeps → r ≤ 0 + k * pairs n → r' ≤ 0 + pairs n → r + r' ≤ (max_sweeps + 1) * (max_side * max_side)
room n k r r' h l e e' = omega (arith, pairs_most n h, mul-le-mul l (pairs_most n h))

pub loop-k-init : goal.loop-k-init
loop-k-init c = (swept_none _ _, first_none _)

pub returns-then-is_nan : goal.returns-then-is_nan
returns-then-is_nan c = let i = c.loop-k.invariant in stopped _ _ _ _ _ _ fails i.0 i.1 c.loop-k-test.true (test-fails _ _ _ c.off_diagonal-s.ensures (sym c.is_nan.ensures.value ∙ c.if-is_nan.true)) refl

pub returns-then-sqrt-tolerance : goal.returns-then-sqrt-tolerance
unfolding of_bits
returns-then-sqrt-tolerance c = let i = c.loop-k.invariant in stopped _ _ _ _ _ _ converged i.0 i.1 c.loop-k-test.true (test-compares _ _ _ c.off_diagonal-s.ensures (sym c.is_nan.ensures.value ∙ c.if-is_nan.false) c.sqrt.ensures c.if-sqrt-tolerance.true) refl

pub sweep-rotations-requires : goal.sweep-rotations-requires
sweep-rotations-requires c =
    let l = c in
    let i = l in
    (i.requires.0, search rules, search rules, sweeps_symmetric _ _ _ i.requires.2 i.requires.4 _ l.loop-k.invariant.0)

pub overflow_add-rotations : goal.overflow_add-rotations
overflow_add-rotations c =
    let l = c in
    omega (arith, room _ _ _ _ l.requires.0 (omega arith) (sweeps_count _ _ _ _ (ap (state _ _) (zero-add _) ∙ l.loop-k.invariant.0)) (sweep_count _ _ _ (c.sweep-rotations.ensures 0)))

pub loop-k-preserved : goal.loop-k-preserved
unfolding of_bits
loop-k-preserved c =
    let t = c in
    let l = t.loop-k in
    (swept-more _ _ _ _ _ l.invariant.0 (c.sweep-rotations.ensures l.rotations), unstopped _ _ _ _ _ l.invariant.0 l.invariant.1 (test-compares _ _ _ t.off_diagonal-s.ensures (sym t.is_nan.ensures.value ∙ t.if-is_nan.false) t.sqrt.ensures t.if-sqrt-tolerance.false))

pub returns : goal.returns
returns c = ran_out _ _ _ _ _ _ c.loop-k.invariant.0 c.loop-k.invariant.1 (omega arith)
