-- `parts::jacobi::matrix_decompose` meets its contract: the first test that fails returns 2, and past all five `decompose` is called.
use mathlib.Core.Path.{◌≡◌}
use mathlib.Core.Bool.{false, cond}
use mathlib.Core.List.{List, [], ◌∷◌}
use Prim.Native.Nat.{ℕ, ◌≤◌, ◌*◌}
use native.Mathlib.Omega.{arith}
use borrow.Author.Tests.{lt-ltb, le-ltb, eq-eqb, ne_eqb}
use lib.ListN.{length}
use lib.Ieee.{Float}
use Rattle.matrix.specs.Limits.{max_side, max_sweeps}
use Rattle.matrix.specs.Matrix.{at}
use Rattle.matrix.specs.Jacobi.{Decomposition, decompose}
use Rattle.matrix.proofs.Counts.{square_most}
use Rattle.parts.specs.Jacobi.{left, fits, matrix_decompose}
use Rattle.parts.proofs.jacobi.matrix_decompose.Goals as goal

module _ (a : List Float) (n limit : ℕ) (values vectors : List Float) (counts : List ℕ) where
  unfit : fits n limit (length a) (length values) (length vectors) ≡ false → left 2 values vectors counts ≡ matrix_decompose a n limit values vectors counts
  unfolding matrix_decompose
  unfit h = rw (matrix_decompose, h)

  fit : (d : Decomposition) (number : ℕ) → n ≤ max_side → limit ≤ max_sweeps → length a ≡ n * n → length values ≡ n → length vectors ≡ n * n → d ≡ decompose limit n (at a n) → number ≡ cond d.found 0 1 → left number d.values d.vectors (d.sweeps ∷ d.rotations ∷ []) ≡ matrix_decompose a n limit values vectors counts
  unfolding matrix_decompose fits
  fit d number h₁ h₂ h₃ h₄ h₅ e m = rw (matrix_decompose, le-ltb _ _ h₁, le-ltb _ _ h₂, eq-eqb _ _ h₃, eq-eqb _ _ h₄, eq-eqb _ _ h₅, ← e, m)

pub returns-then-n-gt-MAX_SIDE : goal.returns-then-n-gt-MAX_SIDE
unfolding fits
returns-then-n-gt-MAX_SIDE c = unfit _ _ _ _ _ _ (rw (lt-ltb _ _ c.if-n-gt-MAX_SIDE.true))

pub returns-then-limit-gt-MAX_SWEEPS : goal.returns-then-limit-gt-MAX_SWEEPS
unfolding fits
returns-then-limit-gt-MAX_SWEEPS c = unfit _ _ _ _ _ _ (rw (le-ltb _ _ c.if-n-gt-MAX_SIDE.false, lt-ltb _ _ c.if-limit-gt-MAX_SWEEPS.true))

pub overflow_mul-n : goal.overflow_mul-n
overflow_mul-n c = omega (arith, square_most c.if-n-gt-MAX_SIDE.false)

pub returns-then-a-n : goal.returns-then-a-n
unfolding fits
returns-then-a-n c = unfit _ _ _ _ _ _ (rw (le-ltb _ _ c.if-n-gt-MAX_SIDE.false, le-ltb _ _ c.if-limit-gt-MAX_SWEEPS.false, ne_eqb _ _ c.if-a-n.true))

pub returns-then-values-n : goal.returns-then-values-n
unfolding fits
returns-then-values-n c =
    let b = c in
    unfit _ _ _ _ _ _ (rw (le-ltb _ _ b.if-n-gt-MAX_SIDE.false, le-ltb _ _ b.if-limit-gt-MAX_SWEEPS.false, eq-eqb _ _ c.if-a-n.false, ne_eqb _ _ c.if-values-n.true))

pub returns-then-vectors-n : goal.returns-then-vectors-n
unfolding fits
returns-then-vectors-n c =
    let b = c in
    unfit _ _ _ _ _ _ (rw (le-ltb _ _ b.if-n-gt-MAX_SIDE.false, le-ltb _ _ b.if-limit-gt-MAX_SWEEPS.false, eq-eqb _ _ c.if-a-n.false, eq-eqb _ _ c.if-values-n.false, ne_eqb _ _ c.if-vectors-n.true))

pub returns-then-outcome : goal.returns-then-outcome
returns-then-outcome c =
    let d = c in
    let b = d in
    fit _ _ _ _ _ _ _ _ b.if-n-gt-MAX_SIDE.false b.if-limit-gt-MAX_SWEEPS.false b.if-a-n.false b.if-values-n.false b.if-vectors-n.false d.decompose-outcome.ensures (rw c.if-outcome.true)

pub returns-else-outcome : goal.returns-else-outcome
returns-else-outcome c =
    let d = c in
    let b = d in
    fit _ _ _ _ _ _ _ _ b.if-n-gt-MAX_SIDE.false b.if-limit-gt-MAX_SWEEPS.false b.if-a-n.false b.if-values-n.false b.if-vectors-n.false d.decompose-outcome.ensures (rw c.if-outcome.false)
