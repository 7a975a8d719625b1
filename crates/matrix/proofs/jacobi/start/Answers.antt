-- `matrix::jacobi::start` meets its contract. The invariant: every entry passed is the average of two scaled ones, which is what the products come to.
use mathlib.Core.Path.{◌≡◌, sym, ◌∙◌}
use mathlib.Core.List.{List}
use Prim.Native.Nat.{ℕ, ◌<◌}
use native.Mathlib.Omega.{arith}
use lib.Dec.{T}
use lib.Ieee.{Float, binary64, of_bits}
use lib.Ieee.Fits.{div-fits}
use Rattle.leaves.specs.Numbers.{◌⊕◌, ◌⊗◌, ◌⊘◌, zero⁺, half, is_finite}
use Rattle.leaves.proofs.Cells.{row_below, col_below}
use Rattle.leaves.proofs.Invariants.{filled_more, filled_none}
use Rattle.matrix.specs.Matrix.{Matrix, at, rows, symmetrized}
use Rattle.matrix.specs.Jacobi.{start}
use Rattle.matrix.proofs.FilledRows.{filled_rows}
use Rattle.matrix.proofs.Identity.{scaled_entry, start_is}
use Rattle.matrix.proofs.jacobi.start.Goals as goal

begun : (n : ℕ) (scale : Float) (a : Matrix) {out : List Float} → out ≡ rows n n (symmetrized (scaled_entry scale a)) → ((i j : ℕ) → i < n → j < n → T (is_finite (a i j ⊘ scale))) → out ≡ start n scale a
begun n scale a e h = e ∙ sym (start_is n scale a (λ i j hi hj. (div-fits binary64 (a i j) scale, h i j hi hj)))

pub loop-k-init : goal.loop-k-init
loop-k-init c = filled_none _ _ _

pub get-requires : goal.get-requires
get-requires c = (row_below c.loop-k.k c.args.n c.args.n (omega arith), col_below c.loop-k.k c.args.n c.args.n (omega arith), c.requires.0)

pub get-requires-in-loop-k : goal.get-requires-in-loop-k
get-requires-in-loop-k c =
    let i = row_below c.loop-k.k c.args.n c.args.n (omega arith) in
    let j = col_below c.loop-k.k c.args.n c.args.n (omega arith) in
    (omega (arith, i, j), omega (arith, i, j), c.requires.0)

pub loop-k-preserved : goal.loop-k-preserved
unfolding of_bits
loop-k-preserved c = let scale = c.args.scale in filled_more c.loop-k.invariant (omega arith) (omega arith) (λ t. ((zero⁺ ⊕ c.get.ensures t ⊘ scale) ⊕ (zero⁺ ⊕ c.get-in-loop-k.ensures t ⊘ scale)) ⊗ half)

pub returns : goal.returns
returns c = let a = c.args in begun a.n a.scale (at a.a.now a.n) (filled_rows (symmetrized (scaled_entry a.scale (at a.a.now a.n))) a.n c.loop-k.invariant (omega arith) c.requires.1) c.requires.2
