-- A matrix that a loop stores number by number, once the loop is through. Assumes nothing.
use mathlib.Core.Path.{◌≡◌}
use mathlib.Core.List.{List}
use Prim.Native.Nat.{ℕ, ◌*◌, ◌/◌, ◌%◌, ◌≤◌}
use lib.ListN.{length}
use lib.Ieee.{Float}
use Rattle.leaves.proofs.Invariants.{Filled, filled_whole}
use Rattle.matrix.specs.Matrix.{Matrix, rows}

pub filled_rows : (f : Matrix) (n : ℕ) {i : ℕ} {old out : List Float} → Filled (λ k. f (k / n) (k % n)) i (n * n) old out → n * n ≤ i → length old ≡ n * n → out ≡ rows n n f
unfolding rows
filled_rows f n F h l = filled_whole F h l
