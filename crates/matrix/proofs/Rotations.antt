-- Document 01, "Jacobi": rotations ≤ sweeps × n(n - 1)/2. Each rotation adds one at most, so the count of a row, of rows, of a sweep and of sweeps is at most their pairs. Assumes nothing.
use mathlib.Core.Path.{◌≡◌, sym, subst}
use mathlib.Core.List.{List}
use Prim.Native.Nat.{ℕ, suc, ◌+◌, ◌-◌, ◌*◌, ◌/◌, ◌≤◌, ◌<◌, suc-le-suc}
use native.Mathlib.Nat.{le_refl, le_step, zero-add}
use lib.Ieee.{Float}
use Rattle.leaves.specs.Loops.{loop}
use Rattle.matrix.specs.Matrix.{Matrix}
use Rattle.matrix.specs.Rotation.{State, rotated, rotate_by, rotate}
use Rattle.matrix.specs.Jacobi.{sweep_row, sweep, after_sweeps, decompose}
use Rattle.matrix.specs.Inner.{state}
use Rattle.matrix.proofs.Rotated.{rotate_cases}
use Rattle.matrix.proofs.Counts.{row_pairs, pairs, row_keeps, rows_keep, sweep_keeps, sweeps_keep}
use Rattle.matrix.proofs.Sweeps.{begun, decompose_reached}

abbrev AtMost : ℕ → State → Type 0
AtMost r st = st.rotations ≤ r

rotate_count : (n r p q : ℕ) (st : State) → p < q → q < n → AtMost r st → AtMost (suc r) (rotate n p q st)
unfolding rotate_by rotated
rotate_count n r p q st a b h = rotate_cases (AtMost (suc r)) n p q st (le_step h) (λ τ. suc-le-suc h)

-- the rotations of a row of a sweep, of its first rows, of a sweep and of k sweeps, as the code has them, with nothing counted before
module _ (n : ℕ) (a₀ v₀ : List Float) {a v : List Float} {r : ℕ} where
  by_end : {b : ℕ} {st : State} → state a v (0 + r) ≡ st → AtMost b st → r ≤ b
  by_end {b} e h = subst (λ (k : ℕ). k ≤ b) (zero-add r) (subst (AtMost b) (sym e) h)

  pub row_count : (p j : ℕ) → state a v (0 + r) ≡ loop j (λ j. rotate n p (suc p + j)) (state a₀ v₀ 0) → j ≤ n - suc p → r ≤ 0 + j
  row_count p j e h = by_end e (row_keeps n AtMost (rotate_count n) p j 0 (state a₀ v₀ 0) h (le_refl 0))

  pub rows_count : (p : ℕ) → state a v (0 + r) ≡ loop p (sweep_row n) (state a₀ v₀ 0) → r ≤ 0 + row_pairs n p
  rows_count p e = by_end e (rows_keep n AtMost (rotate_count n) p 0 (state a₀ v₀ 0) (le_refl 0))

  pub sweep_count : state a v (0 + r) ≡ sweep n (state a₀ v₀ 0) → r ≤ 0 + pairs n
  sweep_count e = by_end e (sweep_keeps n AtMost (rotate_count n) 0 (state a₀ v₀ 0) (le_refl 0))

  pub sweeps_count : (k : ℕ) → state a v (0 + r) ≡ after_sweeps k n (state a₀ v₀ 0) → r ≤ 0 + k * pairs n
  sweeps_count k e = by_end e (sweeps_keep n AtMost (rotate_count n) k 0 (state a₀ v₀ 0) (le_refl 0))

-- ---- of a decomposition
pub rotations_bound : (n : ℕ) (a : Matrix) (limit : ℕ) → (decompose limit n a).rotations ≤ (decompose limit n a).sweeps * (n * (n - 1) / 2)
unfolding pairs begun
rotations_bound n a limit = rw (decompose_reached n a limit).1 (rw zero-add at (sweeps_keep n AtMost (rotate_count n) (decompose limit n a).sweeps 0 (begun n a) (le_refl 0)))
