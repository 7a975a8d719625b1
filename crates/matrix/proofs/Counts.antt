-- Rotations, one after another: what each keeps, with a number that grows by one, the sweeps keep; and how many pairs a sweep goes through. Assumes nothing.
use mathlib.Core.Path.{◌≡◌, refl, ap, ◌∙◌}
use Prim.Native.Nat.{ℕ, zero, suc, ◌+◌, ◌-◌, ◌*◌, ◌/◌, ◌≤◌, ◌<◌, zero-le}
use native.Mathlib.Nat.{le_refl, le_trans, le-suc, add-zero, add-suc, add_assoc, zero-mul, suc-mul, mul-le-mul}
use native.Mathlib.Omega.{arith}
use Rattle.leaves.specs.Loops.{loop}
use Rattle.matrix.specs.Limits.{max_side}
use Rattle.matrix.specs.Rotation.{State, rotate}
use Rattle.matrix.specs.Jacobi.{sweep_row, sweep, after_sweeps}

-- the pairs p < q of the first m rows, and of all
unfoldable pub row_pairs : ℕ → ℕ → ℕ
row_pairs n zero = 0
row_pairs n (suc m) = row_pairs n m + (n - suc m)

unfoldable pub pairs : ℕ → ℕ
pairs n = n * (n - 1) / 2

row_pairs_sum : (n m : ℕ) → m ≤ n → 2 * row_pairs n m + m * (m + 1) ≡ 2 * (n * m)
unfolding row_pairs
row_pairs_sum n zero h = omega arith
row_pairs_sum n (suc m) h = step n m (row_pairs n m) h (row_pairs_sum n m (le_trans (le-suc m) h))
  where
    step : (n m p : ℕ) → suc m ≤ n → 2 * p + m * (m + 1) ≡ 2 * (n * m) → 2 * (p + (n - suc m)) + suc m * (suc m + 1) ≡ 2 * (n * suc m)
    step n m p h e = omega arith

row_pairs_all : (n : ℕ) → row_pairs n n ≡ pairs n
unfolding pairs row_pairs
row_pairs_all zero = refl
row_pairs_all (suc n) = half n (row_pairs (suc n) (suc n)) (row_pairs_sum (suc n) (suc n) (le_refl (suc n))) ∙ ap (λ (k : ℕ). suc n * k / 2) (one_less n)
  where
    half : (n p : ℕ) → 2 * p + suc n * (suc n + 1) ≡ 2 * (suc n * suc n) → p ≡ suc n * n / 2
    half n p e = omega arith

    one_less : (n : ℕ) → n ≡ suc n - 1
    one_less n = omega arith

-- ---- what each rotation keeps, with a number that grows by one
module _ (n : ℕ) (P : ℕ → State → Type 0) (step : (r p q : ℕ) (st : State) → p < q → q < n → P r st → P (suc r) (rotate n p q st)) where
  pub row_keeps : (p m r : ℕ) (st : State) → m ≤ n - suc p → P r st → P (r + m) (loop m (λ k. rotate n p (suc p + k)) st)
  unfolding loop
  row_keeps p zero r st h i = rw add-zero i
  row_keeps p (suc m) r st h i = rw add-suc (step (r + m) p (suc p + m) (loop m (λ k. rotate n p (suc p + k)) st) (omega arith) (omega arith) (row_keeps p m r st (omega arith) i))

  pub rows_keep : (m r : ℕ) (st : State) → P r st → P (r + row_pairs n m) (loop m (sweep_row n) st)
  unfolding loop row_pairs
  rows_keep zero r st i = rw add-zero i
  rows_keep (suc m) r st i = rw (← add_assoc r (row_pairs n m) (n - suc m)) (row_keeps m (n - suc m) (r + row_pairs n m) (loop m (sweep_row n) st) (le_refl (n - suc m)) (rows_keep m r st i))

  pub sweep_keeps : (r : ℕ) (st : State) → P r st → P (r + pairs n) (sweep n st)
  unfolding sweep
  sweep_keeps r st i = rw (← row_pairs_all n) (rows_keep n r st i)

  pub sweeps_keep : (k r : ℕ) (st : State) → P r st → P (r + k * pairs n) (after_sweeps k n st)
  unfolding after_sweeps loop
  sweeps_keep zero r st i = rw (zero-mul, add-zero) i
  sweeps_keep (suc k) r st i = rw (suc-mul, ← add_assoc r (k * pairs n) (pairs n)) (sweep_keeps (r + k * pairs n) (after_sweeps k n st) (sweeps_keep k r st i))

-- ---- how many pairs there are within the limits
pub row_pairs_most : (n m : ℕ) → row_pairs n m ≤ m * n
unfolding row_pairs
row_pairs_most n zero = zero-le
row_pairs_most n (suc m) = omega (arith, row_pairs_most n m)

pub square_most : {n : ℕ} → n ≤ max_side → n * n ≤ max_side * max_side
square_most h = mul-le-mul h h

pub pairs_most : (n : ℕ) → n ≤ max_side → pairs n ≤ max_side * max_side
pairs_most n h = rw (← row_pairs_all n) (le_trans (row_pairs_most n n) (square_most h))
