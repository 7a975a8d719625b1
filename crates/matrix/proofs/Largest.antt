-- The largest size of a table's numbers does not turn on their order: row by row it is the largest of the columns' largest sizes. Assumes nothing.
use mathlib.Core.Path.{◌≡◌, sym, ap}
use Prim.Native.Nat.{ℕ, ◌+◌, ◌*◌, ◌/◌, ◌%◌}
use native.Mathlib.Nat.{le_trans, le_antisymm, le_of_eq}
use lib.Arith.{digits_lt}
use lib.Dec.{T}
use lib.Ieee.{Float, binary64, fits}
use Rattle.leaves.specs.Numbers.{abs}
use Rattle.leaves.specs.Loops.{amax_to}
use Rattle.leaves.proofs.Cells.{at_cell, row_below, col_below}
use Rattle.leaves.proofs.Keys.{key}
use Rattle.leaves.proofs.Largest.{Size, same_key, amax_size, amax_above, amax_least, size_key, abs_size}
use Rattle.matrix.specs.Matrix.{Matrix, amax}

module _ (T' n : ℕ) (f : Matrix) (fit : (t i : ℕ) → T (fits binary64 (f t i))) where
  pub amax_columns : amax T' n f ≡ amax_to n (λ i. amax_to T' (λ t. f t i))
  unfolding amax
  amax_columns =
      same_key (amax_to (T' * n) cells) (amax_to n column) whole largest (le_antisymm
      (amax_least cells fit_cell (T' * n) (key (amax_to n column)) (size_key (amax_to n column) largest) (λ k h.
      le_trans (amax_above (λ t. f t (k % n)) (λ t. fit t (k % n)) T' (k / n) (row_below k T' n h)) (le_trans (le_of_eq (ap key (sym (own (k % n))))) (amax_above column fit_column n (k % n) (col_below k T' n h)))))
      (amax_least column fit_column n (key (amax_to (T' * n) cells)) (size_key (amax_to (T' * n) cells) whole) (λ i hi. le_trans (le_of_eq (ap key (own i)))
      (amax_least (λ t. f t i) (λ t. fit t i) T' (key (amax_to (T' * n) cells)) (size_key (amax_to (T' * n) cells) whole) (λ t ht.
      le_trans (le_of_eq (ap (λ (x : Float). key (abs x)) (sym (at_cell f t n i hi)))) (amax_above cells fit_cell (T' * n) (t * n + i) (digits_lt ht hi)))))))
    where
      cells : ℕ → Float
      cells k = f (k / n) (k % n)

      column : ℕ → Float
      column i = amax_to T' (λ t. f t i)

      fit_cell : (k : ℕ) → T (fits binary64 (cells k))
      fit_cell k = fit (k / n) (k % n)

      fit_column : (i : ℕ) → T (fits binary64 (column i))
      fit_column i = (amax_size (λ t. f t i) (λ t. fit t i) T').0.0

      -- a column's largest size is its own size
      own : (i : ℕ) → abs (column i) ≡ column i
      own i = abs_size (column i) (amax_size (λ t. f t i) (λ t. fit t i) T')

      whole : Size (amax_to (T' * n) cells)
      whole = amax_size cells fit_cell (T' * n)

      largest : Size (amax_to n column)
      largest = amax_size column fit_column n
