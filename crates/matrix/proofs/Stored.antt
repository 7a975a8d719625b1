-- Laws of the matrices that are stored row by row. Assumes nothing.
use mathlib.Core.Path.{◌≡◌, refl, sym, ap, ◌∙◌}
use mathlib.Core.List.{List}
use Prim.Native.Nat.{ℕ, ◌+◌, ◌*◌, ◌/◌, ◌%◌, ◌<◌}
use native.Mathlib.Nat.{div-add-mod'}
use lib.Arith.{digits_lt}
use lib.ListN.{length}
use lib.Ieee.{Float, nan}
use Rattle.leaves.specs.Loops.{nth}
use Rattle.leaves.proofs.Loops.{length_tab, get_or_tab, tab_is, tab_ext}
use Rattle.leaves.proofs.Cells.{at_cell, row_below, col_below}
use Rattle.matrix.specs.Matrix.{Matrix, at, rows}

-- number k is the entry in row k / n and column k % n
pub entry_at : (a : List Float) (n k : ℕ) → at a n (k / n) (k % n) ≡ nth a k
entry_at a n k = ap (nth a) (div-add-mod' k n)

pub length_rows : (f : Matrix) (m n : ℕ) → length (rows m n f) ≡ m * n
unfolding rows
length_rows f m n = length_tab (λ k. f (k / n) (k % n)) (m * n)

pub rows_nth : (f : Matrix) (m n k : ℕ) → k < m * n → nth (rows m n f) k ≡ f (k / n) (k % n)
unfolding rows
rows_nth f m n k h = get_or_tab (m * n) (λ k. f (k / n) (k % n)) k nan h

pub rows_at : (f : Matrix) (m n i j : ℕ) → i < m → j < n → at (rows m n f) n i j ≡ f i j
rows_at f m n i j hi hj = rows_nth f m n (i * n + j) (digits_lt hi hj) ∙ at_cell f i n j hj

-- a stored matrix is f's where its entries are, so it is made of its own
pub rows_is : (l : List Float) (n : ℕ) (f : Matrix) → length l ≡ n * n → ((i j : ℕ) → i < n → j < n → at l n i j ≡ f i j) → l ≡ rows n n f
unfolding rows
rows_is l n f e h = tab_is nan l (n * n) (λ k. f (k / n) (k % n)) e (λ k b. sym (entry_at l n k) ∙ h (k / n) (k % n) (row_below k n n b) (col_below k n n b))

pub whole : (n : ℕ) (l : List Float) → length l ≡ n * n → l ≡ rows n n (at l n)
whole n l e = rows_is l n (at l n) e (λ i j hi hj. refl)

-- what holds in m rows and n columns holds cell by cell
pub by_cell : (m n : ℕ) (P : ℕ → ℕ → Type 0) → ((i j : ℕ) → i < m → j < n → P i j) → (k : ℕ) → k < m * n → P (k / n) (k % n)
by_cell m n P h k l = h (k / n) (k % n) (row_below k m n l) (col_below k m n l)

-- alike within m rows and n columns, two matrices are alike cell by cell
pub cell_ext : {A : Type 0} (m n : ℕ) (f g : ℕ → ℕ → A) → ((i j : ℕ) → i < m → j < n → f i j ≡ g i j) → (k : ℕ) → k < m * n → f (k / n) (k % n) ≡ g (k / n) (k % n)
cell_ext m n f g h = by_cell m n (λ i j. f i j ≡ g i j) h

pub rows_ext : (m n : ℕ) (f g : Matrix) → ((i j : ℕ) → i < m → j < n → f i j ≡ g i j) → rows m n f ≡ rows m n g
unfolding rows
rows_ext m n f g h = tab_ext (λ k. f (k / n) (k % n)) (λ k. g (k / n) (k % n)) (m * n) (cell_ext m n f g h)
