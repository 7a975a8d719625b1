-- Where the numbers of a table stored row by row stand: row t, column j at t * n + j, of n columns. Assumes nothing.
use Rattle.std.proofs.Common.{◌≡◌, ℕ, zero, suc, ◌+◌, ◌*◌, ◌/◌, ◌%◌, ◌<◌, ◌≤◌, sym, ap, ◌∙◌, suc-le-suc, zero-le, not-suc-le-zero, mul-le-mul_right, mod-lt, div-lt_iff_lt-mul, mul-zero, arith}
use lib.Arith.{digits_div, digits_mod}

-- row t lies within a table of T rows. With it in hand, or in an invariant, omega does the cells: j < n is linear
pub row : (t T n : ℕ) → t < T → t * n + n ≤ T * n
row t T n h = omega (arith, mul-le-mul_right n h)

-- the entry of cell i * n + j
pub at_cell : {A : Type 0} (f : ℕ → ℕ → A) (i n j : ℕ) → j < n → f ((i * n + j) / n) ((i * n + j) % n) ≡ f i j
at_cell f i n j h = λ t. f (digits_div i h t) (digits_mod i h t)

-- a table with a cell k has a column
pub has_column : (k m n : ℕ) → k < m * n → 0 < n
has_column k m zero h = absurd (not-suc-le-zero (rw mul-zero at h))
has_column k m (suc n) h = suc-le-suc zero-le

-- the row and the column of any cell of an m × n table
pub row_below : (k m n : ℕ) → k < m * n → k / n < m
row_below k m n h = (div-lt_iff_lt-mul (has_column k m n h)).1 h

pub col_below : (k m n : ℕ) → k < m * n → k % n < n
col_below k m n h = mod-lt k (has_column k m n h)

-- two cells are one only if their rows and columns are
pub same_row : (n i k j m : ℕ) → j < n → m < n → k * n + j ≡ i * n + m → k ≡ i
same_row n i k j m hj hm e = sym (digits_div k hj) ∙ ap (λ (a : ℕ). a / n) e ∙ digits_div i hm

pub same_column : (n i k j m : ℕ) → j < n → m < n → k * n + j ≡ i * n + m → j ≡ m
same_column n i k j m hj hm e = sym (digits_mod k hj) ∙ ap (λ (a : ℕ). a % n) e ∙ digits_mod i hm
