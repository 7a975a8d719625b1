-- What only the contracts of inner functions cite: how a period's row of numbers is formed from its returns, and what it adds to a
-- table of sums. Definitions only.
use Rattle.std.specs.Prelude.{ℕ, ◌+◌, ◌-◌, ◌%◌, ◌≤◌, cond, List, [], length, slice_index_or, ◌==◌, nat_le, nat_lt, Float}
use Rattle.leaves.specs.Numbers.{◌⊕◌, ◌⊖◌, ◌⊗◌, zero⁺, min0}
use Rattle.leaves.specs.Loops.{loop, nth}
use Rattle.matrix.specs.Matrix.{Matrix, at, rows}
use Rattle.rules.specs.LedoitWolf.{distance²}
use Rattle.tables.specs.declared.rows.Row.{Row}
use Rattle.tables.specs.declared.rows.Row.TheVariants.{Plain, Weighted, Deviation, Shortfall, WeightedDeviation, Scaled}
use Rattle.tables.specs.declared.returns.Returns.{Returns}
use Rattle.tables.specs.declared.returns.Rows.{Rows}
use Rattle.tables.specs.declared.tables.Term.{Term}
use Rattle.tables.specs.declared.tables.Term.TheVariants.{Product, Variation, Covariation}

-- a number of column i of n times its column's unit, a power of two as two factors, where there are units
unfoldable pub in_unit : ℕ → List Float → ℕ → Float → Float
in_unit n units i x = cond (nat_le (n + n) (length units)) (x ⊗ nth units i ⊗ nth units (n + i)) x

-- the returns of n columns, each in its column's unit where there are units
abbrev pub in_units : ℕ → List Float → Matrix → Matrix
in_units n units x t i = in_unit n units i (x t i)

-- a number, by its column's center and its period's weight
unfoldable pub formed : Row → Float → Float → Float → Float
formed Plain x c w = x
formed Weighted x c w = w ⊗ x
formed Deviation x c w = x ⊖ c
formed Shortfall x c w = min0 (x ⊖ c)
formed WeightedDeviation x c w = (x ⊖ c) ⊗ w
formed (Scaled near far) x c w = (x ⊖ c) ⊗ near ⊗ far

-- each asset's return in each period
abbrev pub return_at : Returns → Matrix
return_at r = at r.numbers.now r.assets

-- number j of row i, of rows in arrays
abbrev pub stored : List (List Float) → Matrix
stored d i j = nth (slice_index_or d i []) j

-- the rows of all periods
unfoldable pub rows_of : Row → ℕ → List Float → List Float → List Float → Matrix → Matrix
rows_of row n units centers weights x t i = formed row (in_units n units x t i) (nth centers i) (nth weights t)

-- those of stored returns
abbrev pub matrix_of : Rows → Matrix
matrix_of z = rows_of z.row z.returns.assets z.units.now z.centers.now z.weights.now (return_at z.returns)

-- those of the stored returns r less the centers
abbrev pub centered : Row → ℕ → List Float → List Float → Matrix
centered row n centers r = rows_of row n [] centers [] (at r n)

-- ---- tables of sums: of the second moments, of π and of θ

-- the summand of entry i j, from the row y: row i's factor, joined with the number of column j
unfoldable pub factor : Term → Matrix → (ℕ → Float) → ℕ → Float
factor Product s y i = y i
factor Variation s y i = y i
factor Covariation s y i = (y i ⊗ y i ⊖ s i i) ⊗ y i

unfoldable pub joined : Term → Float → Float → Float → Float
joined Product a x s = a ⊗ x
joined Variation a x s = distance² (a ⊗ x) s
joined Covariation a x s = a ⊗ x

abbrev pub summand : Term → Matrix → (ℕ → Float) → Matrix
summand term s y i j = joined term (factor term s y i) (y j) (s i j)

-- the last multiple of 4 up to i
abbrev pub aligned : ℕ → ℕ
aligned i = i - i % 4

-- the first column of row i that is summed up: of a symmetric table the diagonal's, or up to three before it, so that rows are whole vectors
unfoldable pub first_column : Term → ℕ → ℕ
first_column Product i = aligned i
first_column Variation i = aligned i
first_column Covariation i = 0

-- entry i j with the row y's summand added
unfoldable pub plus : Term → Matrix → (ℕ → Float) → ℕ → ℕ → Float → Float
plus term s y i j v = cond (nat_le (first_column term i) j) (v ⊕ summand term s y i j) v

-- entry i j with the summands of K rows added, the first row's first
abbrev pub plus_all : ℕ → Term → Matrix → Matrix → ℕ → ℕ → Float → Float
plus_all K term s y i j = loop K (λ t. plus term s (y t) i j)

-- the table after T periods, of which F t changes each entry in period t
abbrev pub summed : ℕ → (ℕ → ℕ → ℕ → Float → Float) → ℕ → List Float
summed n F T = rows n n (λ p q. loop T (λ t. F t p q) zero⁺)

-- each entry below the diagonal as the one above it; and row i alone, up to column j
abbrev pub mirrored : ℕ → List Float → Matrix
mirrored n old p q = cond (nat_lt q p) (at old n q p) (at old n p q)

abbrev pub mirrored_to : ℕ → ℕ → ℕ → List Float → Matrix
mirrored_to n i j old p q = cond (p == i) (cond (nat_lt q j) (at old n q p) (at old n p q)) (at old n p q)

-- s has k numbers, where it is read
abbrev pub Sized : Term → ℕ → List Float → Type 0
Sized Product k s = Unit {0}
Sized Variation k s = k ≤ length s
Sized Covariation k s = k ≤ length s
