-- Document 01, "Float leaves", sums, means, amax, min and max: what is done for each index from 0 up, in rising order; the first index at which a
-- test holds; and tables of numbers. Definitions only.
use Rattle.std.specs.Prelude.{ℕ, zero, suc, ◌+◌, ◌*◌, Bool, cond, List, [], ◌∷◌, ◌++◌, drop, slice_index_or, Float}
use Rattle.std.proofs.Math.Option.{Option, none, some}
use Rattle.std.specs.Float.{nan}
use Rattle.leaves.specs.Numbers.{◌⊕◌, ◌⊘◌, count, zero⁺, abs, larger, smaller}

-- s after step 0, then step 1, .. step n - 1
unfoldable pub loop : {S : Type 0} → ℕ → (ℕ → S → S) → S → S
loop zero step s = s
loop (suc n) step s = step n (loop n step s)

-- f 0 + f 1 + .. + f (n - 1), from +0.0
unfoldable pub sum_to : ℕ → (ℕ → Float) → Float
sum_to n f = loop n (λ k s. s ⊕ f k) zero⁺

-- a mean: the sum, then one division
abbrev pub mean_to : ℕ → (ℕ → Float) → Float
mean_to n f = sum_to n f ⊘ count n

-- the largest of |f 0| .. |f (n - 1)|, from 0, NaN passed over
unfoldable pub amax_to : ℕ → (ℕ → Float) → Float
amax_to n f = loop n (λ k m. larger m (abs (f k))) zero⁺

-- the largest and the smallest of f 0 .. f (n - 1), from f 0
unfoldable pub max_to : ℕ → (ℕ → Float) → Float
max_to n f = loop n (λ k m. larger m (f k)) (f 0)

unfoldable pub min_to : ℕ → (ℕ → Float) → Float
min_to n f = loop n (λ k m. smaller m (f k)) (f 0)

-- the first index below n at which the test holds
unfoldable pub first_to : ℕ → (ℕ → Bool) → Option ℕ
first_to zero test = none
first_to (suc n) test = elim (first_to n test) [ none ↦ cond (test n) (some n) none | some k ↦ some k ]

-- f 0, f 1, .. f (n - 1)
unfoldable pub tab : {A : Type 0} → ℕ → (ℕ → A) → List A
tab zero f = []
tab (suc n) f = f 0 ∷ tab n (λ k. f (suc k))

-- the list with its first numbers replaced by these
unfoldable pub fill : {A : Type 0} → ℕ → (ℕ → A) → List A → List A
fill n f old = tab n f ++ drop n old

-- number i of a list
abbrev pub nth : List Float → ℕ → Float
nth l i = slice_index_or l i nan

-- number t of column j of a list that stands row by row in n columns
abbrev pub column : List Float → ℕ → ℕ → ℕ → Float
column l n j t = nth l (t * n + j)
