-- Returns of prices that stand row by row: return k is the entry in row k / n and column k % n of the matrix of returns. Assumes nothing.
use mathlib.Core.Path.{◌≡◌, sym, ap, ◌∙◌}
use mathlib.Core.List.{List, ◌++◌}
use Prim.Native.Nat.{ℕ, zero, suc, ◌+◌, ◌-◌, ◌*◌, ◌/◌, ◌%◌, ◌≤◌, ◌<◌}
use native.Mathlib.Nat.{suc-mul, div-add-mod'}
use native.Mathlib.Omega.{arith}
use lib.ListN.{drop}
use lib.Ieee.{Float}
use Rattle.leaves.specs.Numbers.{◌⊖◌, ◌⊘◌, one}
use Rattle.leaves.specs.Loops.{tab, fill, nth}
use Rattle.leaves.proofs.Loops.{tab_ext}
use Rattle.matrix.specs.Matrix.{at, rows}
use Rattle.matrix.proofs.Stored.{entry_at, rows_nth}
use Rattle.rules.specs.Prices.{simple_returns}
use Rattle.prices.specs.Stored.{return_at}

-- one row further on
below : (p : List Float) (n k : ℕ) → at p n (suc (k / n)) (k % n) ≡ nth p (k + n)
below p n k = ap (nth p) (let e = div-add-mod' k n in let f = suc-mul (k / n) n in omega arith)

pub return_entry : (p : List Float) (n k : ℕ) → simple_returns (at p n) (k / n) (k % n) ≡ return_at p n k
unfolding simple_returns return_at
return_entry p n k = λ t. below p n k t ⊘ entry_at p n k t ⊖ one

-- all of them, before what they leave of a slice
pub returns_filled : (p : List Float) (n m : ℕ) (slice : List Float) → tab (m * n) (return_at p n) ++ drop (m * n) slice ≡ fill (m * n) (nth (rows m n (simple_returns (at p n)))) slice
unfolding fill
returns_filled p n m slice =
    ap (λ (l : List Float). l ++ drop (m * n) slice)
    (tab_ext (return_at p n) (nth (rows m n (simple_returns (at p n)))) (m * n) (λ k h. sym (rows_nth (simple_returns (at p n)) m n k h ∙ return_entry p n k)))

-- the last row has no return of its own
pub but_one_row : (R n : ℕ) → 0 < R → (R - 1) * n + n ≡ R * n
but_one_row zero n h = absurd (omega (arith, h))
but_one_row (suc R) n h = let e : suc R - 1 ≡ R = omega arith in ap (λ (r : ℕ). r * n + n) e ∙ omega (arith, suc-mul R n)

pub but_one_fits : (l R n : ℕ) → 0 < R → l ≡ R * n → (n ≤ l) × (l - n ≡ (R - 1) * n)
but_one_fits l R n h e = let f = but_one_row R n h in (omega arith, omega arith)
