-- Matrices and their copies, entry by entry 2 ^ k times as large: their largest size, trace and sums of chosen entries, and the stored ones. Assumes nothing.
use mathlib.Core.Path.{sym, subst₂}
use Prim.Native.Nat.{ℕ, ◌+◌, ◌*◌, ◌/◌, ◌%◌, ◌≤◌, ◌<◌}
use native.Mathlib.Omega.{arith}
use mathlib.Core.Bool.{Bool, true, false}
use lib.Dec.{lit≤}
use lib.Ieee.{Float}
use Rattle.leaves.specs.Numbers.{◌⊕◌, zero⁺}
use Rattle.leaves.proofs.Units.{top_bits, mag}
use Rattle.leaves.proofs.Bounds.{Bounds, sum_of}
use Rattle.leaves.proofs.Operations.{Moved}
use Rattle.leaves.proofs.Totals.{moved_amax, Part, part_zero, part_add, part_more, part_loop, part_moved, moved_sum}
use Rattle.matrix.specs.Matrix.{Matrix, at, rows, trace, amax, add_kept, sum_row, sum_over}
use Rattle.matrix.specs.Limits.{max_side}
use Rattle.matrix.proofs.Stored.{by_cell, rows_at}
use Rattle.matrix.proofs.Finite.{amax_entry}
use Rattle.law.proofs.Bits.{side_bits, side_bits_lem, cell_bits, cell_bits_lem}

module _ {k : ℕ} {b : Bounds} (m n : ℕ) (f f' : Matrix) (each : (i j : ℕ) → i < m → j < n → Moved k b (f i j) (f' i j)) where
  pub amax_moved : Moved k b (amax m n f) (amax m n f')
  unfolding amax
  amax_moved = moved_amax (m * n) (λ c. f (c / n) (c % n)) (λ c. f' (c / n) (c % n)) (by_cell m n (λ i j. Moved k b (f i j) (f' i j)) each)

  pub amax_above : (i j : ℕ) → i < m → j < n → mag (f i j) ≤ mag (amax m n f)
  amax_above = amax_entry m n f (λ i j l m. let r = (each i j l m).range in (r.fit, r.finite))

pub trace_moved : {k : ℕ} {b : Bounds} (n : ℕ) (f f' : Matrix) → n ≤ max_side → (sum_of side_bits b).most + k ≤ top_bits → ((i : ℕ) → i < n → Moved k b (f i i) (f' i i)) → Moved k (sum_of side_bits b) (trace n f) (trace n f')
unfolding trace
trace_moved {k} {b} n f f' N o each = moved_sum k b n side_bits (side_bits_lem N) (lit≤ tt) o (λ i. f i i) (λ i. f' i i) each

-- the terms that are kept
pub over_moved : {k : ℕ} {b : Bounds} (n : ℕ) (keep : ℕ → ℕ → Bool) (f f' : Matrix) → n ≤ max_side → (sum_of cell_bits b).most + k ≤ top_bits → ((i j : ℕ) → i < n → j < n → Moved k b (f i j) (f' i j))
    → Moved k (sum_of cell_bits b) (sum_over n keep f zero⁺) (sum_over n keep f' zero⁺)
unfolding sum_over
over_moved {k} {b} n keep f f' N o each =
    part_moved k b (n * n) cell_bits (cell_bits_lem N N) (lit≤ tt) o (omega arith)
    (part_loop k b (n * n) cell_bits (cell_bits_lem N N) (lit≤ tt) o n n (sum_row n keep f) (sum_row n keep f')
    (λ i m s s' l e p. part_more k b (n * n) cell_bits (cell_bits_lem N N) (lit≤ tt) o (omega arith)
    (part_loop k b (n * n) cell_bits (cell_bits_lem N N) (lit≤ tt) o n 1 (add_kept keep f i) (add_kept keep f' i) (λ j m s s' r e p. one (keep i j) p (each i j l r) (omega arith)) m s s' (omega arith) p))
    0 zero⁺ zero⁺ (omega arith) (part_zero k b (n * n) cell_bits (cell_bits_lem N N) (lit≤ tt) o))
  where
    one : {m : ℕ} {s s' x x' : Float} (t : Bool) → Part k b m s s' → Moved k b x x' → m + 1 ≤ n * n → Part k b (m + 1) (elim t [ true ↦ s ⊕ x | false ↦ s ]) (elim t [ true ↦ s' ⊕ x' | false ↦ s' ])
    one true p u e = part_more k b (n * n) cell_bits (cell_bits_lem N N) (lit≤ tt) o (omega arith) (part_add k b (n * n) cell_bits (cell_bits_lem N N) (lit≤ tt) o (omega arith) p u)
    one false p u e = part_more k b (n * n) cell_bits (cell_bits_lem N N) (lit≤ tt) o (omega arith) p

pub rows_moved : {k : ℕ} {b : Bounds} (m n : ℕ) (f f' : Matrix) → ((i j : ℕ) → i < m → j < n → Moved k b (f i j) (f' i j)) → (i j : ℕ) → i < m → j < n → Moved k b (at (rows m n f) n i j) (at (rows m n f') n i j)
rows_moved {k} {b} m n f f' each i j l r = subst₂ (Moved k b) (sym (rows_at f m n i j l r)) (sym (rows_at f' m n i j l r)) (each i j l r)
