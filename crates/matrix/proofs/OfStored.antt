-- A stored matrix stands for the function that it stores: its entries, a matrix made of it entry by entry, its sums and its largest size. Assumes nothing.
use mathlib.Core.Path.{◌≡◌, refl, sym, ap, ◌∙◌}
use mathlib.Core.Bool.{Bool, true, false}
use mathlib.Core.List.{List}
use Prim.Native.Nat.{ℕ, ◌+◌, ◌*◌, ◌/◌, ◌%◌, ◌<◌}
use native.Mathlib.Omega.{arith}
use lib.Dec.{ltb}
use lib.ListN.{length, get_or-eq_default}
use lib.Ieee.{Float, nan}
use borrow.Author.Tests.{ltb-true, ltb-false}
use Rattle.leaves.specs.Numbers.{◌⊗◌, zero⁺}
use Rattle.leaves.specs.Loops.{tab, nth}
use Rattle.leaves.proofs.Loops.{tab_ext}
use Rattle.matrix.specs.Matrix.{Matrix, at, rows, trace, amax, every, total, squares, squared}
use Rattle.matrix.proofs.Stored.{entry_at, length_rows, rows_nth, rows_at, rows_ext}
use Rattle.matrix.proofs.SumOver.{sum_over_ext}
use Rattle.matrix.proofs.Alike.{amax_alike, trace_alike}

-- entry i j of a table that holds f's entries
pub at_stored : (n : ℕ) (f : Matrix) {l : List Float} → l ≡ rows n n f → (i j : ℕ) → i < n → j < n → at l n i j ≡ f i j
at_stored n f e i j hi hj = ap (λ (l : List Float). at l n i j) e ∙ rows_at f n n i j hi hj

-- how long it is
pub rows_long : (n : ℕ) (f : Matrix) (l : List Float) → l ≡ rows n n f → length l ≡ n * n
rows_long n f l e = ap length e ∙ length_rows f n n

-- a table made of a table, entry by entry
pub rows_then : (l : List Float) (n : ℕ) (f : Matrix) (g : ℕ → ℕ → Float → Float) → l ≡ rows n n f → rows n n (λ i j. g i j (at l n i j)) ≡ rows n n (λ i j. g i j (f i j))
rows_then l n f g e =
    rows_ext n n (λ i j. g i j (at l n i j)) (λ i j. g i j (f i j)) (λ i j hi hj. ap (g i j) (at_stored n f e i j hi hj))

-- a matrix made of a stored one, number by number, and another
pub entrywise : (n : ℕ) (f : Matrix) (g : Float → Float → Float) (xs : List Float) {l out : List Float} → l ≡ rows n n f → out ≡ tab (length l) (λ k. g (nth xs k) (nth l k)) → out ≡ rows n n (λ i j. g (at xs n i j) (f i j))
unfolding rows
entrywise n f g xs {l} e e' =
    e' ∙ ap (λ (m : ℕ). tab m (λ k. g (nth xs k) (nth l k))) (rows_long n f l e)
    ∙ tab_ext (λ k. g (nth xs k) (nth l k)) (λ k. g (at xs n (k / n) (k % n)) (f (k / n) (k % n))) (n * n)
    (λ k h t. g (sym (entry_at xs n k) t) ((ap (λ (m : List Float). nth m k) e ∙ rows_nth f n n k h) t))

-- h of every entry, also past the end, where there is none
pub mapped_at : (h : Float → Float) → h nan ≡ nan → (a : List Float) (n : ℕ) → length a ≡ n * n → at (rows n n (λ i j. h (at a n i j))) n ≡ (λ i j. h (at a n i j))
mapped_at h e a n l = λ t i j. number (i * n + j) t
  where
    number : (k : ℕ) → nth (rows n n (λ i j. h (at a n i j))) k ≡ h (nth a k)
    number k = go (ltb k (n * n)) refl
      where
        go : (b : Bool) → ltb k (n * n) ≡ b → nth (rows n n (λ i j. h (at a n i j))) k ≡ h (nth a k)
        go true t = rows_nth (λ i j. h (at a n i j)) n n k (ltb-true k (n * n) t) ∙ ap h (entry_at a n k)
        go false t =
            let past = ltb-false k (n * n) t in
            get_or-eq_default (rows n n (λ i j. h (at a n i j))) nan (omega (arith, length_rows (λ i j. h (at a n i j)) n n))
            ∙ sym (ap h (get_or-eq_default a nan (omega arith)) ∙ e)

-- ---- its sums and its largest size

module _ (n : ℕ) (f : Matrix) {l : List Float} (e : l ≡ rows n n f) where
  pub total_stored : total n (at l n) ≡ total n f
  unfolding total
  total_stored = sum_over_ext n every (at l n) f zero⁺ (at_stored n f e)

  pub squares_stored : squares n (at l n) ≡ squares n f
  unfolding squares
  squares_stored = sum_over_ext n every (squared (at l n)) (squared f) zero⁺ (λ i j hi hj t. at_stored n f e i j hi hj t ⊗ at_stored n f e i j hi hj t)

  pub trace_stored : trace n (at l n) ≡ trace n f
  trace_stored = trace_alike n (at l n) f (at_stored n f e)

  pub amax_stored : amax n n (at l n) ≡ amax n n f
  amax_stored = amax_alike n n (at l n) f (at_stored n f e)
