-- Laws of `sum_over`, the sum of the entries that are kept, row by row: terms that are alike, every entry, and those right of the diagonal. Assumes nothing.
use mathlib.Core.Path.{◌≡◌, sym, ap, ◌∙◌}
use mathlib.Core.Bool.{Bool, true, false}
use mathlib.Core.List.{List}
use Prim.Native.Nat.{ℕ, ◌+◌, ◌*◌, ◌/◌, ◌%◌, ◌≤◌, ◌<◌}
use native.Mathlib.Omega.{arith}
use lib.Dec.{ltb}
use lib.ListN.{length}
use lib.Ieee.{Float}
use borrow.Author.Tests.{lt-ltb, le-ltb}
use Rattle.leaves.specs.Numbers.{◌⊕◌, zero⁺}
use Rattle.leaves.specs.Loops.{sum_to, nth}
use Rattle.leaves.proofs.Loops.{loop_ext, sum_ext, loop_still}
use Rattle.leaves.proofs.Invariants.{loop_rows}
use Rattle.matrix.specs.Matrix.{Matrix, at, sum_over, every, add_kept, sum_row}
use Rattle.matrix.proofs.Stored.{entry_at}

-- terms that are alike
pub sum_over_ext : (n : ℕ) (keep : ℕ → ℕ → Bool) (f g : Matrix) (s : Float) → ((i j : ℕ) → i < n → j < n → f i j ≡ g i j) → sum_over n keep f s ≡ sum_over n keep g s
unfolding sum_over
sum_over_ext n keep f g s h = loop_ext n _ _ s (λ i hi x. loop_ext n _ _ x (λ j hj y t. elim (keep i j) [ true ↦ y ⊕ h i j hi hj t | false ↦ y ]))

-- every entry, row by row
sum_every : (f : Matrix) (n : ℕ) → sum_to (n * n) (λ k. f (k / n) (k % n)) ≡ sum_over n every f zero⁺
unfolding sum_to sum_over
sum_every f n = sym (loop_rows (λ i j s. s ⊕ f i j) n n zero⁺)

-- a number for every entry of a stored matrix
pub sum_stored : (g : Float → Float) (a : List Float) (n : ℕ) {x : Float} → x ≡ sum_to (length a) (λ k. g (nth a k)) → length a ≡ n * n → x ≡ sum_over n every (λ i j. g (at a n i j)) zero⁺
sum_stored g a n e l =
    e ∙ ap (λ (m : ℕ). sum_to m (λ k. g (nth a k))) l ∙ sum_ext (n * n) (λ k. g (nth a k)) (λ k. g (at a n (k / n) (k % n))) (λ k h. ap g (sym (entry_at a n k)))
    ∙ sum_every (λ i j. g (at a n i j)) n

-- those right of the diagonal: row p begins with column p + 1
pub above_none : (f : Matrix) (p : ℕ) (s : Float) → s ≡ sum_row (p + 1) ltb f p s
above_none f p s = sym (loop_still (add_kept ltb f p) (p + 1) s (λ j h x. let l : j ≤ p = omega arith in rw (add_kept, le-ltb p j l)))

pub above_more : (f : Matrix) (p q : ℕ) (s : Float) → p < q → s ⊕ f p q ≡ add_kept ltb f p q s
above_more f p q s h = rw (add_kept, lt-ltb p q h)
