-- Two matrices with the same entries, within m rows and n columns, are alike in all that is looked for, multiplied, summed or decomposed. Assumes nothing.
use mathlib.Core.Path.{◌≡◌, refl, ap, ◌∙◌}
use mathlib.Core.Bool.{Bool, true, false, not}
use mathlib.Core.List.{List}
use mathlib.Core.Option.{Option, none, some}
use Prim.Native.Nat.{ℕ, ◌*◌, ◌/◌, ◌%◌, ◌<◌}
use lib.Ieee.{Float, eq}
use Rattle.leaves.specs.Numbers.{◌⊗◌, ◌⊘◌, zero⁺, is_finite}
use Rattle.leaves.proofs.Loops.{sum_ext, amax_ext}
use Rattle.leaves.proofs.First.{first_ext}
use Rattle.matrix.specs.Matrix.{Matrix, at, rows, identity, product, transpose, symmetrized, divided, trace, amax, first_entry, all_finite}
use Rattle.matrix.specs.Jacobi.{start, decomposed_by, decompose}
use Rattle.matrix.proofs.Stored.{cell_ext, rows_ext}

pub product_ext : (n : ℕ) (f f' g g' : Matrix) (i j : ℕ) → ((k : ℕ) → k < n → f i k ≡ f' i k) → ((k : ℕ) → k < n → g k j ≡ g' k j) → product n f g i j ≡ product n f' g' i j
product_ext n f f' g g' i j hf hg = sum_ext n (λ k. f i k ⊗ g k j) (λ k. f' i k ⊗ g' k j) (λ k h t. hf k h t ⊗ hg k h t)

pub first_entry_alike : (m n : ℕ) (f g : ℕ → ℕ → Bool) → ((i j : ℕ) → i < m → j < n → f i j ≡ g i j) → first_entry m n f ≡ first_entry m n g
unfolding first_entry
first_entry_alike m n f g h =
    ap (λ (o : Option ℕ). elim o as (λ z. Option (ℕ × ℕ)) [ none ↦ none | some k ↦ some (k / n, k % n) ]) (first_ext (m * n) (λ k. f (k / n) (k % n)) (λ k. g (k / n) (k % n)) (cell_ext m n f g h))

pub finite_same : (m n : ℕ) (f g : Matrix) → ((i j : ℕ) → i < m → j < n → is_finite (f i j) ≡ is_finite (g i j)) → all_finite m n f ≡ all_finite m n g
unfolding all_finite
finite_same m n f g h = ap (λ (o : Option (ℕ × ℕ)). elim o as (λ z. Bool) [ none ↦ true | some k ↦ false ]) (first_entry_alike m n (λ i j. not (is_finite (f i j))) (λ i j. not (is_finite (g i j))) (λ i j a b. ap not (h i j a b)))

module _ (m n : ℕ) (f g : Matrix) (h : (i j : ℕ) → i < m → j < n → f i j ≡ g i j) where
  pub amax_alike : amax m n f ≡ amax m n g
  unfolding amax
  amax_alike = amax_ext (m * n) (λ k. f (k / n) (k % n)) (λ k. g (k / n) (k % n)) (cell_ext m n f g h)

  pub finite_alike : all_finite m n f ≡ all_finite m n g
  finite_alike = finite_same m n f g (λ i j a b. ap is_finite (h i j a b))

module _ (n : ℕ) (f g : Matrix) (h : (i j : ℕ) → i < n → j < n → f i j ≡ g i j) where
  pub trace_alike : trace n f ≡ trace n g
  unfolding trace
  trace_alike = sum_ext n (λ i. f i i) (λ i. g i i) (λ i l. h i i l l)

  start_alike : (scale : Float) → start n scale f ≡ start n scale g
  unfolding start
  start_alike scale =
      ap (λ (b : List Float). rows n n (symmetrized (at b n)))
      (rows_ext n n (product n (left f) identity) (product n (left g) identity) (λ i j hi hj. product_ext n (left f) (left g) identity identity i j
      (λ k l. product_ext n (transpose identity) (transpose identity) (divided f scale) (divided g scale) i k (λ k l. refl) (λ o u. ap (λ (x : Float). x ⊘ scale) (h o k u l))) (λ k l. refl)))
    where
      left : Matrix → Matrix
      left f = product n (transpose identity) (divided f scale)

pub decompose_alike : (limit n : ℕ) (f g : Matrix) → ((i j : ℕ) → i < n → j < n → f i j ≡ g i j) → decompose limit n f ≡ decompose limit n g
unfolding decompose
decompose_alike limit n f g h =
    let scales = amax_alike n n f g h in
    λ i. decomposed_by limit n (finite_alike n n f g h i) (eq (scales i) zero⁺) (scales i) ((ap (λ (s : Float). start n s f) scales ∙ start_alike n f g h (amax n n g)) i)
