-- Document 01, "How tight" c: a diagonal matrix is decomposed at every limit above 0, and so is a diagonal given matrix whose averages with its transpose are finite (of the call: `NotDecomposed`). Its entries off the diagonal stay zeros of either sign up to the
-- first test, which they pass. Assumes nothing.
use mathlib.Core.Path.{◌≡◌, refl, sym, ap, ◌∙◌, subst}
use Prim.Native.Nat.{ℕ, zero, suc, ◌*◌, ◌/◌, ◌%◌, ◌<◌}
use native.Mathlib.Nat.{lt_irrefl}
use mathlib.Core.Bool.{Bool, true, false, not}
use mathlib.Core.List.{List}
use mathlib.Core.Option.{Option, none, some}
use lib.Dec.{T, ltb, eqb}
use lib.IntN.{pos}
use lib.Ieee.{Float, nan, inf, fin, binary64, lt, le, eq, is_nan, fits}
use lib.Ieee.Bits.{is_true}
use lib.Ieee.Fits.{div-fits}
use borrow.Author.Tests.{ltb-true, eqb-true, eqb-false}
use Rattle.leaves.specs.Numbers.{◌⊕◌, ◌⊗◌, ◌⊘◌, zero⁺, two, is_finite}
use Rattle.leaves.specs.Root.{sqrt}
use Rattle.leaves.proofs.Loops.{kept_loop}
use Rattle.leaves.proofs.First.{none_first}
use Rattle.leaves.proofs.Zero.{Zero, no, other_is_not, not_above, zero_not_above}
use Rattle.leaves.proofs.Units.{sign, nonzero_pos}
use Rattle.leaves.proofs.Keys.{number, finite_number}
use Rattle.matrix.specs.Matrix.{Matrix, at, rows, amax, averaged, sum_over, squares, first_entry, all_finite, symmetrized, divided}
use Rattle.matrix.specs.Jacobi.{Decomposition, Test, fails, converged, goes_on, off_diagonal, test, start, decompose, unturned, tolerance, initial}
use Rattle.matrix.proofs.Stored.{rows_at, by_cell}
use Rattle.matrix.proofs.Identity.{scaled_entry, start_is}
use Rattle.matrix.proofs.Quotients.{quotients_finite}
use Rattle.matrix.proofs.Finite.{finite_all, amax_finite}
use Rattle.matrix.proofs.Sweeps.{decompose_is}
use Rattle.rules.specs.Given.{average, decompose_given}
use Rattle.law.proofs.Counts.{first_test, found_at_once}
use Rattle.law.proofs.Zeros.{Plus, zero_is, zero_add, zero_square, zero_half, zero_double, zero_average, is_zero, zero_over, number_zero_plus, number_twice, number_half, plus_square, plus_add, plus_tolerance, zero_below}

-- ---- the first test
module _ (n : ℕ) (l : List Float) (numbers : (i j : ℕ) → i < n → j < n → T (number (at l n i j))) (zeros : (i j : ℕ) → i < n → j < n → i < j → Zero (at l n i j)) where
  sum_zero : Zero (off_diagonal n (at l n))
  unfolding off_diagonal sum_over
  sum_zero = kept_loop Zero n _ zero⁺ (false, refl) (λ i hi s p. kept_loop Zero n _ s p (λ j hj t q. go i j hi hj t q (ltb i j) refl))
    where
      go : (i j : ℕ) → i < n → j < n → (t : Float) → Zero t → (b : Bool) → ltb i j ≡ b → Zero (elim b [ true ↦ t ⊕ at l n i j ⊗ at l n i j | false ↦ t ])
      go i j hi hj t q true e = zero_add t (at l n i j ⊗ at l n i j) q (zero_square (at l n i j) (zeros i j hi hj (ltb-true i j e)))
      go i j hi hj t q false e = q

  norm_plus : Plus (squares n (at l n))
  unfolding squares sum_over is_nan
  norm_plus = kept_loop Plus n _ zero⁺ (tt, unfold sign in refl) (λ i hi s p. kept_loop Plus n _ s p (λ j hj t q. plus_add t (at l n i j ⊗ at l n i j) q (plus_square (at l n i j) (numbers i j hi hj))))

  passes_test : test n (tolerance n l) (initial n l) ≡ converged
  unfolding test is_nan sqrt
  passes_test = ap judged sum_zero.1 ∙ go sum_zero.0
    where
      judged : Float → Test
      judged x = elim (is_nan x) [ true ↦ fails | false ↦ elim (le (sqrt (two ⊗ x)) (tolerance n l)) [ true ↦ converged | false ↦ goes_on ] ]

      decided : Bool → Test
      decided b = elim b [ true ↦ converged | false ↦ goes_on ]

      go : (s : Bool) → judged (fin s zero (pos 0)) ≡ converged
      go s =
          let d = zero_double (fin s zero (pos 0)) (s, refl) in
          ap (λ (x : Float). decided (le (sqrt x) (tolerance n l))) d.1
          ∙ ap decided (zero_below d.0 (tolerance n l) (plus_tolerance (squares n (at l n)) norm_plus))

-- ---- a diagonal matrix
abbrev pub Diagonal : ℕ → Matrix → Type 0
Diagonal n a = (i j : ℕ) → i < n → j < n → (i ≡ j → ⊥) → eq (a i j) zero⁺ ≡ true

module _ (n : ℕ) (a : Matrix) (fit : (i j : ℕ) → i < n → j < n → T (fits binary64 (a i j))) (all : all_finite n n a ≡ true) (diagonal : Diagonal n a) (nonzero : eq (amax n n a) zero⁺ ≡ false) where
  over_zero : (i j : ℕ) → i < n → j < n → (i ≡ j → ⊥) → Zero (a i j ⊘ amax n n a)
  over_zero i j hi hj d =
      let largest = amax_finite n n a (λ i j hi hj. (fit i j hi hj, subst T (sym (finite_all n n a all i j hi hj)) tt)) in
      zero_over (a i j) (amax n n a) (zero_is (a i j) (fit i j hi hj) (diagonal i j hi hj d)) largest.0 largest.1 (nonzero_pos (amax n n a) largest nonzero)

  -- an entry over the largest, as the sweeps begin with it
  start_entry : Matrix
  start_entry = symmetrized (scaled_entry (amax n n a) a)

  start_entry_zero : (i j : ℕ) → i < n → j < n → (i ≡ j → ⊥) → Zero (start_entry i j)
  unfolding start_entry
  start_entry_zero i j hi hj d =
      let q : (i j : ℕ) → i < n → j < n → (i ≡ j → ⊥) → Zero (scaled_entry (amax n n a) a i j) = λ i j hi hj d. zero_add zero⁺ (a i j ⊘ amax n n a) (false, refl) (over_zero i j hi hj d) in
      zero_half (scaled_entry (amax n n a) a i j ⊕ scaled_entry (amax n n a) a j i) (zero_add (scaled_entry (amax n n a) a i j) (scaled_entry (amax n n a) a j i) (q i j hi hj d) (q j i hj hi (λ e. d (sym e))))

  start_entry_number : (i j : ℕ) → i < n → j < n → T (number (start_entry i j))
  unfolding is_nan
  start_entry_number i j hi hj = go (eqb i j) refl
    where
      same : (i : ℕ) → i < n → T (number (start_entry i i))
      same i h = unfold start_entry in number_half (scaled_entry (amax n n a) a i i ⊕ scaled_entry (amax n n a) a i i) (number_twice (scaled_entry (amax n n a) a i i) (number_zero_plus (a i i ⊘ amax n n a) (finite_number (a i i ⊘ amax n n a) (quotients_finite n a fit all nonzero i i h h).1)))

      go : (b : Bool) → eqb i j ≡ b → T (number (start_entry i j))
      go true e = subst (λ (j : ℕ). T (number (start_entry i j))) (eqb-true i j e) (same i hi)
      go false e = let z = start_entry_zero i j hi hj (eqb-false i j e) in rw z.1 tt

  start_entries : start n (amax n n a) a ≡ rows n n start_entry
  unfolding start_entry
  start_entries = start_is n (amax n n a) a (quotients_finite n a fit all nonzero)

  diagonal_converges : first_test n a ≡ converged
  diagonal_converges =
      let l = rows n n start_entry in
      rw start_entries (passes_test n l (λ i j hi hj. rw (rows_at start_entry n n i j hi hj) (start_entry_number i j hi hj)) (λ i j hi hj h. rw (rows_at start_entry n n i j hi hj) (start_entry_zero i j hi hj (λ e. lt_irrefl j (subst (λ (k : ℕ). k < j) e h)))))

pub diagonal_found : (limit n : ℕ) (a : Matrix) → 0 < limit → ((i j : ℕ) → i < n → j < n → T (fits binary64 (a i j))) → all_finite n n a ≡ true → Diagonal n a → (decompose limit n a).found ≡ true
diagonal_found limit n a p fit all diagonal = go (eq (amax n n a) zero⁺) refl
  where
    go : (b : Bool) → eq (amax n n a) zero⁺ ≡ b → (decompose limit n a).found ≡ true
    go true e = rw (decompose_is limit n a, all, e) (unfold unturned in refl)
    go false e = (found_at_once limit n a p all e (diagonal_converges n a fit all diagonal e)).0

-- ---- a given matrix: its averages are to be finite, which those of entries of size 2^1023 are not
finite_from : (n : ℕ) (a : Matrix) → ((i j : ℕ) → i < n → j < n → T (is_finite (a i j))) → all_finite n n a ≡ true
unfolding all_finite first_entry
finite_from n a h = ap decided (none_first (λ k. not (is_finite (a (k / n) (k % n)))) (n * n) (by_cell n n (λ i j. not (is_finite (a i j)) ≡ false) (λ i j hi hj. ap not (is_true (is_finite (a i j)) (h i j hi hj)))))
  where
    decided : Option ℕ → Bool
    decided o = elim (elim o as (λ z. Option (ℕ × ℕ)) [ none ↦ none | some k ↦ some (k / n, k % n) ]) as (λ z. Bool) [ none ↦ true | some k ↦ false ]

above_not : (x : Float) → lt zero⁺ x ≡ true → eq x zero⁺ ≡ false
above_not nan e = unfold lt in absurd (subst T (sym e) tt)
above_not (inf s) e = unfold eq in refl
above_not (fin true zero d) e = no e (not_above 0 d)
above_not (fin false zero d) e = no e (zero_not_above d)
above_not (fin s (suc m) d) e = other_is_not s m d

-- the averages, and their quotients by the largest
module _ (n : ℕ) (g : List Float) (fit : (i j : ℕ) → i < n → j < n → T (fits binary64 (at g n i j))) (diagonal : Diagonal n (at g n)) where
  averages_fit : (i j : ℕ) → i < n → j < n → T (fits binary64 (average g n i j))
  averages_fit i j hi hj = rw (rows_at (averaged (at g n)) n n i j hi hj) (div-fits binary64 (at g n i j ⊕ at g n j i) two)

  averages_diagonal : Diagonal n (average g n)
  averages_diagonal i j hi hj d =
      let z : (i j : ℕ) → i < n → j < n → (i ≡ j → ⊥) → Zero (at g n i j) = λ i j hi hj d. zero_is (at g n i j) (fit i j hi hj) (diagonal i j hi hj d) in
      ap (λ (x : Float). eq x zero⁺) (rows_at (averaged (at g n)) n n i j hi hj)
      ∙ is_zero (averaged (at g n) i j) (zero_average (at g n i j ⊕ at g n j i) (zero_add (at g n i j) (at g n j i) (z i j hi hj d) (z j i hj hi (λ e. d (sym e)))))

  pub given_diagonal : (limit : ℕ) → 0 < limit → all_finite n n (average g n) ≡ true → (decompose_given limit n (average g n)).found ≡ true
  unfolding decompose_given
  given_diagonal limit p all = go (lt zero⁺ (amax n n (average g n))) refl
    where
      quotients : Matrix
      quotients = divided (average g n) (amax n n (average g n))

      chosen : Bool → Decomposition
      chosen x = elim x [ true ↦ decompose limit n quotients | false ↦ unturned n true ]

      go : (x : Bool) → lt zero⁺ (amax n n (average g n)) ≡ x → (chosen x).found ≡ true
      go false e = unfold unturned in refl
      go true e =
          let w = above_not (amax n n (average g n)) e in
          let f = quotients_finite n (average g n) averages_fit all w in
          diagonal_found limit n quotients p (λ i j hi hj. (f i j hi hj).0) (finite_from n quotients (λ i j hi hj. (f i j hi hj).1)) (λ i j hi hj d. is_zero (quotients i j) (over_zero n (average g n) averages_fit all averages_diagonal w i j hi hj d))
