-- Laws of a table whose part below the diagonal becomes the mirror of the part above it. Assumes nothing.
use Rattle.std.proofs.Common.{◌≡◌, ℕ, ◌+◌, ◌*◌, ◌<◌, ◌≤◌, Bool, true, false, cond, eqb, ltb, List, length, set, sym, refl, ◌∙◌, ⊎_elim, arith, length-set, get_or-set_other, get_or-set_same, ltb-true, le-ltb, lt-ltb, ne_eqb, eqb-true}
use lib.Ieee.{Float, nan}
use borrow.Author.Tests.{eqb-false}
use Rattle.leaves.specs.Loops.{nth}
use Rattle.leaves.proofs.Whole.{le_or_lt}
use Rattle.leaves.proofs.Cells.{row, same_row, same_column}
use Rattle.matrix.specs.Matrix.{at, rows}
use Rattle.matrix.proofs.Stored.{rows_is}
use Rattle.matrix.proofs.ByRows.{passed, passed_before, passed_here, passed_more}
use Rattle.matrix.proofs.OfStored.{at_stored}
use Rattle.tables.specs.Rows.{mirrored, mirrored_to}

module _ (n i : ℕ) (old : List Float) where
  pub mirror_none : length old ≡ n * n → old ≡ rows n n (mirrored_to n i 0 old)
  mirror_none len = rows_is old n (mirrored_to n i 0 old) len (λ p q hp hq. rw (le-ltb q 0 (omega arith)) (same (eqb p i) (at old n p q)))
    where
      same : (b : Bool) (x : Float) → x ≡ cond b x x
      same true x = refl
      same false x = refl

  module _ (j : ℕ) (out : List Float) (hi : i < n) (hj : j < i) (len : length out ≡ n * n) (e : out ≡ rows n n (mirrored_to n i j old)) where
    next : List Float
    next = set out (i * n + j) (nth out (j * n + i))

    was : (p q : ℕ) → p < n → q < n → at out n p q ≡ mirrored_to n i j old p q
    was = at_stored n (mirrored_to n i j old) e

    -- the cell that is read lies above the diagonal, in another row
    new : at next n i j ≡ at old n j i
    unfolding next
    new =
        get_or-set_same out (i * n + j) (nth out (j * n + i)) nan (omega (arith, row i n n hi)) ∙ was j i (omega arith) hi
        ∙ rw (ne_eqb j i (λ d. omega arith))

    other : (p q : ℕ) → p < n → q < n → (p ≡ i → q ≡ j → ⊥) → at next n p q ≡ mirrored_to n i j old p q
    unfolding next
    other p q hp hq ne =
        get_or-set_other out (i * n + j) (p * n + q) (nth out (j * n + i)) nan
        (λ d. ne (same_row n i p q j hq (omega arith) d) (same_column n i p q j hq (omega arith) d))
        ∙ was p q hp hq

    entry : (p q : ℕ) → p < n → q < n → (b c : Bool) → eqb p i ≡ b → eqb q j ≡ c → at next n p q ≡ cond b (cond (ltb q (j + 1)) (at old n q p) (at old n p q)) (at old n p q)
    entry p q hp hq false c eb ec = other p q hp hq (λ d d'. eqb-false p i eb d) ∙ rw eb
    entry p q hp hq true true eb ec =
        let p' : i ≡ p = sym (eqb-true p i eb) in
        let q' : j ≡ q = sym (eqb-true q j ec) in
        (λ k. at next n (sym p' k) (sym q' k)) ∙ new ∙ (λ k. at old n (q' k) (p' k)) ∙ rw (lt-ltb q (j + 1) (omega arith))
    entry p q hp hq true false eb ec =
        other p q hp hq (λ d d'. eqb-false q j ec d') ∙ rw eb
        (⊎_elim
        (λ (h : j ≤ q). rw (le-ltb q j h, le-ltb q (j + 1) (later h)))
        (λ (h : q < j). rw (lt-ltb q j h, lt-ltb q (j + 1) (omega arith)))
        (le_or_lt j q))
      where
        later : j ≤ q → j + 1 ≤ q
        later h = ⊎_elim (λ (g : q ≤ j). absurd (eqb-false q j ec (omega arith))) (λ (g : j < q). omega arith) (le_or_lt q j)

    pub mirror_more : set out (i * n + j) (nth out (j * n + i)) ≡ rows n n (mirrored_to n i (j + 1) old)
    unfolding next
    mirror_more = rows_is next n (mirrored_to n i (j + 1) old) (length-set out (i * n + j) (nth out (j * n + i)) ∙ len) (λ p q hp hq. entry p q hp hq (eqb p i) (eqb q j) refl refl)

-- a row more
pub mirrored_more : (n i : ℕ) (old out next : List Float) → out ≡ passed n i (mirrored n old) old → next ≡ rows n n (mirrored_to n i i out) → next ≡ passed n (i + 1) (mirrored n old) old
mirrored_more n i old out next e e' = passed_more n (mirrored n old) old i out e (λ p q. cond (ltb q i) (at out n q p) (at out n p q)) next e' (λ q hi hq. same q hi hq (ltb q i) refl)
  where
    same : (q : ℕ) → i < n → q < n → (b : Bool) → ltb q i ≡ b → cond b (at out n q i) (at out n i q) ≡ cond b (at old n q i) (at old n i q)
    same q hi hq true h = passed_before n (mirrored n old) old i out e q i hq hi (ltb-true q i h) ∙ rw (le-ltb i q (omega (arith, ltb-true q i h)))
    same q hi hq false h = passed_here n (mirrored n old) old i out e i q hi hq (omega arith)
