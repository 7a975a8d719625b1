-- A matrix that is symmetric to the last bit stays so in a rotation, a sweep and many (`rotate_symmetric`, `sweeps_symmetric`), and what the sweeps begin with
-- is symmetric (`start_symmetric`). Its columns need no turn of their own: with the block where they meet turned, rows p and q are copied (`mirrored_both`).
-- Assumes nothing.
use mathlib.Core.Path.{◌≡◌, refl, sym, ap, ◌∙◌, subst}
use mathlib.Core.Logic.{◌⊎◌, inl, inr, ◌≢◌}
use mathlib.Core.Bool.{Bool, true, false, cond}
use mathlib.Core.List.{List}
use Prim.Native.Nat.{ℕ, suc, ◌+◌, ◌-◌, ◌*◌, ◌≤◌, ◌<◌}
use native.Mathlib.Nat.{lt_trans, le_refl, ne_of_lt}
use lib.Arith.{digits_lt}
use lib.Dec.{eqb}
use lib.ListN.{length, set, length-set}
use lib.Ieee.{Float}
use borrow.Author.Tests.{eqb-true, eqb-false, eq-eqb, ne_eqb}
use Rattle.leaves.specs.Numbers.{◌⊕◌, ◌⊖◌, ◌⊗◌, zero⁺, half}
use Rattle.leaves.specs.Loops.{loop}
use Rattle.leaves.proofs.Whole.{le_or_lt}
use Rattle.leaves.proofs.Commutative.{⊕-comm}
use Rattle.leaves.proofs.Cells.{same_row, same_column}
use Rattle.matrix.specs.Matrix.{Matrix, at, rows, identity, product, transpose, divided, symmetrized}
use Rattle.matrix.specs.Rotation.{State, tangent, cosine, turn_columns, turn_rows, rotated, rotate_by, rotate, turned_both}
use Rattle.matrix.specs.Jacobi.{after_sweeps, start, sweep_row}
use Rattle.matrix.specs.Inner.{state, turned_block, mirrored, Symmetric}
use Rattle.matrix.proofs.Stored.{rows_at, rows_is}
use Rattle.matrix.proofs.Rotated.{rotate_cases}
use Rattle.matrix.proofs.Counts.{row_keeps, rows_keep, sweeps_keep}
use Rattle.matrix.proofs.Lines.{turned_row, turned_p, turned_q, turned_other, two_set, in_rows, row_lines, Replaced, lines_all, length_columns, columns_at, turned_same}
use Rattle.matrix.proofs.TurnedRows.{length_turned_rows, turned_rows_at}

-- ---- two cells of a stored matrix replaced
module _ (n : ℕ) (l : List Float) (len : length l ≡ n * n) (i₁ j₁ i₂ j₂ : ℕ) (h₁ : i₁ < n) (k₁ : j₁ < n) (h₂ : i₂ < n) (k₂ : j₂ < n) (d : i₁ ≢ i₂) (x y : Float) where
  abbrev two_cells : List Float
  two_cells = set (set l (i₁ * n + j₁) x) (i₂ * n + j₂) y

  length_two : length two_cells ≡ n * n
  length_two = simp length-set len

  found : (i j : ℕ) → at two_cells n i j ≡ cond (eqb (i * n + j) (i₁ * n + j₁)) x (cond (eqb (i * n + j) (i₂ * n + j₂)) y (at l n i j))
  found i j = two_set l (i₁ * n + j₁) (i₂ * n + j₂) (i * n + j) x y (rw len (digits_lt h₁ k₁)) (rw len (digits_lt h₂ k₂)) (λ e. d (same_row n i₂ i₁ j₁ j₂ k₁ k₂ e))

  at_first : (i j : ℕ) → i ≡ i₁ → j ≡ j₁ → at two_cells n i j ≡ x
  at_first i j e f = found i j ∙ rw (eq-eqb (i * n + j) (i₁ * n + j₁) (λ t. e t * n + f t))

  at_second : (i j : ℕ) → j < n → i ≡ i₂ → j ≡ j₂ → at two_cells n i j ≡ y
  at_second i j hj e f =
      found i j ∙ rw (ne_eqb (i * n + j) (i₁ * n + j₁) (λ z. d (sym (same_row n i₁ i j j₁ hj k₁ z) ∙ e)), eq-eqb (i * n + j) (i₂ * n + j₂) (λ t. e t * n + f t))

  at_neither : (i j : ℕ) → j < n → (i ≡ i₁ → j ≡ j₁ → ⊥) → (i ≡ i₂ → j ≡ j₂ → ⊥) → at two_cells n i j ≡ at l n i j
  at_neither i j hj e f =
      found i j ∙ rw (ne_eqb (i * n + j) (i₁ * n + j₁) (λ z. e (same_row n i₁ i j j₁ hj k₁ z) (same_column n i₁ i j j₁ hj k₁ z)), ne_eqb (i * n + j) (i₂ * n + j₂) (λ z. f (same_row n i₂ i j j₂ hj k₂ z) (same_column n i₂ i j j₂ hj k₂ z)))

-- ---- rows and columns p and q turned
module _ (c s : Float) (n p q : ℕ) (pq : p < q) (qn : q < n) where
  pn : p < n
  pn = lt_trans pq qn

  apart : (k : ℕ) → k ≡ p → k ≡ q → ⊥
  apart k e f = ne_of_lt pq (sym e ∙ f)

  -- an index is p, q or another
  abbrev Which : ℕ → Type 0
  Which k = (k ≡ p) ⊎ ((k ≡ q) ⊎ ((k ≢ p) × (k ≢ q)))

  place : (k : ℕ) → Which k
  place k = go (eqb k p) (eqb k q) (eqb-true k p) (eqb-false k p) (eqb-true k q) (eqb-false k q)
    where
      go : (u v : Bool) → (u ≡ true → k ≡ p) → (u ≡ false → k ≢ p) → (v ≡ true → k ≡ q) → (v ≡ false → k ≢ q) → Which k
      go true v e d f g = inl (e refl)
      go false true e d f g = inr (inl (f refl))
      go false false e d f g = inr (inr (d refl, g refl))

  module _ (f : Matrix) where
    -- the columns turned, then the rows
    abbrev twice : Matrix
    twice i j = turned_row c s p q (λ r. turned_row c s p q (f r) j) i

    row_p : (i j : ℕ) → i ≡ p → (j ≢ p) × (j ≢ q) → twice i j ≡ c ⊗ f p j ⊖ s ⊗ f q j
    row_p i j e d = turned_p c s p q (λ r. turned_row c s p q (f r) j) i e ∙ (λ t. c ⊗ turned_other c s p q (f p) j d t ⊖ s ⊗ turned_other c s p q (f q) j d t)

    row_q : (i j : ℕ) → i ≡ q → (j ≢ p) × (j ≢ q) → twice i j ≡ s ⊗ f p j ⊕ c ⊗ f q j
    row_q i j e d = turned_q c s p q pq (λ r. turned_row c s p q (f r) j) i e ∙ (λ t. s ⊗ turned_other c s p q (f p) j d t ⊕ c ⊗ turned_other c s p q (f q) j d t)

    column_p : (i j : ℕ) → (i ≢ p) × (i ≢ q) → j ≡ p → twice i j ≡ c ⊗ f i p ⊖ s ⊗ f i q
    column_p i j d e = turned_other c s p q (λ r. turned_row c s p q (f r) j) i d ∙ turned_p c s p q (f i) j e

    column_q : (i j : ℕ) → (i ≢ p) × (i ≢ q) → j ≡ q → twice i j ≡ s ⊗ f i p ⊕ c ⊗ f i q
    column_q i j d e = turned_other c s p q (λ r. turned_row c s p q (f r) j) i d ∙ turned_q c s p q pq (f i) j e

    aside : (i j : ℕ) → (i ≢ p) × (i ≢ q) → (j ≢ p) × (j ≢ q) → twice i j ≡ f i j
    aside i j d e = turned_other c s p q (λ r. turned_row c s p q (f r) j) i d ∙ turned_other c s p q (f i) j e

    -- of a symmetric matrix, but at (p, q) and (q, p)
    module _ (same : (i j : ℕ) → i < n → j < n → f i j ≡ f j i) where
      diagonal : (i j : ℕ) → i ≡ j → twice i j ≡ twice j i
      diagonal i j e = λ t. twice (e t) (sym e t)

      twice_symmetric : (i j : ℕ) → i < n → j < n → (i ≡ p → j ≡ q → ⊥) → (i ≡ q → j ≡ p → ⊥) → Which i → Which j → twice i j ≡ twice j i
      twice_symmetric i j hi hj x y (inl e) (inl g) = diagonal i j (e ∙ sym g)
      twice_symmetric i j hi hj x y (inl e) (inr (inl g)) = absurd (x e g)
      twice_symmetric i j hi hj x y (inl e) (inr (inr g)) = row_p i j e g ∙ (λ t. c ⊗ same p j pn hj t ⊖ s ⊗ same q j qn hj t) ∙ sym (column_p j i g e)
      twice_symmetric i j hi hj x y (inr (inl e)) (inl g) = absurd (y e g)
      twice_symmetric i j hi hj x y (inr (inl e)) (inr (inl g)) = diagonal i j (e ∙ sym g)
      twice_symmetric i j hi hj x y (inr (inl e)) (inr (inr g)) = row_q i j e g ∙ (λ t. s ⊗ same p j pn hj t ⊕ c ⊗ same q j qn hj t) ∙ sym (column_q j i g e)
      twice_symmetric i j hi hj x y (inr (inr e)) (inl g) = column_p i j e g ∙ (λ t. c ⊗ same i p hi pn t ⊖ s ⊗ same i q hi qn t) ∙ sym (row_p j i g e)
      twice_symmetric i j hi hj x y (inr (inr e)) (inr (inl g)) = column_q i j e g ∙ (λ t. s ⊗ same i p hi pn t ⊕ c ⊗ same i q hi qn t) ∙ sym (row_q j i g e)
      twice_symmetric i j hi hj x y (inr (inr e)) (inr (inr g)) = aside i j e g ∙ same i j hi hj ∙ sym (aside j i g e)

  -- 0 at (p, q) and (q, p)
  module _ (l : List Float) (len : length l ≡ n * n) where
    abbrev zeroed : List Float
    zeroed = set (set l (p * n + q) zero⁺) (q * n + p) zero⁺

    zero_pq : (i j : ℕ) → i ≡ p → j ≡ q → at zeroed n i j ≡ zero⁺
    zero_pq i j = at_first n l len p q q p pn qn qn pn (ne_of_lt pq) zero⁺ zero⁺ i j

    zero_qp : (i j : ℕ) → j < n → i ≡ q → j ≡ p → at zeroed n i j ≡ zero⁺
    zero_qp i j = at_second n l len p q q p pn qn qn pn (ne_of_lt pq) zero⁺ zero⁺ i j

    zero_no : (i j : ℕ) → j < n → (i ≡ p → j ≡ q → ⊥) → (i ≡ q → j ≡ p → ⊥) → at zeroed n i j ≡ at l n i j
    zero_no i j = at_neither n l len p q q p pn qn qn pn (ne_of_lt pq) zero⁺ zero⁺ i j

  module _ (a : List Float) (len : length a ≡ n * n) where
    abbrev turned : List Float
    turned = turn_rows n p q c s (turn_columns n p q c s a)

    length_turned : length turned ≡ n * n
    length_turned = length_turned_rows c s n p q pq qn (turn_columns n p q c s a) (length_columns c s n p q pq qn a len)

    length_both : length (turned_both n p q c s a) ≡ n * n
    length_both = simp length-set length_turned

    turned_at : (i j : ℕ) → i < n → j < n → at turned n i j ≡ twice (at a n) i j
    turned_at i j hi hj =
        let columns : (r : ℕ) → r < n → at (turn_columns n p q c s a) n r j ≡ turned_row c s p q (at a n r) j = λ r h. columns_at c s n p q pq qn a len r j h hj in
        turned_rows_at c s n p q pq qn (turn_columns n p q c s a) (length_columns c s n p q pq qn a len) i j hi hj
        ∙ turned_same c s p q i (λ r. at (turn_columns n p q c s a) n r j) (λ r. turned_row c s p q (at a n r) j) (columns p pn) (columns q qn) (columns i hi)

    both_at : (i j : ℕ) → i < n → j < n → (i ≡ p → j ≡ q → ⊥) → (i ≡ q → j ≡ p → ⊥) → at (turned_both n p q c s a) n i j ≡ twice (at a n) i j
    both_at i j hi hj x y = zero_no turned length_turned i j hj x y ∙ turned_at i j hi hj

    -- ---- the rows turned, then the block
    abbrev by_rows : List Float
    by_rows = turn_rows n p q c s a

    abbrev x : Float
    x = c ⊗ at by_rows n p p ⊖ s ⊗ at by_rows n p q

    abbrev z : Float
    z = s ⊗ at by_rows n q p ⊕ c ⊗ at by_rows n q q

    abbrev cornered : List Float
    cornered = set (set by_rows (p * n + p) x) (q * n + q) z

    length_cornered : length cornered ≡ n * n
    length_cornered = length_two n by_rows (length_turned_rows c s n p q pq qn a len) p p q q pn pn qn qn (ne_of_lt pq) x z

    abbrev blocked : List Float
    blocked = turned_block n p q c s by_rows

    pub blocked_meet : at blocked n p q ≡ at blocked n q p
    blocked_meet = zero_pq cornered length_cornered p q refl refl ∙ sym (zero_qp cornered length_cornered q p pn refl refl)

    module _ (same : Symmetric n a) where
      both_symmetric : Symmetric n (turned_both n p q c s a)
      both_symmetric i j hi hj = go (place i) (place j)
        where
          other : (i ≡ p → j ≡ q → ⊥) → (i ≡ q → j ≡ p → ⊥) → at (turned_both n p q c s a) n i j ≡ at (turned_both n p q c s a) n j i
          other x y = both_at i j hi hj x y ∙ twice_symmetric (at a n) same i j hi hj x y (place i) (place j) ∙ sym (both_at j i hj hi (λ e g. y g e) (λ e g. x g e))

          go : Which i → Which j → at (turned_both n p q c s a) n i j ≡ at (turned_both n p q c s a) n j i
          go (inl e) (inr (inl g)) = zero_pq turned length_turned i j e g ∙ sym (zero_qp turned length_turned j i hi g e)
          go (inr (inl e)) (inl g) = zero_qp turned length_turned i j hj e g ∙ sym (zero_pq turned length_turned j i g e)
          go (inl e) (inl g) = other (λ x y. apart j g y) (λ x y. apart i e x)
          go (inl e) (inr (inr g)) = other (λ x y. g.1 y) (λ x y. g.0 y)
          go (inr (inl e)) (inr (inl g)) = other (λ x y. apart i x e) (λ x y. apart j y g)
          go (inr (inl e)) (inr (inr g)) = other (λ x y. g.1 y) (λ x y. g.0 y)
          go (inr (inr e)) k = other (λ x y. e.0 x) (λ x y. e.1 x)

      -- the rows turned are the columns, turned
      flipped : (i j : ℕ) → i < n → j < n → at by_rows n i j ≡ turned_row c s p q (at a n j) i
      flipped i j hi hj = turned_rows_at c s n p q pq qn a len i j hi hj ∙ turned_same c s p q i (λ r. at a n r j) (at a n j) (same p j pn hj) (same q j qn hj) (same i j hi hj)

      corner_p : (i j : ℕ) → i ≡ p → j ≡ p → at cornered n i j ≡ twice (at a n) i j
      corner_p i j e g =
          at_first n by_rows (length_turned_rows c s n p q pq qn a len) p p q q pn pn qn qn (ne_of_lt pq) x z i j e g
          ∙ (λ t. c ⊗ flipped p p pn pn t ⊖ s ⊗ flipped p q pn qn t)
          ∙ ap (λ (j : ℕ). c ⊗ turned_row c s p q (at a n p) j ⊖ s ⊗ turned_row c s p q (at a n q) j) (sym g)
          ∙ sym (turned_p c s p q (λ r. turned_row c s p q (at a n r) j) i e)

      corner_q : (i j : ℕ) → j < n → i ≡ q → j ≡ q → at cornered n i j ≡ twice (at a n) i j
      corner_q i j hj e g =
          at_second n by_rows (length_turned_rows c s n p q pq qn a len) p p q q pn pn qn qn (ne_of_lt pq) x z i j hj e g
          ∙ (λ t. s ⊗ flipped q p qn pn t ⊕ c ⊗ flipped q q qn qn t)
          ∙ ap (λ (j : ℕ). s ⊗ turned_row c s p q (at a n p) j ⊕ c ⊗ turned_row c s p q (at a n q) j) (sym g)
          ∙ sym (turned_q c s p q pq (λ r. turned_row c s p q (at a n r) j) i e)

      no_corner : (i j : ℕ) → i < n → j < n → (i ≡ p → j ≡ p → ⊥) → (i ≡ q → j ≡ q → ⊥) → at cornered n i j ≡ turned_row c s p q (λ r. at a n r j) i
      no_corner i j hi hj d e = at_neither n by_rows (length_turned_rows c s n p q pq qn a len) p p q q pn pn qn qn (ne_of_lt pq) x z i j hj d e ∙ turned_rows_at c s n p q pq qn a len i j hi hj

      -- rows p and q, and what is in no such row or column, are done
      module _ (i j : ℕ) (hi : i < n) (hj : j < n) where
        abbrev Done : Type 0
        Done = at blocked n i j ≡ at (turned_both n p q c s a) n i j

        by_corner : (i ≡ p → j ≡ q → ⊥) → (i ≡ q → j ≡ p → ⊥) → at cornered n i j ≡ twice (at a n) i j → Done
        by_corner d e h = zero_no cornered length_cornered i j hj d e ∙ h ∙ sym (both_at i j hi hj d e)

        done_p : i ≡ p → Which j → Done
        done_p e (inl g) = by_corner (λ x y. apart j g y) (λ x y. apart i e x) (corner_p i j e g)
        done_p e (inr (inl g)) = zero_pq cornered length_cornered i j e g ∙ sym (zero_pq turned length_turned i j e g)
        done_p e (inr (inr g)) =
            by_corner (λ x y. g.1 y) (λ x y. g.0 y) (no_corner i j hi hj (λ x y. g.0 y) (λ x y. g.1 y) ∙ turned_p c s p q (λ r. at a n r j) i e ∙ sym (row_p (at a n) i j e g))

        done_q : i ≡ q → Which j → Done
        done_q e (inl g) = zero_qp cornered length_cornered i j hj e g ∙ sym (zero_qp turned length_turned i j hj e g)
        done_q e (inr (inl g)) = by_corner (λ x y. apart i x e) (λ x y. apart j y g) (corner_q i j hj e g)
        done_q e (inr (inr g)) =
            by_corner (λ x y. g.1 y) (λ x y. g.0 y) (no_corner i j hi hj (λ x y. g.0 y) (λ x y. g.1 y) ∙ turned_q c s p q pq (λ r. at a n r j) i e ∙ sym (row_q (at a n) i j e g))

        done_aside : (j ≢ p) × (j ≢ q) → Which i → Done
        done_aside g (inl e) = done_p e (inr (inr g))
        done_aside g (inr (inl e)) = done_q e (inr (inr g))
        done_aside g (inr (inr e)) =
            by_corner (λ x y. e.0 x) (λ x y. e.1 x) (no_corner i j hi hj (λ x y. e.0 x) (λ x y. e.1 x) ∙ turned_other c s p q (λ r. at a n r j) i e ∙ sym (aside (at a n) i j e g))

      -- then the columns
      mirrored_at : (i j : ℕ) → i < n → j < n → Which j → mirrored n p q blocked i j ≡ at (turned_both n p q c s a) n i j
      mirrored_at i j hi hj (inl e) = rw (eq-eqb j p e) (done_p p i pn hi refl (place i) ∙ both_symmetric p i pn hi ∙ ap (at (turned_both n p q c s a) n i) (sym e))
      mirrored_at i j hi hj (inr (inl e)) =
          rw (ne_eqb j p (λ d. apart j d e), eq-eqb j q e) (done_q q i qn hi refl (place i) ∙ both_symmetric q i qn hi ∙ ap (at (turned_both n p q c s a) n i) (sym e))
      mirrored_at i j hi hj (inr (inr e)) = rw (ne_eqb j p e.0, ne_eqb j q e.1) (done_aside i j hi hj e (place i))

      pub mirrored_both : rows n n (mirrored n p q blocked) ≡ turned_both n p q c s a
      mirrored_both = sym (rows_is (turned_both n p q c s a) n (mirrored n p q blocked) length_both (λ i j hi hj. sym (mirrored_at i j hi hj (place j))))

-- ---- rows p and q copied to the columns, row by row of the matrix
abbrev pub copied : ℕ → ℕ → ℕ → ℕ → List Float → List Float
copied n p q k v = set (set v (k * n + p) (at v n p k)) (k * n + q) (at v n q k)

module _ (n p q : ℕ) (pq : p < q) (qn : q < n) (a : List Float) (len : length a ≡ n * n) (meet : at a n p q ≡ at a n q p) where
  abbrev from : ℕ → List Float → ℕ → Float
  from r v k = at v n r k

  kept : (m : ℕ) (v : List Float) → m < n → Replaced n (in_rows n) (row_lines n) p q pq qn a (from p) (from q) m v → (at v n p m ≡ at a n p m) × (at v n q m ≡ at a n q m)
  kept m v hm H = (in_p (le_or_lt m p), in_q (le_or_lt m q))
    where
      pn : p < n
      pn = lt_trans pq qn

      past : (b : Bool) → (b ≡ true → m ≡ q) → cond b (at a n q p) (at a n p m) ≡ at a n p m
      past true e = sym meet ∙ ap (at a n p) (sym (e refl))
      past false e = refl

      in_p : (m ≤ p) ⊎ (p < m) → at v n p m ≡ at a n p m
      in_p (inl h) = H.left p m pn hm h
      in_p (inr h) = H.done p m pn hm h ∙ rw (ne_eqb m p (λ e. ne_of_lt h (sym e))) (past (eqb m q) (eqb-true m q))

      in_q : (m ≤ q) ⊎ (q < m) → at v n q m ≡ at a n q m
      in_q (inl h) = H.left q m qn hm h
      in_q (inr h) = H.done q m qn hm h ∙ rw (ne_eqb m p (λ e. ne_of_lt (lt_trans pq h) (sym e)), ne_eqb m q (λ e. ne_of_lt h (sym e)))

  pub copied_all : loop n (copied n p q) a ≡ rows n n (mirrored n p q a)
  copied_all =
      let H = lines_all n (in_rows n) (row_lines n) p q pq qn a (from p) (from q) kept n (le_refl n) len in
      rows_is (loop n (copied n p q) a) n (mirrored n p q a) H.len (λ i j hi hj. H.done i j hi hj hi)

-- ---- what rotations keep
abbrev pub KeepsSymmetric : ℕ → ℕ → State → Type 0
KeepsSymmetric n r st = (length st.matrix ≡ n * n) × Symmetric n st.matrix

pub rotate_symmetric : (n r p q : ℕ) (st : State) → p < q → q < n → KeepsSymmetric n r st → KeepsSymmetric n (suc r) (rotate n p q st)
unfolding rotate_by rotated
rotate_symmetric n r p q st pq qn g =
    rotate_cases (KeepsSymmetric n (suc r)) n p q st g
    (λ τ. let t = tangent τ in (length_both (cosine t) (t ⊗ cosine t) n p q pq qn st.matrix g.0, both_symmetric (cosine t) (t ⊗ cosine t) n p q pq qn st.matrix g.0 g.1))

-- so a row of a sweep, its first rows, and k sweeps, as the code has them
module _ (n : ℕ) (a₀ v₀ : List Float) {a v : List Float} {r : ℕ} (len : length a₀ ≡ n * n) (same : Symmetric n a₀) where
  by_end : {st : State} → state a v r ≡ st → KeepsSymmetric n 0 st → Symmetric n a
  by_end e h = (subst (KeepsSymmetric n 0) (sym e) h).1

  pub row_symmetric : (p j : ℕ) → state a v r ≡ loop j (λ j. rotate n p (suc p + j)) (state a₀ v₀ 0) → j ≤ n - suc p → Symmetric n a
  row_symmetric p j e h = by_end e (row_keeps n (KeepsSymmetric n) (rotate_symmetric n) p j 0 (state a₀ v₀ 0) h (len, same))

  pub rows_symmetric : (p : ℕ) → state a v r ≡ loop p (sweep_row n) (state a₀ v₀ 0) → Symmetric n a
  rows_symmetric p e = by_end e (rows_keep n (KeepsSymmetric n) (rotate_symmetric n) p 0 (state a₀ v₀ 0) (len, same))

  pub sweeps_symmetric : (k : ℕ) → state a v r ≡ after_sweeps k n (state a₀ v₀ 0) → Symmetric n a
  sweeps_symmetric k e = by_end e (sweeps_keep n (KeepsSymmetric n) (rotate_symmetric n) k 0 (state a₀ v₀ 0) (len, same))

-- ---- what the sweeps begin with: a sum commutes
pub start_symmetric : (n : ℕ) (scale : Float) (a : Matrix) → Symmetric n (start n scale a)
unfolding start
start_symmetric n scale a i j hi hj =
    rows_at (symmetrized (at b n)) n n i j hi hj ∙ ap (λ (x : Float). x ⊗ half) (⊕-comm (at b n i j) (at b n j i)) ∙ sym (rows_at (symmetrized (at b n)) n n j i hj hi)
  where
    b : List Float
    b = rows n n (product n (product n (transpose identity) (divided a scale)) identity)
