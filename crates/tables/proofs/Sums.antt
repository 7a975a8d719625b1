-- Laws of the tables of sums of `specs/Rows.antt`: a row added to one row of a table, to the table, period after period. Assumes nothing.
use Rattle.std.proofs.Common.{◌≡◌, ℕ, zero, suc, ◌+◌, ◌-◌, ◌*◌, ◌<◌, ◌≤◌, cond, eqb, leb, List, length, take, drop, sym, refl, ap, ◌∙◌, subst, arith, length-drop, length-take, eq-eqb, ne_eqb, le-leb}
use lib.Ieee.{Float}
use borrow.Author.Tests.{lt-leb}
use Rattle.leaves.specs.Numbers.{◌⊕◌, ◌⊖◌, ◌⊗◌, zero⁺}
use Rattle.leaves.specs.Loops.{loop, sum_to, tab, nth}
use Rattle.leaves.proofs.Loops.{loop_ext, loop_still}
use Rattle.leaves.proofs.Cells.{row}
use Rattle.leaves.proofs.Lists.{nth_stored, tab_long}
use Rattle.matrix.specs.Matrix.{Matrix, at, rows}
use Rattle.matrix.proofs.Stored.{rows_ext}
use Rattle.matrix.proofs.ByRows.{part_nth, replaced, row_replaced}
use Rattle.matrix.proofs.OfStored.{rows_then}
use Rattle.tables.specs.Rows.{factor, joined, summand, first_column, plus, plus_all, summed, Sized}
use Rattle.tables.specs.declared.tables.Term.{Term}
use Rattle.tables.specs.declared.tables.Term.TheVariants.{Product, Variation, Covariation}

-- ---- loops

loop_both : {S : Type 0} (f : ℕ → S → S) (a b : ℕ) (s : S) → loop (a + b) f s ≡ loop b (λ k. f (a + k)) (loop a f s)
unfolding loop
loop_both f a zero s = let e : a + 0 ≡ a = omega arith in ap (λ (j : ℕ). loop j f s) e
loop_both f a (suc b) s = let e : a + suc b ≡ suc (a + b) = omega arith in ap (λ (j : ℕ). loop j f s) e ∙ ap (f (a + b)) (loop_both f a b s)

-- ---- what of s is read

sized_less : (term : Term) (s : List Float) (k m : ℕ) → Sized term k s → m ≤ k → Sized term m s
sized_less Product s k m z h = tt
sized_less Variation s k m z h = omega arith
sized_less Covariation s k m z h = omega arith

-- ---- one row

pub first_column_low : (term : Term) (i : ℕ) → first_column term i ≤ i
unfolding first_column
first_column_low Product i = omega arith
first_column_low Variation i = omega arith
first_column_low Covariation i = omega arith

-- row i and its first column lie within the table
pub row_room : (term : Term) (i n from : ℕ) → i < n → from ≡ first_column term i → (i * n + n ≤ n * n) × (from ≤ i)
row_room term i n from h e = (row i n n h, subst (λ (k : ℕ). k ≤ i) (sym e) (first_column_low term i))

module _ (term : Term) (s : Matrix) (y : ℕ → Float) (i : ℕ) (v : Float) where
  plus_kept : (j : ℕ) → first_column term i ≤ j → plus term s y i j v ≡ v ⊕ summand term s y i j
  unfolding plus
  plus_kept j h = rw (le-leb (first_column term i) j h)

  plus_left : (j : ℕ) → j < first_column term i → plus term s y i j v ≡ v
  unfolding plus
  plus_left j h = rw (lt-leb (first_column term i) j h)

-- row i of l, from its first column on, is the part of m numbers that begins at a
module _ (term : Term) (n i a m from : ℕ) (l : List Float) (len : length l ≡ n * n) (hi : i < n) (ef : from ≡ first_column term i) (ea : a ≡ i * n + from) (em : m ≡ i * n + n - a) where
  low : from ≤ i
  low = (row_room term i n from hi ef).1

  part_count : length (take m (drop a l)) ≡ n - from
  part_count = simp (length-take, length-drop) (omega (arith, row i n n hi))

  -- a row of most numbers, and s, reach as far
  pub part_room : (most : ℕ) → n ≤ most → from + length (take m (drop a l)) ≤ most
  part_room most h = omega (arith, part_count, low)

  pub part_sized : (s : List Float) → Sized term (n * n) s → Sized term (a + length (take m (drop a l))) s
  part_sized s z = sized_less term s (n * n) (a + length (take m (drop a l))) z (omega (arith, part_count, row i n n hi, low))

  -- ys holds what g makes of the part's numbers, and g leaves those before it as they are
  replaced_by : (ys : List Float) (g : ℕ → ℕ → Float → Float) (x : ℕ → Float → Float) → ys ≡ tab (length (take m (drop a l))) (λ k. x k (nth (take m (drop a l)) k))
      → ((q : ℕ) (v : Float) → q < from → g i q v ≡ v) → ((k : ℕ) (v : Float) → from + k < n → x k v ≡ g i (from + k) v)
      → replaced a m l ys ≡ rows n n (λ p q. cond (eqb p i) (g p q (at l n p q)) (at l n p q))
  replaced_by ys g x e before new =
      row_replaced n i from a m l ys (λ p q. cond (eqb p i) (g p q (at l n p q)) (at l n p q)) len hi (omega (arith, low)) ea (omega arith)
      (tab_long (length (take m (drop a l))) _ ys e ∙ part_count ∙ omega arith)
      (λ p q hp hq ne. rw (ne_eqb p i ne))
      (λ q h. rw (eq-eqb i i refl) (sym (before q (at l n i q) h)))
      (λ q h hq. rw (eq-eqb i i refl) (here q h hq))
    where
      here : (q : ℕ) → from ≤ q → q < n → nth ys (q - from) ≡ g i q (at l n i q)
      here q h hq =
          let p : a + (q - from) ≡ i * n + q = omega arith in
          let q' : from + (q - from) ≡ q = omega arith in
          nth_stored (length (take m (drop a l))) (λ k. x k (nth (take m (drop a l)) k)) e (q - from) (omega (arith, part_count))
          ∙ new (q - from) (nth (take m (drop a l)) (q - from)) (omega arith)
          ∙ ap (g i (from + (q - from))) (part_nth a m l (q - from) (omega arith))
          ∙ (λ k. g i (q' k) (nth l (p k)))

  module _ (s : List Float) (y : ℕ → Float) (x : Float) where
    -- what the code adds to number k of the part
    added : ℕ → Float → Float
    added k v = v ⊕ joined term x (y (from + k)) (nth s (a + k))

    left : (q : ℕ) (v : Float) → q < from → plus term (at s n) y i q v ≡ v
    left q v h = plus_left term (at s n) y i v q (subst (λ (b : ℕ). q < b) ef h)

    added_plus : x ≡ factor term (at s n) y i → (k : ℕ) (v : Float) → from + k < n → added k v ≡ plus term (at s n) y i (from + k) v
    unfolding added
    added_plus ex k v h =
        let e : a + k ≡ i * n + (from + k) = omega arith in
        (λ t. v ⊕ joined term (ex t) (y (from + k)) (nth s (e t)))
        ∙ sym (plus_kept term (at s n) y i v (from + k) (subst (λ (b : ℕ). b ≤ from + k) ef (omega arith)))

  -- K rows
  pub rows_added : (K : ℕ) (s : List Float) (y : Matrix) (x : List Float) → x ≡ tab K (λ j. factor term (at s n) (y j) i)
      → (ys : List Float) → ys ≡ tab (length (take m (drop a l))) (λ k. loop K (λ j v. v ⊕ joined term (nth x j) (y j (from + k)) (nth s (a + k))) (nth (take m (drop a l)) k))
      → replaced a m l ys ≡ rows n n (λ p q. cond (eqb p i) (plus_all K term (at s n) y p q (at l n p q)) (at l n p q))
  unfolding added
  rows_added K s y x ex ys e =
      replaced_by ys (λ p q. plus_all K term (at s n) y p q) (λ k. loop K (λ j. added s (y j) (nth x j) k)) e
      (λ q v h. loop_still _ K v (λ j hj w. left s (y j) (nth x j) q w h))
      (λ k v h. loop_ext K _ _ v (λ j hj w. added_plus s (y j) (nth x j) (nth_stored K _ ex j hj) k w h))

-- ---- rows that are stored

module _ (term : Term) (s : Matrix) (n : ℕ) (d y : ℕ → Float) (e : (k : ℕ) → k < n → d k ≡ y k) where
  factor_alike : (t : Term) (i : ℕ) → i < n → factor t s d i ≡ factor t s y i
  unfolding factor
  factor_alike Product i h = e i h
  factor_alike Variation i h = e i h
  factor_alike Covariation i h = ap (λ (x : Float). (x ⊗ x ⊖ s i i) ⊗ x) (e i h)

  plus_alike : (i j : ℕ) (v : Float) → i < n → j < n → plus term s d i j v ≡ plus term s y i j v
  unfolding plus
  plus_alike i j v hi hj t = cond (leb (first_column term i) j) (v ⊕ joined term (factor_alike term i hi t) (e j hj t) (s i j)) v

pub periods_added : (K : ℕ) (term : Term) (s : Matrix) (n : ℕ) (d y : Matrix) → ((j : ℕ) → j < K → (k : ℕ) → k < n → d j k ≡ y j k) → (l : List Float) {next : List Float}
    → next ≡ rows n n (λ p q. plus_all K term s d p q (at l n p q)) → next ≡ rows n n (λ p q. plus_all K term s y p q (at l n p q))
periods_added K term s n d y e l e' = e' ∙ rows_ext n n _ _ (λ p q hp hq. loop_ext K _ _ _ (λ j hj v. plus_alike term s n (d j) (y j) (e j hj) p q v hp hq))

-- ---- period after period: F t changes each entry in period t

module _ (n : ℕ) (F : ℕ → ℕ → ℕ → Float → Float) where
  pub summed_none : (m : ℕ) (out : List Float) → m ≡ n * n → out ≡ tab m (λ k. zero⁺) → out ≡ summed n F 0
  unfolding rows loop
  summed_none m out em e = e ∙ ap (λ (m : ℕ). tab m (λ k. zero⁺)) em

  -- K periods
  pub summed_more : (K t : ℕ) (out next : List Float) → out ≡ summed n F t → next ≡ rows n n (λ p q. loop K (λ j. F (t + j) p q) (at out n p q)) → next ≡ summed n F (t + K)
  summed_more K t out next e e' =
      e' ∙ rows_then out n (λ p q. loop t (λ t. F t p q) zero⁺) (λ p q. loop K (λ j. F (t + j) p q)) e
      ∙ rows_ext n n _ (λ p q. loop (t + K) (λ t. F t p q) zero⁺) (λ p q hp hq. sym (loop_both (λ t. F t p q) t K zero⁺))

-- a column that is summed up has its whole sum
pub whole_sum : (term : Term) (s : Matrix) (z : Matrix) (T i j : ℕ) → first_column term i ≤ j → loop T (λ t. plus term s (z t) i j) zero⁺ ≡ sum_to T (λ t. summand term s (z t) i j)
unfolding sum_to
whole_sum term s z T i j h = loop_ext T _ (λ t v. v ⊕ summand term s (z t) i j) zero⁺ (λ t l v. plus_kept term s (z t) i v j h)
