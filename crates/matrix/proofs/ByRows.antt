-- A stored matrix that is made anew row by row: one row, from a column on (`row_replaced`), and a loop over the rows (`passed`). Assumes nothing.
use mathlib.Core.Path.{◌≡◌, refl, sym, ap, ◌∙◌, subst}
use mathlib.Core.List.{List, ◌++◌}
use mathlib.Core.Logic.{⊎_elim}
use Prim.Native.Nat.{ℕ, ◌+◌, ◌-◌, ◌*◌, ◌≤◌, ◌<◌, zero-le}
use native.Mathlib.Nat.{sub-zero, not-suc-le-zero}
use native.Mathlib.Omega.{arith}
use mathlib.Core.Bool.{cond}
use lib.Dec.{eqb, ltb}
use borrow.Author.Tests.{lt-ltb, le-ltb, eq-eqb, ne_eqb}
use lib.ListN.{length, take, drop, length-append, length-drop, get_or-append}
use lib.Seq.{length-take-le, get_or-take, get_or-drop, get_or-append-add}
use lib.Ieee.{Float, nan}
use Rattle.leaves.specs.Loops.{tab, nth}
use Rattle.leaves.proofs.Whole.{le_or_lt}
use Rattle.leaves.proofs.Cells.{row}
use Rattle.leaves.proofs.Lists.{nth_stored, tab_long}
use Rattle.matrix.specs.Matrix.{Matrix, at, rows}
use Rattle.matrix.proofs.Stored.{rows_ext, rows_is}
use Rattle.matrix.proofs.OfStored.{at_stored, rows_long}

-- ---- a part of m numbers from a on, and the list in which it is replaced

pub part_nth : (a m : ℕ) (l : List Float) (k : ℕ) → k < m → nth (take m (drop a l)) k ≡ nth l (a + k)
part_nth a m l k h = get_or-take m (drop a l) k nan h ∙ get_or-drop a l k nan

abbrev pub replaced : ℕ → ℕ → List Float → List Float → List Float
replaced a m l ys = take a l ++ (ys ++ drop m (drop a l))

module _ (a m : ℕ) (l ys : List Float) (fits : a + m ≤ length l) (long : length ys ≡ m) where
  first : length (take a l) ≡ a
  first = length-take-le a l (omega arith)

  length_replaced : length (replaced a m l ys) ≡ length l
  length_replaced = omega (arith, first, length-append (take a l) (ys ++ drop m (drop a l)), length-append ys (drop m (drop a l)), length-drop m (drop a l), length-drop a l)

  replaced_before : (k : ℕ) → k < a → nth (replaced a m l ys) k ≡ nth l k
  replaced_before k h = get_or-append (take a l) (ys ++ drop m (drop a l)) nan k (omega (arith, first)) ∙ get_or-take a l k nan h

  past : (k : ℕ) → nth (replaced a m l ys) (a + k) ≡ nth (ys ++ drop m (drop a l)) k
  past k = subst (λ (b : ℕ). nth (replaced a m l ys) (b + k) ≡ nth (ys ++ drop m (drop a l)) k) first (get_or-append-add (take a l) (ys ++ drop m (drop a l)) k nan)

  replaced_in : (k : ℕ) → k < m → nth (replaced a m l ys) (a + k) ≡ nth ys k
  replaced_in k h = past k ∙ get_or-append ys (drop m (drop a l)) nan k (omega arith)

  replaced_after : (k : ℕ) → nth (replaced a m l ys) (a + (m + k)) ≡ nth l (a + (m + k))
  replaced_after k =
      past (m + k)
      ∙ subst (λ (b : ℕ). nth (ys ++ drop m (drop a l)) (b + k) ≡ nth (drop m (drop a l)) k) long (get_or-append-add ys (drop m (drop a l)) k nan)
      ∙ get_or-drop m (drop a l) k nan ∙ get_or-drop a l (m + k) nan

-- a table of which row i is replaced from column b on
module _ (n i b a m : ℕ) (l ys : List Float) (f : Matrix) (len : length l ≡ n * n) (hi : i < n) (hb : b ≤ n) (ea : a ≡ i * n + b) (em : m ≡ n - b) (long : length ys ≡ m) where
  fits : a + m ≤ length l
  fits = omega (arith, row i n n hi)

  kept_before : (p q : ℕ) → p * n + q < a → at (replaced a m l ys) n p q ≡ at l n p q
  kept_before p q h = replaced_before a m l ys fits long (p * n + q) h

  kept_after : (p q : ℕ) → a + m ≤ p * n + q → at (replaced a m l ys) n p q ≡ at l n p q
  kept_after p q h =
      let e : a + (m + (p * n + q - (a + m))) ≡ p * n + q = omega arith in
      subst (λ (k : ℕ). nth (replaced a m l ys) k ≡ nth l k) e (replaced_after a m l ys fits long (p * n + q - (a + m)))

  new_here : (q : ℕ) → b ≤ q → q < n → at (replaced a m l ys) n i q ≡ nth ys (q - b)
  new_here q h hq =
      let e : a + (q - b) ≡ i * n + q = omega arith in
      subst (λ (k : ℕ). nth (replaced a m l ys) k ≡ nth ys (q - b)) e (replaced_in a m l ys fits long (q - b) (omega arith))

  pub row_replaced : ((p q : ℕ) → p < n → q < n → (p ≡ i → ⊥) → at l n p q ≡ f p q) → ((q : ℕ) → q < b → at l n i q ≡ f i q)
      → ((q : ℕ) → b ≤ q → q < n → nth ys (q - b) ≡ f i q) → replaced a m l ys ≡ rows n n f
  row_replaced other before new = rows_is (replaced a m l ys) n f (length_replaced a m l ys fits long ∙ len) entry
    where
      here : (q : ℕ) → q < n → at (replaced a m l ys) n i q ≡ f i q
      here q hq =
          ⊎_elim
          (λ (h : b ≤ q). new_here q h hq ∙ new q h hq)
          (λ (h : q < b). kept_before i q (omega arith) ∙ before q h)
          (le_or_lt b q)

      entry : (p q : ℕ) → p < n → q < n → at (replaced a m l ys) n p q ≡ f p q
      entry p q hp hq =
          ⊎_elim
          (λ (h : i ≤ p). ⊎_elim
          (λ (g : p ≤ i). let e : i ≡ p = omega arith in subst (λ (k : ℕ). at (replaced a m l ys) n k q ≡ f k q) e (here q hq))
          (λ (g : i < p). kept_after p q (omega (arith, row i p n g)) ∙ other p q hp hq (λ e. omega arith))
          (le_or_lt p i))
          (λ (h : p < i). kept_before p q (omega (arith, row p i n h)) ∙ other p q hp hq (λ e. omega arith))
          (le_or_lt i p)

-- ---- row by row: a loop over the rows of old, after which row i is F's

abbrev pub passed : ℕ → ℕ → Matrix → List Float → List Float
passed n i F old = rows n n (λ p q. cond (ltb p i) (F p q) (at old n p q))

module _ (n : ℕ) (F : Matrix) (old : List Float) where
  pub passed_none : length old ≡ n * n → old ≡ passed n 0 F old
  passed_none len = rows_is old n (λ p q. cond (ltb p 0) (F p q) (at old n p q)) len (λ p q hp hq. rw (le-ltb p 0 (omega arith)))

  pub passed_all : (i : ℕ) (out : List Float) → n ≤ i → out ≡ passed n i F old → out ≡ rows n n F
  passed_all i out h e = e ∙ rows_ext n n (λ p q. cond (ltb p i) (F p q) (at old n p q)) F (λ p q hp hq. rw (lt-ltb p i (omega arith)))

  module _ (i : ℕ) (out : List Float) (e : out ≡ passed n i F old) where
    passed_at : (p q : ℕ) → p < n → q < n → at out n p q ≡ cond (ltb p i) (F p q) (at old n p q)
    passed_at = at_stored n (λ p q. cond (ltb p i) (F p q) (at old n p q)) e

    -- before row i, and from there on
    pub passed_before : (p q : ℕ) → p < n → q < n → p < i → at out n p q ≡ F p q
    passed_before p q hp hq h = passed_at p q hp hq ∙ rw (lt-ltb p i h)

    pub passed_here : (p q : ℕ) → p < n → q < n → i ≤ p → at out n p q ≡ at old n p q
    passed_here p q hp hq h = passed_at p q hp hq ∙ rw (le-ltb p i h)

    -- a turn
    pub passed_more : (f : Matrix) (next : List Float) → next ≡ rows n n (λ p q. cond (eqb p i) (f p q) (at out n p q)) → ((q : ℕ) → i < n → q < n → f i q ≡ F i q) → next ≡ passed n (i + 1) F old
    passed_more f next e' same = e' ∙ rows_ext n n (λ p q. cond (eqb p i) (f p q) (at out n p q)) (λ p q. cond (ltb p (i + 1)) (F p q) (at old n p q)) entry
      where
        entry : (p q : ℕ) → p < n → q < n → cond (eqb p i) (f p q) (at out n p q) ≡ cond (ltb p (i + 1)) (F p q) (at old n p q)
        entry p q hp hq =
            ⊎_elim
            (λ (h : i ≤ p). ⊎_elim
            (λ (g : p ≤ i). let d : i ≡ p = omega arith in
            rw (eq-eqb p i (sym d), lt-ltb p (i + 1) (omega arith)) (subst (λ (k : ℕ). f k q ≡ F k q) d (same q (omega arith) hq)))
            (λ (g : i < p). rw (ne_eqb p i (λ d. omega arith), le-ltb p (i + 1) (omega arith)) (passed_here p q hp hq h))
            (le_or_lt p i))
            (λ (h : p < i). rw (ne_eqb p i (λ d. omega arith), lt-ltb p (i + 1) (omega arith)) (passed_before p q hp hq h))
            (le_or_lt i p)

-- a turn of a loop that changes each entry by itself
pub each_more : (n i : ℕ) (g : ℕ → ℕ → Float → Float) (old out next : List Float) → out ≡ passed n i (λ p q. g p q (at old n p q)) old
    → next ≡ rows n n (λ p q. cond (eqb p i) (g p q (at out n p q)) (at out n p q)) → next ≡ passed n (i + 1) (λ p q. g p q (at old n p q)) old
each_more n i g old out next e e' =
    let F : Matrix = λ p q. g p q (at old n p q) in
    passed_more n F old i out e (λ p q. g p q (at out n p q)) next e' (λ q hi hq. ap (g i q) (passed_here n F old i out e i q hi hq (omega arith)))

-- a row, lent as a part of its table
pub row_long : (n i : ℕ) (l : List Float) → length l ≡ n * n → i < n → length (take (i * n + n - i * n) (drop (i * n) l)) ≡ n
row_long n i l e h = let m : i * n + n - i * n ≡ n = omega arith in length-take-le _ (drop (i * n) l) (omega (arith, length-drop (i * n) l, row i n n h)) ∙ m

-- one whole row more
pub passed_row : (n : ℕ) (F : Matrix) (old : List Float) (i : ℕ) (out ys : List Float) → out ≡ passed n i F old → i < n → ys ≡ tab n (F i) → replaced (i * n) (i * n + n - i * n) out ys ≡ passed n (i + 1) F old
passed_row n F old i out ys e hi ey =
    let m : i * n + n - i * n ≡ n = omega arith in
    passed_more n F old i out e F (replaced (i * n) (i * n + n - i * n) out ys)
    (row_replaced n i 0 (i * n) (i * n + n - i * n) out ys (λ p q. cond (eqb p i) (F p q) (at out n p q)) (rows_long n _ out e) hi zero-le (omega arith) (omega arith)
    (tab_long n (F i) ys ey ∙ sym m) (λ p q hp hq h. rw (ne_eqb p i h)) (λ q h. absurd (not-suc-le-zero h))
    (λ q h hq. rw (eq-eqb i i refl) (ap (nth ys) (sub-zero q) ∙ nth_stored n (F i) ey q hq)))
    (λ q h hq. refl)
