-- What stands in each row and column of a stored matrix in which two numbers of every row, or of every column, are replaced (`lines_all`) or turned (`turned_row`,
-- `lines_turned`, `columns_at`). Assumes nothing.
use mathlib.Core.Path.{◌≡◌, refl, sym, ap, ◌∙◌}
use mathlib.Core.Logic.{◌⊎◌, inl, inr, ◌≢◌}
use mathlib.Core.Bool.{Bool, true, false, cond}
use mathlib.Core.List.{List}
use Prim.Native.Nat.{ℕ, zero, suc, ◌+◌, ◌*◌, ◌≤◌, ◌<◌}
use native.Mathlib.Nat.{le_refl, le_trans, le-suc, le_of_suc-le-suc, lt_trans, ne_of_lt, eq-or-lt_of_le, not-suc-le-zero}
use lib.Arith.{digits_lt}
use lib.Dec.{eqb}
use lib.ListN.{length, get_or, set, length-set}
use lib.Seq.{get_or-set_same, get_or-set_other}
use borrow.Author.Tests.{eqb-true, eqb-false, eq-eqb, ne_eqb}
use lib.Ieee.{Float, nan}
use Rattle.leaves.specs.Numbers.{◌⊕◌, ◌⊖◌, ◌⊗◌}
use Rattle.leaves.specs.Loops.{loop, nth}
use Rattle.leaves.proofs.Cells.{same_row, same_column}
use Rattle.matrix.specs.Matrix.{at}
use Rattle.matrix.specs.Rotation.{turn, turn_columns}

-- ---- a row two of whose numbers are turned
abbrev pub turned_row : Float → Float → ℕ → ℕ → (ℕ → Float) → ℕ → Float
turned_row c s p q row j = cond (eqb j p) (c ⊗ row p ⊖ s ⊗ row q) (cond (eqb j q) (s ⊗ row p ⊕ c ⊗ row q) (row j))

pub turned_p : (c s : Float) (p q : ℕ) (row : ℕ → Float) (j : ℕ) → j ≡ p → turned_row c s p q row j ≡ c ⊗ row p ⊖ s ⊗ row q
turned_p c s p q row j e = rw (eq-eqb j p e)

pub turned_q : (c s : Float) (p q : ℕ) → p < q → (row : ℕ → Float) (j : ℕ) → j ≡ q → turned_row c s p q row j ≡ s ⊗ row p ⊕ c ⊗ row q
turned_q c s p q pq row j e = rw (ne_eqb j p (λ d. ne_of_lt pq (sym d ∙ e)), eq-eqb j q e)

pub turned_other : (c s : Float) (p q : ℕ) (row : ℕ → Float) (j : ℕ) → (j ≢ p) × (j ≢ q) → turned_row c s p q row j ≡ row j
turned_other c s p q row j d = rw (ne_eqb j p d.0, ne_eqb j q d.1)

pub turned_same : (c s : Float) (p q j : ℕ) (f g : ℕ → Float) → f p ≡ g p → f q ≡ g q → f j ≡ g j → turned_row c s p q f j ≡ turned_row c s p q g j
turned_same c s p q j f g ep eq ej = λ i. cond (eqb j p) (c ⊗ ep i ⊖ s ⊗ eq i) (cond (eqb j q) (s ⊗ ep i ⊕ c ⊗ eq i) (ej i))

-- ---- a list with two numbers replaced
pub two_set : (l : List Float) (a b k : ℕ) (x y : Float) → a < length l → b < length l → a ≢ b → get_or (set (set l a x) b y) k nan ≡ cond (eqb k a) x (cond (eqb k b) y (get_or l k nan))
two_set l a b k x y ha hb d = go (eqb k a) (eqb k b) (eqb-true k a) (eqb-false k a) (eqb-true k b) (eqb-false k b)
  where
    go : (u v : Bool) → (u ≡ true → k ≡ a) → (u ≡ false → k ≢ a) → (v ≡ true → k ≡ b) → (v ≡ false → k ≢ b) → get_or (set (set l a x) b y) k nan ≡ cond u x (cond v y (get_or l k nan))
    go true v ea na eb nb = get_or-set_other (set l a x) b k y nan (λ e. d (sym (ea refl) ∙ e)) ∙ ap (λ (k : ℕ). get_or (set l a x) k nan) (ea refl) ∙ get_or-set_same l a x nan ha
    go false true ea na eb nb = ap (λ (k : ℕ). get_or (set (set l a x) b y) k nan) (eb refl) ∙ get_or-set_same (set l a x) b y nan (rw length-set hb)
    go false false ea na eb nb = get_or-set_other (set l a x) b k y nan (nb refl) ∙ get_or-set_other l a k x nan (na refl)

-- ---- the lines of an n × n matrix, which are its rows or its columns: number j of line k stands at `index k j`
pub record Lines (n : ℕ) (index : ℕ → ℕ → ℕ) : Type 0 where
  pub inside : (k j : ℕ) → k < n → j < n → index k j < n * n
  pub apart : (k j i m : ℕ) → k < n → j < n → i < n → m < n → index k j ≡ index i m → (k ≡ i) × (j ≡ m)

abbrev pub in_rows : ℕ → ℕ → ℕ → ℕ
in_rows n k j = k * n + j

pub row_lines : (n : ℕ) → Lines n (in_rows n)
row_lines n = record { inside = λ k j hk hj. digits_lt hk hj; apart = λ k j i m hk hj hi hm e. (same_row n i k j m hj hm e, same_column n i k j m hj hm e) }

-- ---- numbers p and q of every line replaced, line by line
module _ (n : ℕ) (index : ℕ → ℕ → ℕ) (lines : Lines n index) (p q : ℕ) (pq : p < q) (qn : q < n) where
  pn : p < n
  pn = lt_trans pq qn

  -- by x and y in line i
  module _ (i : ℕ) (v : List Float) (l : length v ≡ n * n) (hi : i < n) (x y : Float) where
    abbrev put_line : List Float
    put_line = set (set v (index i p) x) (index i q) y

    in_line : (j m : ℕ) → j < n → m < n → eqb (index i j) (index i m) ≡ eqb j m
    in_line j m hj hm = go (eqb j m) (eqb-true j m) (eqb-false j m)
      where
        go : (b : Bool) → (b ≡ true → j ≡ m) → (b ≡ false → j ≢ m) → eqb (index i j) (index i m) ≡ b
        go true t f = eq-eqb (index i j) (index i m) (ap (index i) (t refl))
        go false t f = ne_eqb (index i j) (index i m) (λ e. f refl (lines.apart i j i m hi hj hi hm e).1)

    looked : (k : ℕ) → nth put_line k ≡ cond (eqb k (index i p)) x (cond (eqb k (index i q)) y (nth v k))
    looked k = two_set v (index i p) (index i q) k x y (rw l (lines.inside i p hi pn)) (rw l (lines.inside i q hi qn)) (λ e. ne_of_lt pq (lines.apart i p i q hi pn hi qn e).1)

    this_line : (j : ℕ) → j < n → nth put_line (index i j) ≡ cond (eqb j p) x (cond (eqb j q) y (nth v (index i j)))
    this_line j hj = looked (index i j) ∙ rw (in_line j p hj pn, in_line j q hj qn)

    other_line : (k j : ℕ) → k < n → j < n → k ≢ i → nth put_line (index k j) ≡ nth v (index k j)
    other_line k j hk hj d =
        looked (index k j) ∙ rw (ne_eqb (index k j) (index i p) (λ e. d (lines.apart k j i p hk hj hi pn e).0), ne_eqb (index k j) (index i q) (λ e. d (lines.apart k j i q hk hj hi qn e).0))

  -- by X and Y in the lines below m of v₀, each computed from the list as it then stands
  module _ (v₀ : List Float) (X Y : List Float → ℕ → Float) where
    pub record Replaced (m : ℕ) (v : List Float) : Type 0 where
      pub len : length v ≡ n * n
      pub done : (k j : ℕ) → k < n → j < n → k < m → nth v (index k j) ≡ cond (eqb j p) (X v₀ k) (cond (eqb j q) (Y v₀ k) (nth v₀ (index k j)))
      pub left : (k j : ℕ) → k < n → j < n → m ≤ k → nth v (index k j) ≡ nth v₀ (index k j)

    -- what a line gets does not depend on the lines before it
    module _ (kept : (m : ℕ) (v : List Float) → m < n → Replaced m v → (X v m ≡ X v₀ m) × (Y v m ≡ Y v₀ m)) where
      abbrev put : ℕ → List Float → List Float
      put k v = set (set v (index k p) (X v k)) (index k q) (Y v k)

      lines_more : (m : ℕ) (v : List Float) → m < n → Replaced m v → Replaced (suc m) (put m v)
      lines_more m v hm H = record {
        len = simp length-set H.len;
        done = λ k j hk hj l. go k j hk hj (eq-or-lt_of_le (le_of_suc-le-suc l));
        left = λ k j hk hj l. other_line m v H.len hm (X v m) (Y v m) k j hk hj (λ e. ne_of_lt l (sym e)) ∙ H.left k j hk hj (le_trans (le-suc m) l);
      }
        where
          go : (k j : ℕ) → k < n → j < n → (k ≡ m) ⊎ (k < m) → nth (put m v) (index k j) ≡ cond (eqb j p) (X v₀ k) (cond (eqb j q) (Y v₀ k) (nth v₀ (index k j)))
          go k j hk hj (inr l) = other_line m v H.len hm (X v m) (Y v m) k j hk hj (ne_of_lt l) ∙ H.done k j hk hj l
          go k j hk hj (inl e) =
              let old = kept m v hm H in
              ap (λ (k : ℕ). nth (put m v) (index k j)) e ∙ this_line m v H.len hm (X v m) (Y v m) j hj ∙ (λ t. cond (eqb j p) (old.0 t) (cond (eqb j q) (old.1 t) (H.left m j hm hj (le_refl m) t)))
              ∙ ap (λ (k : ℕ). cond (eqb j p) (X v₀ k) (cond (eqb j q) (Y v₀ k) (nth v₀ (index k j)))) (sym e)

      pub lines_all : (m : ℕ) → m ≤ n → length v₀ ≡ n * n → Replaced m (loop m put v₀)
      unfolding loop
      lines_all zero l e = record { len = e; done = λ k j hk hj h. absurd (not-suc-le-zero h); left = λ k j hk hj h. refl }
      lines_all (suc m) l e = lines_more m (loop m put v₀) l (lines_all m (le_trans (le-suc m) l) e)

  -- ---- turned
  module _ (c s : Float) (v₀ : List Float) (len₀ : length v₀ ≡ n * n) where
    abbrev at_p : List Float → ℕ → Float
    at_p v k = c ⊗ nth v (index k p) ⊖ s ⊗ nth v (index k q)

    abbrev at_q : List Float → ℕ → Float
    at_q v k = s ⊗ nth v (index k p) ⊕ c ⊗ nth v (index k q)

    pub lines_turned : Replaced v₀ at_p at_q n (loop n (λ k. turn c s (index k p) (index k q)) v₀)
    unfolding turn
    lines_turned = lines_all v₀ at_p at_q kept n (le_refl n) len₀
      where
        kept : (m : ℕ) (v : List Float) → m < n → Replaced v₀ at_p at_q m v → (at_p v m ≡ at_p v₀ m) × (at_q v m ≡ at_q v₀ m)
        kept m v hm H = let x = H.left m p hm pn (le_refl m) in let y = H.left m q hm qn (le_refl m) in ((λ t. c ⊗ x t ⊖ s ⊗ y t), (λ t. s ⊗ x t ⊕ c ⊗ y t))

-- ---- columns p and q turned: two numbers of every row
module _ (c s : Float) (n p q : ℕ) (pq : p < q) (qn : q < n) (v : List Float) (len : length v ≡ n * n) where
  pub length_columns : length (turn_columns n p q c s v) ≡ n * n
  unfolding turn_columns
  length_columns = (lines_turned n (in_rows n) (row_lines n) p q pq qn c s v len).len

  pub columns_at : (i j : ℕ) → i < n → j < n → at (turn_columns n p q c s v) n i j ≡ turned_row c s p q (at v n i) j
  unfolding turn_columns
  columns_at i j hi hj = (lines_turned n (in_rows n) (row_lines n) p q pq qn c s v len).done i j hi hj hi
