-- A matrix stored column by column: turning its rows p and q turns the columns of the matrix that it stores (`flip_rows`). Assumes nothing.
use mathlib.Core.Path.{◌≡◌, refl, sym, ap, ◌∙◌}
use mathlib.Core.Bool.{Bool, true, false, cond}
use mathlib.Core.List.{List}
use Prim.Native.Nat.{ℕ, ◌*◌, ◌<◌}
use native.Mathlib.Nat.{lt_trans}
use lib.Dec.{eqb}
use lib.ListN.{length}
use borrow.Author.Tests.{eqb-true, eqb-false, eq-eqb, ne_eqb}
use lib.Ieee.{Float}
use Rattle.leaves.specs.Numbers.{zero⁺, one}
use Rattle.matrix.specs.Matrix.{at, rows, identity, transpose}
use Rattle.matrix.specs.Rotation.{turn_columns, turn_rows}
use Rattle.matrix.specs.Inner.{by_columns}
use Rattle.matrix.proofs.Stored.{length_rows, rows_at, rows_ext, rows_is}
use Rattle.matrix.proofs.Lines.{length_columns, columns_at, turned_same}
use Rattle.matrix.proofs.TurnedRows.{turned_rows_at}

pub flip_rows : (c s : Float) (n p q : ℕ) (w : List Float) → p < q → q < n → length w ≡ n * n → by_columns n (turn_rows n p q c s w) ≡ turn_columns n p q c s (by_columns n w)
flip_rows c s n p q w pq qn e =
    sym (rows_is (turn_columns n p q c s (by_columns n w)) n (transpose (at (turn_rows n p q c s w) n)) (length_columns c s n p q pq qn (by_columns n w) flat)
    (λ i j hi hj. columns_at c s n p q pq qn (by_columns n w) flat i j hi hj ∙ turned_same c s p q j (at (by_columns n w) n i) (λ r. at w n r i) (old i p hi (lt_trans pq qn)) (old i q hi qn) (old i j hi hj) ∙ sym (turned_rows_at c s n p q pq qn w e j i hj hi)))
  where
    flat : length (by_columns n w) ≡ n * n
    flat = length_rows (transpose (at w n)) n n

    old : (i j : ℕ) → i < n → j < n → at (by_columns n w) n i j ≡ at w n j i
    old i j hi hj = rows_at (transpose (at w n)) n n i j hi hj

-- the identity is its transpose
eqb_sym : (i j : ℕ) → eqb j i ≡ eqb i j
eqb_sym i j = go (eqb i j) (eqb-true i j) (eqb-false i j)
  where
    go : (b : Bool) → (b ≡ true → i ≡ j) → (b ≡ false → i ≡ j → ⊥) → eqb j i ≡ b
    go true t f = eq-eqb j i (sym (t refl))
    go false t f = ne_eqb j i (λ e. f refl (sym e))

pub flip_identity : (n : ℕ) → by_columns n (rows n n identity) ≡ rows n n identity
flip_identity n =
    rows_ext n n (transpose (at (rows n n identity) n)) identity (λ i j hi hj. rows_at identity n n j i hj hi ∙ ap (λ (b : Bool). cond b one zero⁺) (eqb_sym i j))
