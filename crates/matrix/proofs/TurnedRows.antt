-- What stands in each row and column of a stored matrix of which rows p and q are turned: two numbers of every column. Assumes nothing.
use mathlib.Core.Path.{◌≡◌}
use mathlib.Core.List.{List}
use Prim.Native.Nat.{ℕ, ◌+◌, ◌*◌, ◌<◌}
use lib.Arith.{digits_lt}
use lib.ListN.{length}
use lib.Ieee.{Float}
use Rattle.leaves.proofs.Cells.{same_row, same_column}
use Rattle.matrix.specs.Matrix.{at}
use Rattle.matrix.specs.Rotation.{turn_rows}
use Rattle.matrix.proofs.Lines.{turned_row, Lines, lines_turned}

abbrev in_columns : ℕ → ℕ → ℕ → ℕ
in_columns n k j = j * n + k

column_lines : (n : ℕ) → Lines n (in_columns n)
column_lines n = record { inside = λ k j hk hj. digits_lt hj hk; apart = λ k j i m hk hj hi hm e. (same_column n m j k i hk hi e, same_row n m j k i hk hi e) }

module _ (c s : Float) (n p q : ℕ) (pq : p < q) (qn : q < n) (v : List Float) (len : length v ≡ n * n) where
  pub length_turned_rows : length (turn_rows n p q c s v) ≡ n * n
  unfolding turn_rows
  length_turned_rows = (lines_turned n (in_columns n) (column_lines n) p q pq qn c s v len).len

  pub turned_rows_at : (i j : ℕ) → i < n → j < n → at (turn_rows n p q c s v) n i j ≡ turned_row c s p q (λ r. at v n r j) i
  unfolding turn_rows
  turned_rows_at i j hi hj = (lines_turned n (in_columns n) (column_lines n) p q pq qn c s v len).done j i hj hi hj
