-- Laws of the rows that `specs/Rows.antt` forms. Assumes nothing.
use Rattle.std.proofs.Common.{◌≡◌, ℕ, ◌+◌, ◌-◌, ◌*◌, ◌<◌, ◌≤◌, List, [], length, take, drop, ℤ, refl, ap, ◌∙◌, arith, le-leb}
use lib.Ieee.{Float}
use borrow.Author.Tests.{lt-leb}
use Rattle.leaves.specs.Numbers.{◌⊗◌}
use Rattle.leaves.specs.Loops.{tab, nth}
use Rattle.leaves.proofs.Loops.{tab_ext}
use Rattle.leaves.proofs.Lists.{tab_then}
use Rattle.matrix.specs.Matrix.{Matrix, at}
use Rattle.matrix.proofs.ByRows.{part_nth}
use Rattle.rules.specs.Sample.{scaled}
use Rattle.rules.specs.BayesStein.{exponent_at}
use Rattle.tables.specs.Rows.{in_unit, in_units, formed, rows_of}
use Rattle.tables.specs.Powers.{Units}
use Rattle.tables.specs.declared.rows.Row.{Row}

module _ (row : Row) (n : ℕ) (xs units centers : List Float) (w : Float) where
  -- the row, formed of the scaled numbers where there are units, and of the numbers where there are none
  pub scaled_numbers : (m : ℕ) (scaled : List Float) → m ≡ n → n + n ≤ length units → scaled ≡ tab m (λ k. nth xs k ⊗ nth units k ⊗ nth units (m + k))
      → tab n (λ k. formed row (nth scaled k) (nth centers k) w) ≡ tab n (λ k. formed row (in_unit n units k (nth xs k)) (nth centers k) w)
  unfolding in_unit
  scaled_numbers m scaled em h e =
      rw (le-leb (n + n) (length units) h)
      (tab_then scaled n (λ k. nth xs k ⊗ nth units k ⊗ nth units (n + k)) (λ k x. formed row x (nth centers k) w) refl
      (e ∙ ap (λ (m : ℕ). tab m (λ k. nth xs k ⊗ nth units k ⊗ nth units (m + k))) em))

  pub plain_numbers : length units < n + n → tab n (λ k. formed row (nth xs k) (nth centers k) w) ≡ tab n (λ k. formed row (in_unit n units k (nth xs k)) (nth centers k) w)
  unfolding in_unit
  plain_numbers h = rw (lt-leb (n + n) (length units) h)

-- the row of period t, formed of a part of the returns
pub row_formed : (row : Row) (m n a t : ℕ) (r units centers weights : List Float) (w : Float) → m ≡ n → a ≡ t * n → w ≡ nth weights t
    → tab m (λ k. formed row (in_unit m units k (nth (take (a + n - a) (drop a r)) k)) (nth centers k) w) ≡ tab n (rows_of row n units centers weights (at r n) t)
unfolding rows_of
row_formed row m n a t r units centers weights w em ea ew =
    ap (λ (m : ℕ). tab m (λ k. formed row (in_unit m units k (nth (take (a + n - a) (drop a r)) k)) (nth centers k) w)) em
    ∙ tab_ext _ (λ k. formed row (in_unit n units k (at r n t k)) (nth centers k) (nth weights t)) n
    (λ k h. let e : nth (take (a + n - a) (drop a r)) k ≡ at r n t k = part_nth a (a + n - a) r k (omega arith) ∙ ap (λ (b : ℕ). nth r (b + k)) ea in
    λ i. formed row (in_unit n units k (e i)) (nth centers k) (ew i))

-- ---- without units, and in units that are stored

pub unit_none : (n : ℕ) (x : Matrix) (t i : ℕ) → i < n → in_units n [] x t i ≡ x t i
unfolding in_unit
unit_none n x t i h = rw (lt-leb (n + n) 0 (omega arith))

pub row_bare : (row : Row) (n : ℕ) (centers weights : List Float) (x : Matrix) (t i : ℕ) → i < n → rows_of row n [] centers weights x t i ≡ formed row (x t i) (nth centers i) (nth weights t)
unfolding rows_of
row_bare row n centers weights x t i h = ap (λ (v : Float). formed row v (nth centers i) (nth weights t)) (unit_none n x t i h)

pub unit_scaled : (n : ℕ) (es : List ℤ) (units : List Float) (x : Matrix) → length units ≡ n + n → Units n es units → (t i : ℕ) → i < n → in_units n units x t i ≡ scaled (exponent_at es) x t i
unfolding in_unit scaled
unit_scaled n es units x e u t i h = rw (le-leb (n + n) (length units) (omega arith)) (u i h (x t i))
