-- What only the contracts of inner functions cite: records put together from their parts, layouts of the code, and symmetry to the last bit. Definitions only.
use Rattle.std.specs.Prelude.{ℕ, suc, ◌+◌, ◌*◌, ◌<◌, ◌≡◌, Bool, true, false, cond, List, eqb, set, Float, Option, Some, None}
use Rattle.std.specs.Float.Ieee.{eq}
use Rattle.leaves.specs.Numbers.{◌⊕◌, ◌⊖◌, ◌⊗◌, zero⁺}
use Rattle.matrix.specs.Matrix.{Matrix, at, rows, transpose}
use Rattle.matrix.specs.Rotation.{State, tangent_at, cosine}
use Rattle.matrix.specs.Jacobi.{Swept, Decomposition}

abbrev pub state : List Float → List Float → ℕ → State
state a v k = record { matrix = a; vectors = v; rotations = k }

-- k, and one more where a rotation was made
abbrev pub counted : Bool → ℕ → ℕ
counted turned k = cond turned (suc k) k

abbrev pub swept_to : Bool → ℕ → State → Swept
swept_to done k st = record { done = done; sweeps = k; reached = st }

abbrev pub decomposed : Bool → List Float → List Float → ℕ → ℕ → Decomposition
decomposed found values vectors k r = record { found = found; values = values; vectors = vectors; sweeps = k; rotations = r }

-- the cosine and the sine of the rotation at p and q, unless the entry there is 0
unfoldable pub angle_at : ℕ → ℕ → ℕ → List Float → Option (Float × Float)
angle_at n p q a = elim (eq (at a n p q) zero⁺) [ true ↦ None | false ↦ let t = tangent_at n p q a in Some (cosine t, t ⊗ cosine t) ]

-- the square matrix that is stored column by column, stored row by row
abbrev pub by_columns : ℕ → List Float → List Float
by_columns n w = rows n n (transpose (at w n))

-- where rows and columns p and q meet: the columns turned, with 0 off the diagonal
abbrev pub turned_block : ℕ → ℕ → ℕ → Float → Float → List Float → List Float
turned_block n p q c s a =
    set (set (set (set a (p * n + p) (c ⊗ at a n p p ⊖ s ⊗ at a n p q)) (q * n + q) (s ⊗ at a n q p ⊕ c ⊗ at a n q q)) (p * n + q) zero⁺) (q * n + p) zero⁺

-- rows p and q copied to the columns p and q
abbrev pub mirrored : ℕ → ℕ → ℕ → List Float → Matrix
mirrored n p q a i j = cond (eqb j p) (at a n p i) (cond (eqb j q) (at a n q i) (at a n i j))

-- a square matrix, stored, that is its transpose to the last bit
abbrev pub Symmetric : ℕ → List Float → Type 0
Symmetric n a = (i j : ℕ) → i < n → j < n → at a n i j ≡ at a n j i
