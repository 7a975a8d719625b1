-- What only the contracts of the C interface cite: the number of a decomposition, and what the slices lent to it hold after the call. Definitions only.
use Rattle.std.specs.Prelude.{ℕ, ◌*◌, Bool, true, false, not, cond, ◌&&◌, List, [], ◌∷◌, ltb, eqb, length, Float}
use Rattle.matrix.specs.Limits.{max_side, max_sweeps}
use Rattle.matrix.specs.Matrix.{at}
use Rattle.matrix.specs.Jacobi.{Decomposition, decompose}

pub record Left : Type 0 where
  pub number : ℕ
  pub values : List Float
  pub vectors : List Float
  -- sweeps, rotations
  pub counts : List ℕ

abbrev pub left : ℕ → List Float → List Float → List ℕ → Left
left number values vectors counts = record { number = number; values = values; vectors = vectors; counts = counts }

-- a side and a limit that are allowed, and the lengths of A, the values and V
unfoldable pub fits : ℕ → ℕ → ℕ → ℕ → ℕ → Bool
fits n limit a values vectors = not (ltb max_side n) && not (ltb max_sweeps limit) && eqb a (n * n) && eqb values n && eqb vectors (n * n)

-- 0 found, 1 not found
abbrev pub told : Decomposition → Left
told d = left (cond d.found 0 1) d.values d.vectors (d.sweeps ∷ d.rotations ∷ [])

-- 2, and nothing is written, where the arguments do not fit each other
unfoldable pub matrix_decompose : List Float → ℕ → ℕ → List Float → List Float → List ℕ → Left
matrix_decompose a n limit values vectors counts =
    elim (fits n limit (length a) (length values) (length vectors)) [ true ↦ told (decompose limit n (at a n)) | false ↦ left 2 values vectors counts ]
