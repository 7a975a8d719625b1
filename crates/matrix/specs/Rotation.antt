-- Document 01, "Jacobi": one Jacobi rotation (Golub and Van Loan 2013, section 8.5.2, with the source's formulas for the tangent; eigen.rs, `rotate`).
-- Definitions only.
use Rattle.std.specs.Prelude.{ℕ, suc, ◌+◌, ◌*◌, true, false, cond, List, set, Float}
use Rattle.std.specs.Float.Ieee.{lt, eq}
use Rattle.leaves.specs.Numbers.{◌⊕◌, ◌⊖◌, ◌⊗◌, ◌⊘◌, zero⁺, half, one, two, 1e150, abs, signum}
use Rattle.leaves.specs.Loops.{loop, nth}
use Rattle.leaves.specs.Root.{sqrt}
use Rattle.matrix.specs.Matrix.{at}

-- cot 2θ for the angle θ that zeroes y between the diagonal numbers x and z
abbrev pub cotangent : Float → Float → Float → Float
cotangent x y z = (z ⊖ x) ⊘ (two ⊗ y)

-- tan θ, the smaller root of t² + 2τt - 1, which keeps θ to 45 degrees at most; 1 / 2τ above 1e150, before τ² can overflow
unfoldable pub tangent : Float → Float
tangent τ = cond (lt 1e150 (abs τ)) (half ⊘ τ) (signum τ ⊘ (abs τ ⊕ sqrt (τ ⊗ τ ⊕ one)))

-- tan θ for the angle that zeroes the entry in row p and column q
abbrev pub tangent_at : ℕ → ℕ → ℕ → List Float → Float
tangent_at n p q a = tangent (cotangent (at a n p p) (at a n p q) (at a n q q))

abbrev pub cosine : Float → Float
cosine t = one ⊘ sqrt (t ⊗ t ⊕ one)

-- numbers i and j of a list, turned by the angle whose cosine is c and whose sine is s
unfoldable pub turn : Float → Float → ℕ → ℕ → List Float → List Float
turn c s i j l = set (set l i (c ⊗ nth l i ⊖ s ⊗ nth l j)) j (s ⊗ nth l i ⊕ c ⊗ nth l j)

-- columns p and q turned, and rows p and q
unfoldable pub turn_columns : ℕ → ℕ → ℕ → Float → Float → List Float → List Float
turn_columns n p q c s = loop n (λ k. turn c s (k * n + p) (k * n + q))

unfoldable pub turn_rows : ℕ → ℕ → ℕ → Float → Float → List Float → List Float
turn_rows n p q c s = loop n (λ k. turn c s (p * n + k) (q * n + k))

-- JᵀAJ with 0 at (p, q) and (q, p)
abbrev pub turned_both : ℕ → ℕ → ℕ → Float → Float → List Float → List Float
turned_both n p q c s a = set (set (turn_rows n p q c s (turn_columns n p q c s a)) (p * n + q) zero⁺) (q * n + p) zero⁺

-- A, V and the count of rotations
pub record State : Type 0 where
  pub matrix : List Float
  pub vectors : List Float
  pub rotations : ℕ

-- JᵀAJ and VJ
unfoldable pub rotated : ℕ → ℕ → ℕ → Float → Float → State → State
rotated n p q c s st = record {
  matrix = turned_both n p q c s st.matrix;
  vectors = turn_columns n p q c s st.vectors;
  rotations = suc st.rotations;
}

unfoldable pub rotate_by : ℕ → ℕ → ℕ → Float → State → State
rotate_by n p q t st = let c = cosine t in rotated n p q c (t ⊗ c) st

-- nothing is done at an entry 0
unfoldable pub rotate : ℕ → ℕ → ℕ → State → State
rotate n p q st = elim (eq (at st.matrix n p q) zero⁺) [ true ↦ st | false ↦ rotate_by n p q (tangent_at n p q st.matrix) st ]
