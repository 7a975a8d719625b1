-- Document 01, "Jacobi": the cyclic Jacobi method (Golub and Van Loan 2013, algorithm 8.5.3) from V = I, with a limit on the sweeps (eigen.rs). Definitions only.
-- The state after k sweeps is one function of k. The decomposition is the state before the first sweep that the test forbids.
use Rattle.std.specs.Prelude.{ℕ, suc, ◌+◌, ◌-◌, Bool, true, false, List, ltb, Float}
use Rattle.std.proofs.Math.Option.{Option, none, some}
use Rattle.std.specs.Float.Ieee.{le, eq, is_nan}
use Rattle.leaves.specs.Numbers.{◌⊗◌, zero⁺, two, ε}
use Rattle.leaves.specs.Loops.{loop, first_to, min_to, max_to, tab, nth}
use Rattle.leaves.specs.Root.{sqrt}
use Rattle.matrix.specs.Matrix.{Matrix, at, rows, identity, product, transpose, symmetrized, divided, squared, amax, sum_over, squares, all_finite}
use Rattle.matrix.specs.Rotation.{State, rotate}

-- ---- sweeps

-- every p and q > p, row by row
abbrev pub sweep_row : ℕ → ℕ → State → State
sweep_row n p = loop (n - suc p) (λ k. rotate n p (suc p + k))

unfoldable pub sweep : ℕ → State → State
sweep n = loop n (sweep_row n)

-- the state after k sweeps
unfoldable pub after_sweeps : ℕ → ℕ → State → State
after_sweeps k n = loop k (λ i. sweep n)

-- ---- the test before a sweep

-- S, the sum of squares above the diagonal
unfoldable pub off_diagonal : ℕ → Matrix → Float
off_diagonal n a = sum_over n ltb (squared a) zero⁺

pub data Test : Type 0 where
  fails : Test
  converged : Test
  goes_on : Test

unfoldable pub test : ℕ → Float → State → Test
test n tolerance st =
    let s = off_diagonal n (at st.matrix n) in
    elim (is_nan s) [ true ↦ fails | false ↦ elim (le (sqrt (two ⊗ s)) tolerance) [ true ↦ converged | false ↦ goes_on ] ]

abbrev pub stops : Test → Bool
stops fails = true
stops converged = true
stops goes_on = false

abbrev pub is_converged : Test → Bool
is_converged fails = false
is_converged converged = true
is_converged goes_on = false

-- how far the sweeps came
pub record Swept : Type 0 where
  pub done : Bool
  pub sweeps : ℕ
  pub reached : State

-- whether the test forbids sweep k
abbrev pub stopping : ℕ → Float → State → ℕ → Bool
stopping n tolerance st k = stops (test n tolerance (after_sweeps k n st))

-- by the first sweep that is forbidden, if there is one below the limit. No test follows the last sweep.
abbrev pub swept_by : ℕ → Float → State → ℕ → Option ℕ → Swept
swept_by n tolerance st limit o =
    elim o [
      | none ↦ record { done = false; sweeps = limit; reached = after_sweeps limit n st }
      | some k ↦ let reached = after_sweeps k n st in record { done = is_converged (test n tolerance reached); sweeps = k; reached = reached }
    ]

-- to the first state that the test stops, or to the limit
unfoldable pub sweeping : ℕ → ℕ → Float → State → Swept
sweeping limit n tolerance st = swept_by n tolerance st limit (first_to limit (stopping n tolerance st))

-- ---- the decomposition

-- A = V diag(values) Vᵀ, if it was found, and the sweeps and rotations made
pub record Decomposition : Type 0 where
  pub found : Bool
  pub values : List Float
  pub vectors : List Float
  pub sweeps : ℕ
  pub rotations : ℕ

-- the smallest and the largest of n values
abbrev pub smallest_value : ℕ → Decomposition → Float
smallest_value n d = min_to n (nth d.values)

abbrev pub largest_value : ℕ → Decomposition → Float
largest_value n d = max_to n (nth d.values)

-- A over its largest entry, then VᵀAV at V = I, averaged with its transpose
unfoldable pub start : ℕ → Float → Matrix → List Float
start n scale a =
    let b = rows n n (product n (product n (transpose identity) (divided a scale)) identity) in
    rows n n (symmetrized (at b n))

-- the tolerance of the test, and the state before the first sweep
abbrev pub tolerance : ℕ → List Float → Float
tolerance n a = ε ⊗ sqrt (squares n (at a n))

abbrev pub initial : ℕ → List Float → State
initial n a = record { matrix = a; vectors = rows n n identity; rotations = 0 }

unfoldable pub swept : ℕ → ℕ → List Float → Swept
swept limit n a = sweeping limit n (tolerance n a) (initial n a)

unfoldable pub scaled_back : ℕ → Float → Swept → Decomposition
scaled_back n scale w = record {
  found = w.done;
  values = tab n (λ i. at w.reached.matrix n i i ⊗ scale);
  vectors = w.reached.vectors;
  sweeps = w.sweeps;
  rotations = w.reached.rotations;
}

-- nothing turned: zeros and the identity, as for a zero matrix
unfoldable pub unturned : ℕ → Bool → Decomposition
unturned n found = record { found = found; values = tab n (λ i. zero⁺); vectors = rows n n identity; sweeps = 0; rotations = 0 }

-- by whether the matrix is finite, whether its largest size is zero, that size, and what the sweeps begin with
abbrev pub decomposed_by : ℕ → ℕ → Bool → Bool → Float → List Float → Decomposition
decomposed_by limit n finite is_zero scale b =
    elim finite [
      | false ↦ unturned n false
      | true ↦ elim is_zero [ true ↦ unturned n true | false ↦ scaled_back n scale (swept limit n b) ]
    ]

unfoldable pub decompose : ℕ → ℕ → Matrix → Decomposition
decompose limit n a = let scale = amax n n a in decomposed_by limit n (all_finite n n a) (eq scale zero⁺) scale (start n scale a)
