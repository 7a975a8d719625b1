-- The test for a constant asset (document 01, cause 9). Its tolerance grows with the returns, so it finds the same asset in both runs; and a volatility that is above it is not zero. Assumes nothing.
use mathlib.Core.Path.{◌≡◌, ap, ap₂, ◌∙◌, refl, sym}
use Prim.Native.Nat.{ℕ, ◌+◌, ◌-◌, ◌≤◌, ◌<◌, zero-le}
use native.Mathlib.Nat.{zero-add, lt_of_le_of_lt}
use native.Mathlib.Omega.{arith}
use mathlib.Core.Bool.{false}
use lib.Dec.{lit≤, lit<}
use lib.IntN.{pos}
use lib.Ieee.{Float, fits, le, of_bits}
use Rattle.leaves.specs.Numbers.{◌⊗◌, count, 1e-10, is_finite}
use Rattle.leaves.specs.Root.{sqrt}
use Rattle.leaves.specs.Shift.{shift}
use Rattle.leaves.proofs.First.{first_ext}
use Rattle.leaves.proofs.Shift.{le_shift}
use Rattle.leaves.proofs.SqrtLaws.{sqrt_shift}
use Rattle.leaves.proofs.Units.{one_bits, top_bits, U, mag, sign}
use Rattle.leaves.proofs.Range.{sized, range_sized, Range}
use Rattle.leaves.proofs.Bounds.{Bounds, product_of}
use Rattle.leaves.proofs.Operations.{Moved, moved_mul, still}
use Rattle.leaves.proofs.Totals.{amax_one}
use Rattle.leaves.proofs.Signs.{sign_mul, sign_div, sign_sum, sign_count, sign_sqrt, sign_abs}
use Rattle.matrix.specs.Matrix.{Matrix}
use Rattle.rules.specs.Sample.{deviation, gram, covariance, volatility, largest, is_constant, constant_asset}
use Rattle.law.proofs.Ranges.{ten_billionth_bounds}
use Rattle.law.proofs.Comparisons.{plus_val, le_no}
use Rattle.law.proofs.Sample.{Returns, largest_moved}

pub ten_billionth_moved : Moved 0 ten_billionth_bounds 1e-10 1e-10
unfolding of_bits sized fits is_finite mag U
ten_billionth_moved = still ten_billionth_bounds (range_sized ten_billionth_bounds.least ten_billionth_bounds.most 1e-10 (lit≤ tt) tt)

pub ten_billionth_above : 0 < mag 1e-10
unfolding of_bits mag U
ten_billionth_above = lit< tt

module _ {k n P : ℕ} {b : Bounds} {x y : Matrix} (r : Returns k n P b x y) (fine : one_bits ≤ ten_billionth_bounds.grain + b.grain) (room : b.most + k ≤ top_bits) where
  pub tolerance_moved : (i : ℕ) → i < n → Moved k (product_of ten_billionth_bounds b) (1e-10 ⊗ largest P x i) (1e-10 ⊗ largest P y i)
  tolerance_moved i a = rw (zero-add k) at (moved_mul ten_billionth_moved (largest_moved r i a) fine (omega arith))

  -- the same asset for variances v and v', each 4 ^ k times v
  pub constant_same : (v v' : Matrix) → ((i : ℕ) → i < n → v' i i ≡ shift (pos (k + k)) (v i i)) → constant_asset n v' (largest P y) ≡ constant_asset n v (largest P x)
  unfolding constant_asset
  constant_same v v' e = first_ext n (λ i. is_constant (volatility v' i) (largest P y i)) (λ i. is_constant (volatility v i) (largest P x i))
      (λ i l. ap₂ le (ap sqrt (e i l) ∙ sqrt_shift (v i i) (pos k)) (tolerance_moved i l).copy ∙ le_shift (pos k) (volatility v i) (1e-10 ⊗ largest P x i))

-- ---- signs
pub sign_variance : (P : ℕ) (x : Matrix) (i : ℕ) → sign (covariance P x i i) ≡ false
unfolding covariance gram
sign_variance P x i =
    let squares = sign_sum P (λ t. deviation P x t i ⊗ deviation P x t i) (λ t l. sign_mul (deviation P x t i) (deviation P x t i) refl) in
    sign_div (gram P (deviation P x) i i) (count (P - 1)) (rw (squares, sign_count (P - 1)))

pub sign_largest : (P : ℕ) (x : Matrix) (i : ℕ) → sign (largest P x i) ≡ false
unfolding largest sign
sign_largest P x i = amax_one (λ z. sign z ≡ false) P (λ t. x t i) refl (λ t l. sign_abs (x t i))

-- a volatility above the tolerance is not zero
pub above_zero : {g L B g' L' B' : ℕ} (v a : Float) → Range g L B (sqrt v) → Range g' L' B' (1e-10 ⊗ a) → sign v ≡ false → sign a ≡ false → is_constant (sqrt v) a ≡ false → 0 < mag (sqrt v)
above_zero v a p q sv sa h = lt_of_le_of_lt zero-le (le_no (sqrt v) (1e-10 ⊗ a) (plus_val (sqrt v) p.fit p.finite (sign_sqrt v sv)) (plus_val (1e-10 ⊗ a) q.fit q.finite (sign_mul 1e-10 a (unfold sign of_bits in sym sa))) h)
