-- The constant-correlation target of a covariance s whose variances are above zero, and of its copy s', each entry 4 ^ k times as large: volatilities are 2 ^ k times as large and correlations the same.
-- Products are in the normal range all the way, so nothing rounds differently. Assumes nothing.
use mathlib.Core.Path.{◌≡◌, refl, sym}
use Prim.Native.Nat.{ℕ, ◌+◌, ◌-◌, ◌*◌, ◌^◌, ◌≤◌, ◌<◌}
use native.Mathlib.Nat.{le_trans, sub-le, zero-add, mul-pos}
use native.Mathlib.Omega.{arith}
use mathlib.Core.Bool.{Bool, true, false, cond}
use lib.Dec.{eqb, lit≤}
use lib.Ieee.{Float}
use borrow.Author.Tests.{eqb-false}
use Rattle.leaves.specs.Numbers.{◌⊗◌}
use Rattle.leaves.proofs.Units.{sign, mag}
use Rattle.leaves.proofs.Range.{count_pos}
use Rattle.leaves.proofs.Operations.{Moved, moved_within, moved_mul_normal, moved_div, moved_over}
use Rattle.leaves.proofs.Signs.{sign_not_below}
use Rattle.leaves.proofs.SqrtNearest.{moved_sqrt}
use Rattle.matrix.specs.Matrix.{Matrix}
use Rattle.matrix.specs.Limits.{max_side}
use Rattle.rules.specs.Sample.{volatility, correlation}
use Rattle.rules.specs.LedoitWolf.{apart, average_correlation, constant_correlation}
use Rattle.law.specs.Law.{max_power}
use Rattle.law.proofs.Bits.{cell_bits, cell_bits_lem}
use Rattle.law.proofs.Ranges.{volatility_bounds, correlation_bounds, average_correlation_bounds, target_bounds}
use Rattle.law.proofs.Sample.{count_moved, Sampled}
use Rattle.law.proofs.Matrices.{over_moved}

abbrev pub Targeted : ℕ → Float → Float → Type 0
Targeted k x x' = Moved k target_bounds x x'

module _ (k n : ℕ) (small : k ≤ max_power) (assets : 0 < n) (few : n ≤ max_side) (s s' : Matrix) (each : (i j : ℕ) → i < n → j < n → Sampled (k + k) (s i j) (s' i j))
    (plus : (i : ℕ) → i < n → sign (s i i) ≡ false) (above : (i : ℕ) → i < n → 0 < mag (volatility s i)) where
  volatility_moved : (i : ℕ) → i < n → Moved k volatility_bounds (volatility s i) (volatility s' i)
  volatility_moved i a = moved_sqrt (each i i a a) (sign_not_below (s i i) (plus i a))

  correlation_moved : (i j : ℕ) → i < n → j < n → Moved 0 correlation_bounds (correlation s i j) (correlation s' i j)
  correlation_moved i j a b =
      let once = moved_div {i = k} {j = k} (each i j a b) (volatility_moved i a) (above i a) (lit≤ tt) (omega arith) in
      moved_div {i = 0} {j = k} (rw (sym (zero-add k)) at once) (volatility_moved j b) (above j b) (lit≤ tt) (lit≤ tt)

  average_moved : 2 ≤ n → Moved 0 average_correlation_bounds (average_correlation n s) (average_correlation n s')
  unfolding average_correlation
  average_moved two =
      let pairs : n * (n - 1) ≤ 2 ^ cell_bits = cell_bits_lem few (le_trans (sub-le n 1) few) in
      moved_over (over_moved n apart (correlation s) (correlation s') few (lit≤ tt) correlation_moved)
      (count_moved cell_bits (n * (n - 1)) (lit≤ tt) pairs) (count_pos (n * (n - 1)) (mul-pos assets (omega arith)) (le_trans pairs (lit≤ tt))) (lit≤ tt) (lit≤ tt)

  pub target_moved : (i j : ℕ) → i < n → j < n → Targeted (k + k) (constant_correlation n s i j) (constant_correlation n s' i j)
  unfolding constant_correlation
  target_moved i j a b = go (eqb i j) refl
    where
      go : (c : Bool) → eqb i j ≡ c → Targeted (k + k) (cond c (s i i) (average_correlation n s ⊗ volatility s i ⊗ volatility s j)) (cond c (s' i i) (average_correlation n s' ⊗ volatility s' i ⊗ volatility s' j))
      go true e = moved_within target_bounds tt (each i i a a)
      go false e =
          let q = eqb-false i j e in
          let once = rw (zero-add k) at (moved_mul_normal (average_moved (omega arith)) (volatility_moved i a) (lit≤ tt) (omega arith)) in
          moved_mul_normal once (volatility_moved j b) (lit≤ tt) (omega arith)
