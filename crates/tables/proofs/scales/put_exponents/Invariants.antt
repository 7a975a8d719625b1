use Rattle.std.proofs.Common.{ℕ, ◌<◌, ◌≤◌, length, ℤ, nat_abs}
use Rattle.leaves.specs.Loops.{nth}
use Rattle.leaves.specs.Scaling.{binary_exponent}
use Rattle.leaves.proofs.Invariants.{Filled}
use Rattle.tables.specs.Exponents.{max_exponent}
use Rattle.tables.proofs.scales.put_exponents.Given as goal

-- the first k are sized
abbrev pub Sized : (ℕ → ℤ) → ℕ → Type 0
Sized f k = (i : ℕ) → i < k → nat_abs (f i) ≤ max_exponent

abbrev pub invariant-loop-k : goal.invariant-loop-k
invariant-loop-k l = Filled (λ k. binary_exponent (nth l.xs k)) l.k (length l.initial.out) l.initial.out l.out × Sized (λ k. binary_exponent (nth l.xs k)) l.k
