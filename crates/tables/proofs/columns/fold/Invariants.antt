use Rattle.std.proofs.Common.{◌≡◌, ℕ, length}
use lib.Ieee.{Float}
use Rattle.leaves.specs.Loops.{nth}
use Rattle.leaves.proofs.Invariants.{Filled}
use Rattle.tables.specs.Rows.{matrix_of}
use Rattle.tables.specs.declared.returns.Rows.{Rows}
use Rattle.tables.proofs.OverPeriods.{after}
use Rattle.tables.proofs.columns.fold.Given as goal

-- what period t makes of column i's number
abbrev pub step : Rows → (Float → Float → Float) → ℕ → ℕ → Float → Float
step z h t i v = h v (matrix_of z t i)

abbrev pub invariant-loop-k : goal.invariant-loop-k
invariant-loop-k g l = (h : Float → Float → Float) → ((v x y : Float) → goal.F-post g l.f v x y → y ≡ h v x) → Filled (λ k. h (nth l.initial.out k) (nth l.d k)) l.k (length l.initial.out) l.initial.out l.out

abbrev pub invariant-loop-t : goal.invariant-loop-t
invariant-loop-t g l = (h : Float → Float → Float) → ((v x y : Float) → goal.F-post g l.f v x y → y ≡ h v x) → l.out ≡ after l.z.returns.assets (step l.z h) l.t
