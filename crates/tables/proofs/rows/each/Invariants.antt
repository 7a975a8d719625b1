use Rattle.std.proofs.Common.{◌≡◌, length}
use lib.Ieee.{Float}
use Rattle.leaves.specs.Loops.{nth}
use Rattle.leaves.proofs.Invariants.{Filled}
use Rattle.tables.proofs.rows.each.Given as goal

abbrev pub invariant-loop-k : goal.invariant-loop-k
invariant-loop-k g l = (h : Float → Float → Float) → ((x c y : Float) → goal.F-post g l.f x c y → y ≡ h x c) → Filled (λ k. h (nth l.xs k) (nth l.centers k)) l.k (length l.initial.out) l.initial.out l.out
