use Rattle.std.proofs.Common.{◌≡◌, ℕ, ◌<◌}
use lib.Ieee.{Float}
use Rattle.leaves.specs.Loops.{loop}
use Rattle.matrix.specs.Matrix.{Matrix, sum_row}
use Rattle.rules.specs.LedoitWolf.{apart}
use Rattle.covariances.proofs.targets.sum_apart.Given as goal

abbrev pub invariant-loop-j : goal.invariant-loop-j
invariant-loop-j g l = (x : Matrix) → ((i j : ℕ) (y : Float) → i < l.n → j < l.n → goal.F-post g l.f i j y → y ≡ x i j) → l.t ≡ sum_row l.j apart x l.i l.initial.t

abbrev pub invariant-loop-i : goal.invariant-loop-i
invariant-loop-i g l = (x : Matrix) → ((i j : ℕ) (y : Float) → i < l.n → j < l.n → goal.F-post g l.f i j y → y ≡ x i j) → l.t ≡ loop l.i (sum_row l.n apart x) l.first
