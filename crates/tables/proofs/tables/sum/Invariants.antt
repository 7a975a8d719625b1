use Rattle.std.proofs.Common.{◌≡◌, ℕ, ◌*◌, List}
use lib.Ieee.{Float}
use Rattle.matrix.specs.Matrix.{at}
use Rattle.tables.specs.Rows.{matrix_of, plus, summed}
use Rattle.tables.specs.declared.returns.Rows.{Rows}
use Rattle.tables.specs.declared.tables.Term.{Term}
use Rattle.tables.proofs.tables.sum.Given as goal

-- what period t adds
abbrev pub step : Term → Rows → List Float → ℕ → ℕ → ℕ → Float → Float
step term z s t = plus term (at s z.returns.assets) (matrix_of z t)

abbrev pub invariant-loop-group : goal.invariant-loop-group
invariant-loop-group l = l.out ≡ summed l.z.returns.assets (step l.term l.z l.s) (4 * l.group)

abbrev pub invariant-loop-t : goal.invariant-loop-t
invariant-loop-t l = l.out ≡ summed l.z.returns.assets (step l.term l.z l.s) l.t
