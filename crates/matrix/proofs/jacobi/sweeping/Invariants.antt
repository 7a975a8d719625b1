use mathlib.Core.Path.{◌≡◌}
use mathlib.Core.Option.{none}
use Rattle.leaves.specs.Loops.{first_to}
use Rattle.matrix.specs.Jacobi.{after_sweeps, stopping}
use Rattle.matrix.specs.Inner.{state, by_columns}
use Rattle.matrix.proofs.jacobi.sweeping.Given as goal

abbrev pub invariant-loop-k : goal.invariant-loop-k
invariant-loop-k l = (state l.a (by_columns l.n l.v) l.rotations ≡ after_sweeps l.k l.n (state l.initial.a (by_columns l.n l.initial.v) 0)) × (first_to l.k (stopping l.n l.tolerance (state l.initial.a (by_columns l.n l.initial.v) 0)) ≡ none)
