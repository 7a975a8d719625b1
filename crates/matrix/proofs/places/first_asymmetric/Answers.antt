-- `matrix::places::first_asymmetric` meets its contract. The invariant: no entry passed differs from its transpose by more than the tolerance.
use mathlib.Core.Path.{◌≡◌, sym, ◌∙◌}
use mathlib.Core.Bool.{Bool}
use mathlib.Core.List.{List}
use Prim.Native.Nat.{ℕ}
use native.Mathlib.Omega.{arith}
use lib.Ieee.{Float, lt}
use Rattle.leaves.specs.Numbers.{◌⊖◌, abs}
use Rattle.leaves.proofs.Cells.{row_below, col_below}
use Rattle.leaves.proofs.Search.{first_none, first_more}
use Rattle.matrix.specs.Matrix.{at}
use Rattle.matrix.proofs.First.{entry_at_cell, entry_nowhere}
use Rattle.matrix.proofs.places.first_asymmetric.Goals as goal
use Rattle.matrix.proofs.places.first_asymmetric.Invariants.{differs}

-- the test at row i and column j, by what the calls ensure
differs_at : (a : List Float) (n i j : ℕ) (tolerance : Float) {x y d : Float} {t : Bool} → x ≡ at a n i j → y ≡ at a n j i → d ≡ abs (x ⊖ y) → lt tolerance d ≡ t → differs a n tolerance i j ≡ t
differs_at a n i j tolerance ex ey ed h = (λ u. lt tolerance ((sym (ed ∙ (λ v. abs (ex v ⊖ ey v)))) u)) ∙ h

pub loop-k-init : goal.loop-k-init
loop-k-init c = (omega arith, first_none _)

pub get-requires : goal.get-requires
get-requires c = (row_below _ _ _ (omega arith), col_below _ c.args.n _ (omega arith), c.requires)

pub get-requires-in-loop-k : goal.get-requires-in-loop-k
get-requires-in-loop-k c = (col_below _ c.args.n _ (omega arith), row_below _ _ _ (omega arith), c.requires)

pub returns-then-tolerance-abs : goal.returns-then-tolerance-abs
returns-then-tolerance-abs c = let a = c.args in entry_at_cell (differs a.a.now a.n a.tolerance) a.n a.n _ c.loop-k.invariant.1 (differs_at a.a.now a.n _ _ a.tolerance c.get.ensures c.get-in-loop-k.ensures c.abs.ensures c.if-tolerance-abs.true) (omega arith)

pub loop-k-preserved : goal.loop-k-preserved
loop-k-preserved c = let a = c.args in (omega arith, first_more _ _ c.loop-k.invariant.1 (differs_at a.a.now a.n _ _ a.tolerance c.get.ensures c.get-in-loop-k.ensures c.abs.ensures c.if-tolerance-abs.false))

pub returns : goal.returns
returns c = let a = c.args in entry_nowhere (differs a.a.now a.n a.tolerance) a.n a.n _ c.loop-k.invariant.1 c.loop-k.invariant.0 (omega arith)
