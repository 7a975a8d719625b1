-- `covariances::adjusted::regularize` meets its contract, by the cases of the regularization.
use Rattle.std.proofs.Common.{◌≡◌, ℕ, List, length, ◌∙◌}
use lib.Ieee.{Float}
use Rattle.leaves.specs.Numbers.{◌⊕◌, ◌⊗◌}
use Rattle.leaves.specs.Loops.{tab, nth}
use Rattle.matrix.specs.Matrix.{Matrix, rows, identity}
use Rattle.matrix.proofs.Stored.{rows_ext}
use Rattle.matrix.proofs.OfStored.{at_stored, entrywise}
use Rattle.rules.specs.Adjusted.{regularized}
use Rattle.rules.specs.declared.Regularization.TheVariants.{Ridge}
use Rattle.covariances.proofs.adjusted.regularize.Goals as goal

ridged : (n : ℕ) (ridge : Float) (f : Matrix) {unit old out : List Float} → unit ≡ rows n n identity → old ≡ rows n n f → out ≡ tab (length old) (λ k. nth old k ⊕ ridge ⊗ nth unit k) → out ≡ rows n n (regularized (Ridge ridge) f)
unfolding regularized
ridged n ridge f {unit} eu e e' = entrywise n f (λ x y. y ⊕ ridge ⊗ x) unit e e' ∙ rows_ext n n _ _ (λ i j hi hj t. f i j ⊕ ridge ⊗ at_stored n identity eu i j hi hj t)

pub returns-in-Unregularized : goal.returns-in-Unregularized
unfolding regularized
returns-in-Unregularized c = λ f e. rw c.in-Unregularized.is e

pub returns-in-Ridge : goal.returns-in-Ridge
returns-in-Ridge c = let a = c.args in λ f e. rw c.in-Ridge.is (ridged a.n c.in-Ridge.ridge f c.put_identity.ensures e c.add_times.ensures)
