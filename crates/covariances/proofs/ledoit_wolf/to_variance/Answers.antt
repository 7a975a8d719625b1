-- `covariances::ledoit_wolf::to_variance` meets its contract: what its calls ensure, put together.
use Rattle.std.proofs.Common.{◌≡◌, ℕ, List, [], length, ap, ◌∙◌}
use lib.Ieee.{Float}
use Rattle.leaves.specs.Numbers.{◌⊗◌}
use Rattle.leaves.specs.Loops.{tab, nth}
use Rattle.matrix.specs.Matrix.{Matrix, at, rows, identity}
use Rattle.matrix.proofs.OfStored.{entrywise}
use Rattle.rules.specs.LedoitWolf.{average_variance, target, squared_distance}
use Rattle.rules.specs.declared.Target.TheVariants.{ConstantVariance}
use Rattle.covariances.proofs.LedoitWolf.{intensity_is, variance_error}
use Rattle.covariances.proofs.ledoit_wolf.to_variance.Goals as goal

target_is : (n : ℕ) (s : Matrix) {w w' : List Float} {m : Float} → w ≡ rows n n identity → m ≡ average_variance n s → w' ≡ tab (length w) (λ k. m ⊗ nth w k) → w' ≡ rows n n (target ConstantVariance n s)
unfolding target
target_is n s {m = m} e em e' = entrywise n identity (λ x y. m ⊗ y) [] e e' ∙ ap (λ (m : Float). rows n n (λ i j. m ⊗ identity i j)) em

pub returns : goal.returns
unfolding squared_distance
returns c =
    let γ = c in
    let F = γ in
    let m = F in
    let I = m in
    let a = I.args in
    let s = at a.s.now a.n in
    λ z e. intensity_is ConstantVariance a.periods a.n z s
    (γ.squared_distance-gamma.ensures (target ConstantVariance a.n s) (target_is a.n s I.put_identity.ensures m.average_variance.ensures F.times.ensures))
    (variance_error a.periods a.n z s e c.total.ensures)
    c.intensity.ensures
