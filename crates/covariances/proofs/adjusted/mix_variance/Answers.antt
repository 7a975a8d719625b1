-- `covariances::adjusted::mix_variance` meets its contract: what its calls ensure, put together.
use Rattle.std.proofs.Common.{ap, ◌∙◌}
use lib.Ieee.{Float}
use Rattle.leaves.specs.Numbers.{◌⊕◌, ◌⊖◌, ◌⊗◌, one}
use Rattle.matrix.specs.Matrix.{at, rows, identity}
use Rattle.rules.specs.Adjusted.{weighted_target, mixed}
use Rattle.covariances.proofs.adjusted.mix_variance.Goals as goal

pub returns : goal.returns
unfolding mixed weighted_target
returns c = let a = c.args in c.mix.ensures identity c.put_identity.ensures ∙ ap (λ (m : Float). rows a.n a.n (λ i j. a.intensity ⊗ m ⊗ identity i j ⊕ (one ⊖ a.intensity) ⊗ at a.b.now a.n i j)) c.average_variance.ensures
