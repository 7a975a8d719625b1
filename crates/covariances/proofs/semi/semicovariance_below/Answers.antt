-- `covariances::semi::semicovariance_below` meets its contract: below the threshold, the same for every asset.
use Rattle.std.proofs.Common.{ℕ, ap, ◌∙◌, length-take-le}
use Rattle.leaves.specs.Loops.{tab}
use Rattle.matrix.proofs.Lent.{lent}
use Rattle.rules.specs.Semi.{semicovariance_below}
use Rattle.covariances.proofs.semi.semicovariance_below.Goals as goal

pub returns : goal.returns
unfolding semicovariance_below
returns c = let a = c.args in c.put_below.ensures (λ i. a.threshold) (c.fill.ensures ∙ ap (λ (m : ℕ). tab m (λ k. a.threshold)) (length-take-le _ _ (search lent)))
