-- `covariances::ledoit_wolf::squared_distance` meets its contract: what its two calls ensure, put together.
use Rattle.std.proofs.Common.{◌∙◌}
use Rattle.leaves.specs.Numbers.{◌⊖◌}
use Rattle.matrix.specs.Matrix.{at}
use Rattle.matrix.proofs.OfStored.{entrywise, squares_stored}
use Rattle.covariances.proofs.ledoit_wolf.squared_distance.Goals as goal

pub returns : goal.returns
returns c = let a = c.args in λ f e. c.squares.ensures ∙ squares_stored a.n (λ i j. at a.s.now a.n i j ⊖ f i j) (entrywise a.n f (λ x y. x ⊖ y) a.s.now e c.subtract_from.ensures)
