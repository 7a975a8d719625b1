-- `covariances::adjusted::mix` meets its contract: what its two calls ensure, put together.
use Rattle.std.proofs.Common.{[]}
use lib.Ieee.{of_bits}
use Rattle.leaves.specs.Numbers.{◌⊕◌, ◌⊖◌, ◌⊗◌, one}
use Rattle.matrix.proofs.OfStored.{entrywise}
use Rattle.covariances.proofs.adjusted.mix.Goals as goal

pub returns : goal.returns
unfolding of_bits
returns c = let a = c.args in λ f e. entrywise a.n (λ i j. a.x ⊗ f i j) (λ x y. y ⊕ (one ⊖ a.intensity) ⊗ x) a.b.now (entrywise a.n f (λ x y. a.x ⊗ y) [] e c.times.ensures) c.add_times.ensures
