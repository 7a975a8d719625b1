-- `means::bayes_stein::is_singular` meets its contract.
use lib.Ieee.{le, of_bits}
use Rattle.leaves.specs.Numbers.{◌⊗◌, ε}
use Rattle.rules.specs.BayesStein.{singular}
use Rattle.means.proofs.bayes_stein.is_singular.Goals as goal

pub returns : goal.returns
unfolding singular of_bits
returns c d h = rw (singular, h) (λ t. le (c.smallest.ensures t) (c.nearest_u64_to_f64-n.ensures t ⊗ ε ⊗ c.largest.ensures t))
