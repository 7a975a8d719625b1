-- `means::gather::gather_ones` meets its contract: `gather` of an array of ones.
use Rattle.std.proofs.Common.{refl}
use lib.Ieee.{nan, of_bits}
use Rattle.leaves.specs.Numbers.{◌⊘◌, one}
use Rattle.leaves.specs.Loops.{nth}
use Rattle.matrix.specs.Limits.{max_side}
use Rattle.matrix.proofs.Lent.{part_at}
use Rattle.means.proofs.Gathered.{gathered_as, gathered_read}
use Rattle.means.proofs.gather.gather_ones.Goals as goal

pub returns : goal.returns
unfolding of_bits
returns c =
    let s = c in
    gathered_read (gathered_as (λ i h t. part_at one max_side s.args.n s.requires.0 nan i h t ⊘ nth s.args.volatilities.now i) (λ i h. refl) (rw s.requires.4 at c.gather.ensures))
