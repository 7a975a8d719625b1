-- `means::gather::gather_means` meets its contract: `gather` with exponents 0.
use Rattle.std.proofs.Common.{pos, neg_ℤ, refl, ap}
use Rattle.matrix.specs.Limits.{max_side}
use Rattle.matrix.proofs.Lent.{part_at}
use Rattle.means.proofs.Gathered.{gathered_as, gathered_read}
use Rattle.means.proofs.gather.gather_means.Goals as goal

pub returns : goal.returns
returns c =
    let s = c in
    gathered_read (gathered_as (λ i h. refl) (λ i h. ap neg_ℤ (part_at (pos 0) max_side s.args.n s.requires.0 (pos 0) i h)) (rw s.requires.3 at c.gather.ensures))
