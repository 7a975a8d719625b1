-- `covariances::targets::put_row` meets its contract. The invariant: every number passed is the product; the variance is put over the one at i.
use Rattle.std.proofs.Common.{List, set, refl, ap, ◌∙◌, arith}
use lib.Ieee.{Float}
use Rattle.leaves.proofs.Invariants.{filled_more, filled_whole, filled_none}
use Rattle.leaves.proofs.Lists.{set_tab}
use Rattle.covariances.proofs.targets.put_row.Goals as goal

pub loop-j-init : goal.loop-j-init
loop-j-init c = filled_none _ _ _

pub loop-j-preserved : goal.loop-j-preserved
loop-j-preserved c = filled_more c.loop-j.invariant (omega arith) (omega arith) refl

pub returns : goal.returns
returns c = let a = c.args in ap (λ (l : List Float). set l a.i a.variance) (filled_whole c.loop-j.invariant (omega arith) refl) ∙ set_tab _ _ a.i a.variance c.requires.0
