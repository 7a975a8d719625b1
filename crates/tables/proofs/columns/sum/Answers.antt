-- `tables::columns::sum` meets its contract: what is folded is added.
use Rattle.std.proofs.Common.{rules}
use Rattle.leaves.specs.Numbers.{◌⊕◌}
use Rattle.leaves.specs.Loops.{sum_to}
use Rattle.tables.proofs.columns.sum.Goals as goal

pub returns : goal.returns
unfolding sum_to
returns c = c.fold.ensures (λ v x. v ⊕ x) (λ v x y p. search rules)
