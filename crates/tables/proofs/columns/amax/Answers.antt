-- `tables::columns::amax` meets its contract: what is folded is the larger of the sizes.
use Rattle.std.proofs.Common.{rules}
use Rattle.leaves.specs.Numbers.{abs, larger}
use Rattle.leaves.specs.Loops.{amax_to}
use Rattle.tables.proofs.columns.amax.Goals as goal

pub returns : goal.returns
unfolding amax_to
returns c = c.fold.ensures (λ v x. larger v (abs x)) (λ v x y p. search rules)
