-- `leaves::root::sqrt` meets its contract: std's square root is the definition's.
use Rattle.std.proofs.Common.{T, sym, subst, ◌∙◌}
use Rattle.leaves.proofs.SqrtStd.{std_sqrt}
use Rattle.leaves.proofs.root.sqrt.Goals as goal

pub returns : goal.returns
returns c = c.sqrt.ensures.value ∙ std_sqrt c.args.x (subst T (sym c.well_formed.0.1) tt)
