-- `writer::calls::record_kept` meets its contract: where the given entries are looked at, the shape is kept.
use mathlib.Core.Path.{sym, ◌∙◌, subst}
use lib.Dec.{T}
use Rattle.writer.proofs.Kept.{assets_kept}
use Rattle.writer.proofs.calls.record_kept.Goals as goal
use Rattle.writer.proofs.calls.record_kept.Goals.{then-shape_kept, else-shape_kept}

pub given_kept-requires : goal.given_kept-requires
given_kept-requires c = elim c.if-shape_kept.branch [
  | then-shape_kept w ↦ assets_kept _ (sym c.shape_kept.ensures ∙ w.if-shape_kept.true)
  | else-shape_kept w ↦ absurd (subst T (sym c.if-limit_kept.true ∙ w.value-is ∙ w.if-shape_kept.false) tt)
]
