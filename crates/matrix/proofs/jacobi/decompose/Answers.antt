-- `matrix::jacobi::decompose` meets its contract: `decompose_in`, in an array of the largest size.
use mathlib.Core.Path.{sym}
use lib.Seq.{length-take-le}
use Rattle.matrix.proofs.Counts.{square_most}
use Rattle.matrix.proofs.jacobi.decompose.Goals as goal

pub slice_bounds-work-end : goal.slice_bounds-work-end
slice_bounds-work-end c = square_most c.requires.0

pub slice_bounds-decompose_in-end : goal.slice_bounds-decompose_in-end
slice_bounds-decompose_in-end c = sym (length-take-le _ _ (square_most c.requires.0))

pub decompose_in-requires : goal.decompose_in-requires
decompose_in-requires c = let p = c.requires in (p.0, p.1, p.2, length-take-le _ _ (square_most p.0), p.3, p.4)
