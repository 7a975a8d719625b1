-- `paper::reading::copy_kind` meets its contract: the kind's numbers lie in the slice, where the counts before it end.
use native.Mathlib.Omega.{arith}
use Rattle.paper.proofs.Pieces.{piece_in, kind_copied}
use Rattle.paper.proofs.reading.copy_kind.Goals as goal

pub overflow_add-from : goal.overflow_add-from
overflow_add-from c = omega (arith, piece_in c.args.counts c.place-p.result (omega arith))

pub offset_bounds-numbers-from : goal.offset_bounds-numbers-from
offset_bounds-numbers-from c = omega (arith, piece_in c.args.counts c.place-p.result (omega arith))

pub slice_bounds-copy_from_slice-end-3 : goal.slice_bounds-copy_from_slice-end-3
slice_bounds-copy_from_slice-end-3 c = omega (arith, piece_in c.args.counts c.place-p.result (omega arith))

pub returns : goal.returns
returns c =
    let a = c.args in
    rw (c.copy_from_slice.ensures.after, ← c.place-p.ensures.is_place)
    (kind_copied a.counts a.numbers.now c.place-p.result c.start-from.result a.to.now c.start-from.ensures (omega (arith, piece_in a.counts c.place-p.result (omega arith))))
