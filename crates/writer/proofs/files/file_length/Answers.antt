-- `writer::files::file_length` meets its contract. The invariant: the bytes of the kinds passed, with those of the kinds that are left, are all of them.
use mathlib.Core.Path.{◌≡◌}
use mathlib.Core.List.{List}
use Prim.Native.Nat.{ℕ, ◌+◌, ◌*◌, ◌≤◌, ◌<◌}
use native.Mathlib.Omega.{arith}
use lib.ListN.{length, drop, get_or}
use Rattle.paper.specs.declared.kinds.Kind.{Kind}
use Rattle.paper.specs.Inner.{missing}
use Rattle.paper.specs.Grammar.{kinds}
use Rattle.paper.proofs.Table.{how_many, small_body}
use Rattle.writer.specs.Files.{length_of}
use Rattle.writer.proofs.Left.{length_more, length_all}
use Rattle.writer.proofs.files.file_length.Goals as goal

pub kind_at-k-requires : goal.kind_at-k-requires
kind_at-k-requires c = omega (arith, how_many)

-- with the bytes of one kind more
one_more : (k : Kind) (cs : List ℕ) (i s : ℕ) → k ≡ get_or kinds i missing → s + length_of (drop i kinds) (drop i cs) ≡ length_of kinds cs → i < 12 → i < length cs
    → s + get_or cs i 0 * (k.body + 1) + length_of (drop (i + 1) kinds) (drop (i + 1) cs) ≡ length_of kinds cs
one_more k cs i s e passed h l = rw e (length_more kinds cs i s passed (omega (arith, how_many)) l)

pub overflow_add-s : goal.overflow_add-s
overflow_add-s c =
    let small : c.kind_at-k.result.body ≤ 8 = rw c.kind_at-k.ensures (small_body c.loop-i.i (omega (arith, how_many))) in
    omega arith

pub overflow_mul-s : goal.overflow_mul-s
overflow_mul-s c = let l = c.loop-i in omega (arith, one_more _ c.args.counts l.i l.s c.kind_at-k.ensures l.invariant (omega arith) (omega arith))

pub overflow_add-s-in-loop-i : goal.overflow_add-s-in-loop-i
overflow_add-s-in-loop-i c = let l = c.loop-i in omega (arith, one_more _ c.args.counts l.i l.s c.kind_at-k.ensures l.invariant (omega arith) (omega arith))

pub loop-i-preserved : goal.loop-i-preserved
loop-i-preserved c = let l = c.loop-i in one_more _ c.args.counts l.i l.s c.kind_at-k.ensures l.invariant (omega arith) (omega arith)

pub returns : goal.returns
returns c =
    let l = c.loop-i in
    length_all kinds c.args.counts l.i l.s l.invariant (omega (arith, how_many))
