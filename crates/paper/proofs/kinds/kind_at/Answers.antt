-- `paper::kinds::kind_at` meets its contract: the code's table is the definition's, row by row.
use Prim.Native.Nat.{ℕ}
use native.Mathlib.Omega.{arith}
use lib.ListN.{get_or-map}
use Rattle.paper.specs.declared.kinds.Kind.{Kind}
use Rattle.paper.specs.Grammar.{kinds}
use Rattle.paper.specs.Inner.{missing}
use Rattle.paper.proofs.Table.{how_many}
use Rattle.paper.proofs.kinds.kind_at.Goals as goal

pub offset_bounds-i : goal.offset_bounds-i
offset_bounds-i c = omega (arith, how_many)

pub bounds-byte-i : goal.bounds-byte-i
bounds-byte-i c = omega (arith, how_many)

pub bounds-body-i : goal.bounds-body-i
bounds-body-i c = omega (arith, how_many)

pub bounds-most-i : goal.bounds-most-i
bounds-most-i c = omega (arith, how_many)

pub returns : goal.returns
unfolding kinds
returns c = rw (get_or-map {B = ℕ × ℕ × ℕ} (λ (k : Kind). (k.byte, k.body, k.most)) kinds c.args.i missing)
