-- What `search` is handed, beside `rules`, where a function lends a part of an array of the largest size: the part has the length asked for, the n and the
-- n × n numbers of n assets have room, n × n fits a usize, and a list of n numbers or a table of n × n is that long.
-- And what a part holds of an array that holds one number everywhere (`part_at`). Assumes nothing.
use mathlib.Core.Path.{◌≡◌, ◌∙◌}
use mathlib.Core.List.{List}
use Prim.Native.Nat.{ℕ, ◌*◌, ◌≤◌, ◌<◌}
use native.Mathlib.Omega.{arith}
use lib.ListN.{length, get_or, take, replicate, get_or-replicate}
use lib.Seq.{length-take-le, get_or-take}
use lib.Ieee.{Float}
use mir.Syntax.{w64}
use mir.Val.{Fits}
use mir.Facts.{Fits-below}
use borrow.Author.Rules.{rules}
use Rattle.leaves.proofs.Lists.{tab_long}
use Rattle.matrix.specs.Limits.{max_side}
use Rattle.matrix.proofs.Counts.{square_most}
use Rattle.matrix.proofs.OfStored.{rows_long}

pub vector_room : {n : ℕ} (l : List Float) → length l ≡ max_side → n ≤ max_side → n ≤ length l
vector_room l e h = omega arith

pub table_room : {n : ℕ} (l : List Float) → length l ≡ max_side * max_side → n ≤ max_side → n * n ≤ length l
table_room l e h = omega (arith, square_most h)

pub square_fits : (n : ℕ) → n ≤ max_side → Fits w64 (n * n)
square_fits n h = Fits-below tt (square_most h)

pub ruleset lent = (rules, length-take-le, vector_room, table_room, square_most, square_fits, tab_long, rows_long)

-- a part of an array that holds x everywhere
pub part_at : {A : Type 0} (x : A) (m n : ℕ) → n ≤ m → (d : A) (i : ℕ) → i < n → get_or (take n (replicate m x)) i d ≡ x
part_at x m n h d i l = get_or-take n (replicate m x) i d l ∙ get_or-replicate m i x d (omega arith)
