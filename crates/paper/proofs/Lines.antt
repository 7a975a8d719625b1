-- Laws of `specs/Answer.antt`: the lines that a loop has left to write. Assumes nothing.
use mathlib.Core.Path.{◌≡◌, refl}
use mathlib.Core.List.{List, [], ◌++◌}
use Prim.Native.Nat.{ℕ, zero, suc, ◌+◌, ◌/◌, ◌%◌, ◌≤◌, ◌<◌, suc-le-suc, zero-le}
use native.Mathlib.Numerals.{add-one}
use native.Mathlib.Omega.{arith}
use lib.ListN.{length, drop, get_or, drop_of_length-le}
use lib.Seq.{drop-cons}
use lib.Ieee.{Float}
use Rattle.paper.specs.Answer.{line_text, lines_text}

-- where there are entries there are columns
pub some_columns : (c n k : ℕ) → (c ≡ 0 → n ≡ 0) → k < n → 0 < c
some_columns zero n k h l = let e : n ≡ 0 = h refl in omega arith
some_columns (suc c) n k h l = suc-le-suc zero-le

pub lines_more : (c k : ℕ) (xs : List Float) (z : Float) → k < length xs → lines_text c k (drop k xs) ≡ line_text (k / c) (k % c) (get_or xs k z) ++ lines_text c (k + 1) (drop (k + 1) xs)
unfolding lines_text
lines_more c k xs z h = rw (add-one, drop-cons xs k z h)

pub lines_none : (c k : ℕ) (xs : List Float) → length xs ≤ k → lines_text c k (drop k xs) ≡ []
unfolding lines_text
lines_none c k xs h = rw (drop_of_length-le xs h)
