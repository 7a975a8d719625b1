-- `matrix::entries::amax` meets its contract: the numbers of the slice are the entries, row by row.
use mathlib.Core.Path.{◌≡◌, sym, ap, ◌∙◌}
use mathlib.Core.List.{List}
use Prim.Native.Nat.{ℕ, ◌*◌, ◌/◌, ◌%◌}
use lib.ListN.{length}
use lib.Ieee.{Float}
use Rattle.leaves.specs.Loops.{amax_to, nth}
use Rattle.leaves.proofs.Loops.{amax_ext}
use Rattle.matrix.specs.Matrix.{at, amax}
use Rattle.matrix.proofs.Stored.{entry_at}
use Rattle.matrix.proofs.entries.amax.Goals as goal

by_rows : (a : List Float) (m n : ℕ) {x : Float} → x ≡ amax_to (length a) (nth a) → length a ≡ m * n → x ≡ amax m n (at a n)
unfolding amax
by_rows a m n e l = e ∙ ap (λ (k : ℕ). amax_to k (nth a)) l ∙ amax_ext (m * n) (nth a) (λ k. at a n (k / n) (k % n)) (λ k h. sym (entry_at a n k))

pub returns : goal.returns
returns c = let a = c.args in by_rows a.a.now a.m a.n c.amax.ensures c.requires
