-- Column products are symmetric to the last bit: a product of two floats commutes, and both entries add the same products in the same order. Assumes nothing.
use mathlib.Core.Path.{◌≡◌}
use Prim.Native.Nat.{ℕ}
use Rattle.leaves.proofs.Loops.{sum_ext}
use Rattle.leaves.proofs.Commutative.{⊗-comm}
use Rattle.matrix.specs.Matrix.{Matrix}
use Rattle.rules.specs.Sample.{gram}

pub gram_symmetric : (T : ℕ) (x : Matrix) (i j : ℕ) → gram T x i j ≡ gram T x j i
unfolding gram
gram_symmetric T x i j = sum_ext T _ _ (λ t h. ⊗-comm (x t i) (x t j))
