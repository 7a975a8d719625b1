-- `matrix::symmetric::turn_block` meets its contract: what its calls ensure, put together.
use mathlib.Core.Path.{◌≡◌}
use mathlib.Core.List.{List}
use Prim.Native.Nat.{ℕ, ◌+◌, ◌*◌}
use lib.ListN.{set}
use lib.Ieee.{Float, of_bits}
use Rattle.leaves.specs.Numbers.{◌⊕◌, ◌⊖◌, ◌⊗◌, zero⁺}
use Rattle.matrix.specs.Matrix.{at}
use Rattle.matrix.specs.Inner.{turned_block}
use Rattle.matrix.proofs.symmetric.turn_block.Goals as goal

composed : (c s : Float) (n p q : ℕ) (a : List Float) {x y z w : Float} {a₁ a₂ a₃ a₄ : List Float} → x ≡ at a n p p → y ≡ at a n p q → z ≡ at a n q p → w ≡ at a n q q
    → a₁ ≡ set a (p * n + p) (c ⊗ x ⊖ s ⊗ y) → a₂ ≡ set a₁ (q * n + q) (s ⊗ z ⊕ c ⊗ w) → a₃ ≡ set a₂ (p * n + q) zero⁺ → a₄ ≡ set a₃ (q * n + p) zero⁺ → a₄ ≡ turned_block n p q c s a
composed c s n p q a ex ey ez ew e₁ e₂ e₃ e₄ = cc

pub returns : goal.returns
unfolding of_bits
returns c =
    let g = c in
    composed _ _ _ _ _ g.args.a.now g.get.ensures g.get-2.ensures g.get-3.ensures g.get-4.ensures c.put.ensures c.put-2.ensures c.put-3.ensures c.put-4.ensures
