-- `matrix::rotation::turn_both` meets its contract: what its four calls ensure, put together.
use mathlib.Core.Path.{◌≡◌}
use mathlib.Core.List.{List}
use Prim.Native.Nat.{ℕ, ◌+◌, ◌*◌}
use lib.ListN.{set}
use lib.Ieee.{Float, of_bits}
use Rattle.leaves.specs.Numbers.{zero⁺}
use Rattle.matrix.specs.Rotation.{turn_columns, turn_rows, turned_both}
use Rattle.matrix.proofs.rotation.turn_both.Goals as goal

composed : (c s : Float) (n p q : ℕ) (a : List Float) {a₁ a₂ a₃ a₄ : List Float} → a₁ ≡ turn_columns n p q c s a → a₂ ≡ turn_rows n p q c s a₁
    → a₃ ≡ set a₂ (p * n + q) zero⁺ → a₄ ≡ set a₃ (q * n + p) zero⁺ → a₄ ≡ turned_both n p q c s a
composed c s n p q a e₁ e₂ e₃ e₄ = cc

pub returns : goal.returns
unfolding of_bits
returns c = composed _ _ _ _ _ _ c.turn_columns.ensures c.turn_rows.ensures c.put.ensures c.put-2.ensures
