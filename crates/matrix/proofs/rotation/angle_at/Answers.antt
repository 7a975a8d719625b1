-- `matrix::rotation::angle_at` meets its contract: what its calls ensure, put together.
use Rattle.std.proofs.Common.{◌≡◌, true, false, ℕ, List, Some, None}
use lib.Ieee.{Float, eq, of_bits}
use Rattle.leaves.specs.Numbers.{◌⊕◌, ◌⊗◌, ◌⊘◌, zero⁺, one}
use Rattle.leaves.specs.Root.{sqrt}
use Rattle.matrix.specs.Matrix.{at}
use Rattle.matrix.specs.Rotation.{tangent_at}
use Rattle.matrix.specs.Inner.{angle_at}
use Rattle.matrix.proofs.rotation.angle_at.Goals as goal

module _ (n p q : ℕ) (a : List Float) {y : Float} (ey : y ≡ at a n p q) where
  zero_entry : eq y zero⁺ ≡ true → None ≡ angle_at n p q a
  unfolding angle_at
  zero_entry h = rw (angle_at, rw ey at h)

  angle : eq y zero⁺ ≡ false → {t r : Float} → t ≡ tangent_at n p q a → r ≡ sqrt (t ⊗ t ⊕ one) → Some (one ⊘ r, t ⊗ (one ⊘ r)) ≡ angle_at n p q a
  unfolding angle_at
  angle h et er = rw (angle_at, rw ey at h, er, et)

pub returns-then-get : goal.returns-then-get
unfolding of_bits
returns-then-get c = zero_entry _ _ _ _ c.get.ensures c.if-get.true

pub returns : goal.returns
unfolding of_bits
returns c = angle _ _ _ _ c.get.ensures c.if-get.false c.tangent_at-t.ensures c.sqrt-c.ensures
