-- `leaves::logarithm::between01` meets its contract: the second test is made where the first holds.
use Rattle.std.proofs.Common.{◌≡◌, true, false}
use lib.Ieee.{Float, lt, of_bits}
use Rattle.leaves.specs.Numbers.{zero⁺, one}
use Rattle.leaves.specs.Log.{between01}
use Rattle.leaves.proofs.logarithm.between01.Goals as goal

module _ (x : Float) where
  above : lt zero⁺ x ≡ true → lt x one ≡ between01 x
  unfolding between01
  above h = rw h

  not_above : lt zero⁺ x ≡ false → lt zero⁺ x ≡ between01 x
  unfolding between01
  not_above h = rw h

pub returns-then-x : goal.returns-then-x
unfolding of_bits
returns-then-x c = above c.args.x c.if-x.true

pub returns-else-x : goal.returns-else-x
unfolding of_bits
returns-else-x c = not_above c.args.x c.if-x.false
