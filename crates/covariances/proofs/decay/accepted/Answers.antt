-- `covariances::decay::accepted` meets its contract: the second test is made where the first holds.
use Rattle.std.proofs.Common.{◌≡◌, true, false}
use lib.Ieee.{Float, lt, le, of_bits}
use Rattle.leaves.specs.Numbers.{zero⁺}
use Rattle.rules.specs.Weighted.{min_log_decay, accepted}
use Rattle.covariances.proofs.decay.accepted.Goals as goal

module _ (l : Float) where
  not_below : le min_log_decay l ≡ true → lt l zero⁺ ≡ accepted l
  unfolding accepted
  not_below h = rw h

  below : le min_log_decay l ≡ false → le min_log_decay l ≡ accepted l
  unfolding accepted
  below h = rw h

pub returns-then-l : goal.returns-then-l
unfolding of_bits
returns-then-l c = not_below c.args.l c.if-l.true

pub returns-else-l : goal.returns-else-l
unfolding of_bits
returns-else-l c = below c.args.l c.if-l.false
