use Rattle.std.proofs.Common.{◌≡◌, ℕ, ◌≤◌, Bool, List}
use mathlib.Core.Option.{none}
use lib.Ieee.{Float}
use Rattle.leaves.specs.Loops.{first_to, nth}
use Rattle.rules.specs.Sample.{is_constant}
use Rattle.covariances.proofs.sample.constant_returns.Given as goal

abbrev pub constant : List Float → List Float → ℕ → Bool
constant volatilities sizes i = is_constant (nth volatilities i) (nth sizes i)

abbrev pub invariant-loop-i : goal.invariant-loop-i
invariant-loop-i l = (l.i ≤ l.n) × (first_to l.i (constant l.volatilities l.sizes) ≡ none)
