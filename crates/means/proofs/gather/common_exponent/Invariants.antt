use Rattle.std.proofs.Common.{◌≡◌, ℕ, List, ℤ, neg_ℤ}
use mathlib.Core.Option.{Option, none}
use lib.Ieee.{Float}
use Rattle.leaves.specs.Loops.{loop, nth}
use Rattle.rules.specs.BayesStein.{with_exponent, exponent_at}
use Rattle.means.specs.Gather.{largest_of, WithinTwoExponents}
use Rattle.means.proofs.gather.common_exponent.Given as goal

abbrev pub step : List Float → List ℤ → ℕ → Option ℤ → Option ℤ
step xs exponents i found = with_exponent found (nth xs i) (neg_ℤ (exponent_at exponents i))

abbrev pub invariant-loop-i : goal.invariant-loop-i
invariant-loop-i l = (largest_of l.largest ≡ loop l.i (step l.xs l.exponents) none) × WithinTwoExponents (largest_of l.largest)
