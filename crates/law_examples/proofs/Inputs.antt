-- The inputs of the pairs of `Pairs`: two assets in three periods, returns 0 or of one size, at the lower end of the
-- range and at the upper, which is 2^max_power times it.
use mathlib.Core.Path.{refl}
use mathlib.Core.Bool.{true, false}
use mathlib.Core.List.{List, [], ◌∷◌}
use lib.IntN.{ℤ, pos, neg_ℤ}
use lib.Ieee.{Float, fin}
use Rattle.leaves.specs.Numbers.{float, zero⁺, one}
use Rattle.examples.proofs.Evaluated.{evaluated}
use Rattle.law.specs.Law.{Question, Input, All, Each, Copy, Sized, return_range, covariance_range, max_power}

-- ---- the ends of the ranges
-- of returns and thresholds
abbrev pub low_return : ℤ
low_return = neg_ℤ (pos return_range)

abbrev pub high_return : ℤ
high_return = pos return_range

-- of given entries and regularization
abbrev pub low_covariance : ℤ
low_covariance = neg_ℤ (pos covariance_range)

abbrev pub high_covariance : ℤ
high_covariance = pos covariance_range

-- ---- the inputs
-- rows (0, -2^e), (2^e, 0), (0, 0)
abbrev pub returns : ℤ → List Float
returns e = zero⁺ ∷ fin true 1 e ∷ fin false 1 e ∷ zero⁺ ∷ zero⁺ ∷ zero⁺ ∷ []

-- the decay factor 0.94, as the nearest float
abbrev pub factor : Float
factor = float 0x3FEE_147A_E147_AE14

-- a matrix to be given
abbrev pub matrix : ℤ → List Float
matrix e = fin false 1 e ∷ fin false 1 e ∷ fin false 1 e ∷ fin false 1 e ∷ []

-- the answer slice is longer than any answer
abbrev input : ℤ → Question → Input
input e q = record { returns = returns e; assets = 2; periods = 3; question = q; slice = zero⁺ ∷ zero⁺ ∷ zero⁺ ∷ zero⁺ ∷ one ∷ [] }

abbrev pub low : Question → Input
low q = input low_return q

abbrev pub high : Question → Input
high q = input high_return q

-- ---- what the inputs of a pair have, whatever their questions
pub low_returns : All (Sized return_range) (returns low_return)
unfolding evaluated
low_returns = (tt, (tt, (tt, (tt, (tt, (tt, tt))))))

pub high_returns : All (Sized return_range) (returns high_return)
unfolding evaluated
high_returns = (tt, (tt, (tt, (tt, (tt, (tt, tt))))))

pub copies : Each (Copy (pos max_power)) (returns low_return) (returns high_return)
unfolding evaluated
copies = ((refl, refl), ((refl, refl), ((refl, refl), ((refl, refl), ((refl, refl), ((refl, refl), tt))))))
