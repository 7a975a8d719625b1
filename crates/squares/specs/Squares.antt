-- The table of squares: for each of 129 numbers, the whole number nearest to its root, that whole number's square, and half its reciprocal, as the patterns
-- of floats. Definitions only.
use Rattle.std.specs.Prelude.{ℕ, zero, suc, ◌+◌, ◌-◌, ◌*◌, ◌^◌, min, false, cond, ltb}
use Rattle.std.specs.Float.{binary64}
use Rattle.std.specs.Float.Ieee.{round, to_bits}

-- number i: from 2 ^ 25 to 2 ^ 26 in 64 equal steps, and from there to 2 ^ 27 in 64 more; past the last, as the last
unfoldable pub number : ℕ → ℕ
number i = 2 ^ 25 + min i 64 * 2 ^ 19 + (min i 128 - 64) * 2 ^ 20

-- the largest m from n to n + 2 ^ d - 1 with m * m - m < z, digit by digit
unfoldable pub largest : ℕ → ℕ → ℕ → ℕ
largest zero z n = n
largest (suc d) z n = let m = n + 2 ^ d in largest d z (cond (ltb (m * m - m) z) m n)

-- The whole number nearest to the root of number i: the largest m, below 2 ^ 14, with m - 1 / 2 below that root. So (m - 1 / 2) ^ 2 is below the number,
-- which among whole numbers says that m * m - m is.
unfoldable pub near : ℕ → ℕ
near i = largest 14 (number i) 0

-- the pattern of the float nearest to n / d
unfoldable pub pattern : ℕ → ℕ → ℕ
pattern n d = to_bits binary64 (round binary64 false n d)

abbrev pub root : ℕ → ℕ
root i = pattern (near i) 1

abbrev pub square : ℕ → ℕ
square i = pattern (near i ^ 2) 1

abbrev pub half_reciprocal : ℕ → ℕ
half_reciprocal i = pattern 1 (2 * near i)
