-- Powers of two that document 01's limits on assets and periods do not exceed: a sum over assets, periods or entries of a matrix grows by no more. Assumes nothing.
use Prim.Native.Nat.{ℕ, ◌+◌, ◌*◌, ◌^◌, ◌≤◌}
use native.Mathlib.Nat.{le_trans, le_of_eq, mul-le-mul}
use mathlib.Core.Path.{sym}
use lib.Dec.{lit≤}
use lib.Pow.{pow-add}
use Rattle.matrix.specs.Limits.{max_side}
use Rattle.rules.specs.Order.{max_periods}

abbrev pub side_bits : ℕ
side_bits = 5

pub side_bits_lem : {n : ℕ} → n ≤ max_side → n ≤ 2 ^ side_bits
side_bits_lem few = le_trans few (lit≤ tt)

abbrev pub period_bits : ℕ
period_bits = 12

pub period_bits_lem : {n : ℕ} → n ≤ max_periods → n ≤ 2 ^ period_bits
period_bits_lem few = le_trans few (lit≤ tt)

-- the largest number of half-lives is this power of two itself, so that its product with a half-life is exact
abbrev pub half_life_bits : ℕ
half_life_bits = 6

-- of the entries of a matrix
abbrev pub cell_bits : ℕ
cell_bits = side_bits + side_bits

pub cell_bits_lem : {m n : ℕ} → m ≤ max_side → n ≤ max_side → m * n ≤ 2 ^ cell_bits
cell_bits_lem a b = le_trans (mul-le-mul (side_bits_lem a) (side_bits_lem b)) (le_of_eq (sym (pow-add 2 side_bits side_bits)))
