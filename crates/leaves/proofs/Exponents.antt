-- Sizes of the exponents that the code adds and negates: b(x) of an f64 is at most 1074 in size, and what is made of a few such numbers
-- is an i32. Assumes nothing.
use Rattle.std.proofs.Common.{◌≡◌, zero, suc, ◌+◌, ◌-◌, ◌^◌, ◌<◌, ◌≤◌, true, T, ℤ, pos, negsuc, ◌+ℤ◌, ◌-ℤ◌, neg_ℤ, nat_abs, sym, ◌∙◌, subst, arith, to_z-of_z, w32, SFits}
use lib.IntN.{+ℤ_idl}
use lib.Ieee.{Float, nan, inf, fin, binary64, fits, size}
use Rattle.leaves.specs.Scaling.{binary_exponent}
use Rattle.leaves.proofs.Whole.{pos_part, neg_part, one_side, plus, pos_part_neg, neg_part_neg}
use Rattle.leaves.proofs.Ints.{fits_i32, back_i32, read_back}
use Rattle.leaves.proofs.Laws.{fits→room}

-- the size, by the two parts of a whole number
pub size_is : (z : ℤ) → nat_abs z ≡ pos_part z + neg_part z
unfolding pos_part neg_part
size_is (pos k) = omega arith
size_is (negsuc k) = omega arith

pub size_neg : (z : ℤ) → nat_abs (neg_ℤ z) ≡ nat_abs z
size_neg z = omega (arith, size_is z, size_is (neg_ℤ z), pos_part_neg z, neg_part_neg z)

pub size_plus : (y z : ℤ) → nat_abs (y +ℤ z) ≤ nat_abs y + nat_abs z
size_plus y z = omega (arith, size_is y, size_is z, size_is (y +ℤ z), plus y z, one_side (y +ℤ z))

pub size_minus : (y z : ℤ) → nat_abs (y -ℤ z) ≤ nat_abs y + nat_abs z
size_minus y z = omega (arith, size_plus y (neg_ℤ z), size_neg z)

size_fits : (z : ℤ) → nat_abs z < 2 ^ 31 → SFits w32 z
size_fits z h = fits_i32 z (omega (arith, size_is z))

-- b(x): from -1074, of the least number, to 1024, of an infinity and NaN
pub exponent_size : (x : Float) → fits binary64 x ≡ true → nat_abs (binary_exponent x) ≤ 1074
unfolding binary_exponent pos_part neg_part
exponent_size nan t = omega arith
exponent_size (inf s) t = omega arith
exponent_size (fin s zero e) t = omega arith
exponent_size (fin s (suc m) e) t =
    let r = fits→room s m e (subst T (sym t) tt) in
    let b = pos (size (suc m) - 1) in
    omega (arith, size_is (b +ℤ e), plus b e, one_side (b +ℤ e))

-- what the machine reads back of z, and of -z
module _ (z : ℤ) (h : nat_abs z < 2 ^ 31) where
  pub read : read_back z ≡ z
  read = back_i32 z (size_fits z h).sfits

  pub neg_fits : SFits w32 (pos 0 -ℤ read_back z)
  neg_fits = rw (read, +ℤ_idl (neg_ℤ z)) (size_fits (neg_ℤ z) (omega (arith, size_neg z)))

  pub neg_read : read_back (pos 0 -ℤ read_back z) ≡ neg_ℤ z
  neg_read = to_z-of_z neg_fits ∙ rw (read, +ℤ_idl (neg_ℤ z))

-- and of y + z, y - z and -y - z
module _ (y z : ℤ) (h : nat_abs y + nat_abs z < 2 ^ 31) where
  pub plus_fits : SFits w32 (read_back y +ℤ read_back z)
  plus_fits = rw (read y (omega arith), read z (omega arith)) (size_fits (y +ℤ z) (omega (arith, size_plus y z)))

  pub plus_read : read_back (read_back y +ℤ read_back z) ≡ y +ℤ z
  plus_read = to_z-of_z plus_fits ∙ rw (read y (omega arith), read z (omega arith))

  pub minus_fits : SFits w32 (read_back y -ℤ read_back z)
  minus_fits = rw (read y (omega arith), read z (omega arith)) (size_fits (y -ℤ z) (omega (arith, size_minus y z)))

  pub minus_read : read_back (read_back y -ℤ read_back z) ≡ y -ℤ z
  minus_read = to_z-of_z minus_fits ∙ rw (read y (omega arith), read z (omega arith))

  pub both_fits : SFits w32 (read_back (pos 0 -ℤ read_back y) -ℤ read_back z)
  both_fits = rw (neg_read y (omega arith), read z (omega arith)) (size_fits (neg_ℤ y -ℤ z) (omega (arith, size_minus (neg_ℤ y) z, size_neg y)))

  pub both_read : read_back (read_back (pos 0 -ℤ read_back y) -ℤ read_back z) ≡ neg_ℤ y -ℤ z
  both_read = to_z-of_z both_fits ∙ rw (neg_read y (omega arith), read z (omega arith))
