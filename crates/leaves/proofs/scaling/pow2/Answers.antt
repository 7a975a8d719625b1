-- `leaves::scaling::pow2` meets its contract: the field k + 1023 with no digits below the leading one is read as 2 ^ k.
use Rattle.std.proofs.Common.{◌≡◌, ℕ, suc, ◌+◌, ◌-◌, ◌*◌, ◌/◌, ◌%◌, ◌^◌, ◌<◌, ◌≤◌, false, eqb, leb, ℤ, pos, negsuc, ◌+ℤ◌, nat_abs, ap, arith, to_z-of_z, w32, SFits, ne_eqb}
use lib.Ieee.{fin, of_bits, is_nan}
use lib.Ieee as Ieee
use lib.Ieee.Bits.{nan_bits_is}
use mir.Facts.{Fits-of_lt}
use borrow.Author.Tests.{lt-leb}
use Rattle.leaves.specs.Numbers.{float}
use Rattle.leaves.specs.Scaling.{pow2}
use Rattle.leaves.proofs.Whole.{pos_part, neg_part, one_side, plus, same}
use Rattle.leaves.proofs.Ints.{le_yes, is_pos, minus_is, fits_i32, read_back}
use Rattle.leaves.proofs.scaling.pow2.Goals as goal
use Rattle.leaves.proofs.scaling.pow2.Goals.{Start}

pow2-bits : (x : ℕ) (k : ℤ) → pos_part k + 1022 ≡ x + neg_part k → x ≤ 2045 → float (suc x * 2 ^ 52 % 2 ^ 64) ≡ fin false 1 k
unfolding of_bits
pow2-bits x k h l =
    let b = suc x * 2 ^ 52 % 2 ^ 64 in
    let e1 : leb (2 ^ 63) b ≡ false = lt-leb (2 ^ 63) b (omega arith) in
    let e2 : b % 2 ^ 63 / 2 ^ 52 ≡ suc x = omega arith in
    let e3 : b % 2 ^ 52 ≡ 0 = omega arith in
    let e4 : eqb (suc x) 2047 ≡ false = ne_eqb (suc x) 2047 (λ q. omega arith) in
    rw (e1, e2, e3, e4) (ap (fin false 1) (same (Ieee.minus (x + 52) 1074) k (omega (arith, minus_is (x + 52) 1074))))

module _ (c : Start) where
  abbrev z : ℤ
  z = c.args.k +ℤ pos 1023

  range : (neg_part z ≡ 0) × (pos_part c.args.k + 1023 ≡ pos_part z + neg_part c.args.k) × (0 < pos_part z) × (pos_part z ≤ 2046)
  unfolding pos_part neg_part
  range = omega (arith, le_yes (negsuc 1021) c.args.k c.requires.low, le_yes c.args.k (pos 1023) c.requires.high, plus c.args.k (pos 1023), one_side z)

  in-i32 : SFits w32 z
  in-i32 = fits_i32 z (omega (arith, range))

  -- what the machine reads of the sum
  read : read_back (read_back c.args.k +ℤ pos 1023) ≡ pos (pos_part z)
  read = rw (to_z-of_z c.ranges.k, to_z-of_z in-i32) (is_pos z range.0)

pub overflow_add-result : goal.overflow_add-result
overflow_add-result c = rw (to_z-of_z c.ranges.k) (in-i32 c)

pub overflow_cast-result : goal.overflow_cast-result
overflow_cast-result c = rw (read c) (tt, Fits-of_lt (omega (arith, range c)))

value : (c : Start) → float (nat_abs (read_back (read_back c.args.k +ℤ pos 1023)) * 2 ^ 52 % 2 ^ 64) ≡ pow2 c.args.k
value c =
    let n : suc (pos_part (z c) - 1) ≡ pos_part (z c) = omega (arith, range c) in
    rw (read c, ← n) (pow2-bits (pos_part (z c) - 1) c.args.k (omega (arith, range c)) (omega (arith, range c)))

pub float_from_bits-result : goal.float_from_bits-result
unfolding is_nan
float_from_bits-result c = rw (nan_bits_is, value c) tt

pub returns : goal.returns
returns c = value c
