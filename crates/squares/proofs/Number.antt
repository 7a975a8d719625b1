-- The pattern of the float nearest to a fraction is no NaN's.
use Prim.Native.Nat.{ℕ, zero, suc, ◌+◌, ◌*◌, ◌^◌}
use mathlib.Core.Bool.{Bool, true, false, not, cond}
use lib.Dec.{T, ltb}
use lib.Ieee.{inf, binary64, round, units, odd, low, emax, prec, is_nan, nan_bits}
use lib.Ieee.Bits.{of_bits-to_bits, nan_bits_is}
use lib.Ieee.Fits.{round_is, round-fits}
use Rattle.squares.specs.Squares.{pattern}

either : (b : Bool) (d q k l : ℕ) → T (not (is_nan (cond b (odd d false q k l) (inf false))))
unfolding odd is_nan
either true d zero k l = tt
either true d (suc q) k l = tt
either false d q k l = tt

units_number : (q k : ℕ) → T (not (is_nan (units binary64 false q k)))
unfolding units
units_number q k = either (ltb (q * 2 ^ k) (2 ^ (low binary64 + suc (emax binary64)))) (suc (prec binary64)) q k (low binary64)

pub pattern_number : (n d : ℕ) → T (not (nan_bits binary64 (pattern n d)))
unfolding pattern
pattern_number n d =
    rw (nan_bits_is, of_bits-to_bits binary64 (round binary64 false n d) (round-fits binary64 false n d), round_is) (units_number _ _)
