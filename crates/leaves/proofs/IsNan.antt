-- Which values and which patterns of bits are NaN, by the tests that the code makes: NaN alone differs from itself, and what is above zero is no NaN; its patterns are those above an infinity's. Assumes nothing.
use Rattle.std.proofs.Common.{◌≡◌, ℕ, ◌%◌, ◌≤◌, true, false, not, T, sym, refl, ap, subst, le-ltb}
use lib.Ieee.{Float, nan, inf, fin, binary64, ne, lt, is_nan, nan_bits}
use lib.Ieee.Bits.{nan_bits_above}
use lib.Ieee.Compare.{differs_from_itself}
use Rattle.leaves.specs.Numbers.{zero⁺}
use Rattle.leaves.proofs.Zero.{no}

pub nan_yes : (x : Float) → ne x x ≡ true → is_nan x ≡ true
unfolding is_nan
nan_yes x t = ap is_nan (differs_from_itself x (subst T (sym t) tt))

pub nan_no : (x : Float) → ne x x ≡ false → is_nan x ≡ false
unfolding is_nan ne
nan_no nan t = t
nan_no (inf s) t = refl
nan_no (fin s m e) t = refl

pub itself_number : (x : Float) → ne x x ≡ false → T (not (is_nan x))
itself_number x h = rw (nan_no x h) tt

pub above_number : (x : Float) → lt zero⁺ x ≡ true → T (not (is_nan x))
unfolding lt is_nan
above_number nan h = no h refl
above_number (inf s) h = tt
above_number (fin s m e) h = tt

pub pattern_number : (n : ℕ) → n % 0x8000_0000_0000_0000 ≤ 0x7FF0_0000_0000_0000 → T (not (nan_bits binary64 n))
pattern_number n h = rw (nan_bits_above binary64 n, le-ltb 0x7FF0_0000_0000_0000 (n % 0x8000_0000_0000_0000) h) tt
