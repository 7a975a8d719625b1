-- `leaves::numbers::float` meets its contract: the patterns above an infinity's are those of NaN.
use Rattle.std.proofs.Common.{◌≡◌, ℕ, ◌%◌, ◌<◌, true, sym, refl, ◌∙◌, lt-ltb}
use lib.Ieee.{Float, nan, inf, fin, binary64, div, of_bits, is_nan}
use lib.Ieee.Bits.{nan_bits_is, nan_bits_above}
use Rattle.leaves.specs.Numbers.{float}
use Rattle.leaves.proofs.Zero.{no}
use Rattle.leaves.proofs.IsNan.{pattern_number}
use Rattle.leaves.proofs.numbers.float.Goals as goal

nan_pattern : (n : ℕ) → 0x7FF0_0000_0000_0000 < n % 0x8000_0000_0000_0000 → nan ≡ float n
unfolding is_nan
nan_pattern n h = sym (is-nan (float n) (sym (nan_bits_is binary64 n) ∙ nan_bits_above binary64 n ∙ lt-ltb _ _ h))
  where
    is-nan : (x : Float) → is_nan x ≡ true → x ≡ nan
    is-nan nan e = refl
    is-nan (inf s) e = no e refl
    is-nan (fin s m d) e = no e refl

pub float_from_bits-result : goal.float_from_bits-result
float_from_bits-result c = pattern_number _ c.if-bits-gt9218868437227405312.false

pub returns-then-bits-gt9218868437227405312 : goal.returns-then-bits-gt9218868437227405312
unfolding div of_bits
returns-then-bits-gt9218868437227405312 c = nan_pattern _ c.if-bits-gt9218868437227405312.true
