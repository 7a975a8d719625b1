-- Document 02, "Paper 1. Decay factors in the syllabus": the stand-in for the natural log of a number above 0 and below 1. Definitions only.
use Rattle.std.specs.Prelude.{ℕ, zero, suc, ◌+◌, ◌*◌, Bool, false, cond, ◌&&◌, ℤ, pos, negsuc, ◌+ℤ◌, neg_ℤ, Float}
use Rattle.std.specs.Float.{nan, fin, binary64}
use Rattle.std.specs.Float.Ieee.{lt, of_int}
use Rattle.leaves.specs.Numbers.{◌⊕◌, ◌⊖◌, ◌⊗◌, ◌⊘◌, count, zero⁺, one, two}
use Rattle.leaves.specs.Scaling.{binary_exponent, pow2_scaled}
use Rattle.leaves.specs.Exp.{H, L}

-- q = 1 / j + z q, for odd j from 2 n - 1 down to 1
unfoldable pub series : Float → ℕ → Float → Float
series z zero q = q
series z (suc n) q = series z n (one ⊘ count (2 * n + 1) ⊕ z ⊗ q)

-- ln (m 2 ^ e): ln m = 2 s (1 + s² / 3 + s⁴ / 5 + .. + s²⁴ / 25), and ln 2 = H + L
unfoldable pub ln_of : Float → ℤ → Float
ln_of m e =
    let s = (m ⊖ one) ⊘ (m ⊕ one) in
    let q = series (s ⊗ s) 12 (one ⊘ count 25) in
    let k = of_int binary64 e in
    k ⊗ L ⊕ two ⊗ s ⊗ q ⊕ k ⊗ H

-- 3/2
abbrev pub max_scaled : Float
max_scaled = fin false 3 (negsuc 0)

-- an m above 3/2 is halved
unfoldable pub ln_scaled : Float → ℤ → Float
ln_scaled m e = cond (lt max_scaled m) (ln_of (m ⊘ two) (e +ℤ pos 1)) (ln_of m e)

unfoldable pub between01 : Float → Bool
between01 x = lt zero⁺ x && lt x one

-- for x above 0 and below 1; NaN elsewhere
unfoldable pub ln : Float → Float
ln x = cond (between01 x) (ln_scaled (pow2_scaled x (neg_ℤ (binary_exponent x))) (binary_exponent x)) nan
