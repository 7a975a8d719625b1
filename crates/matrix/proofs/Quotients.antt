-- Over its largest size a finite matrix that is not zero is finite. Assumes nothing.
use mathlib.Core.Path.{◌≡◌, sym, subst}
use mathlib.Core.Bool.{true, false}
use Prim.Native.Nat.{ℕ, ◌*◌, ◌<◌}
use native.Mathlib.Nat.{mul_comm, le_of_eq, le_trans, lt_of_le_of_lt, mul-le-mul_right}
use lib.Dec.{T, lit≤}
use lib.Ieee.{Float, eq, binary64, unlike, fits}
use lib.Ieee.Fits.{div-fits}
use Rattle.leaves.specs.Numbers.{◌⊘◌, zero⁺}
use Rattle.leaves.proofs.Rounding.{Representable, representable_pow, near_most}
use Rattle.leaves.proofs.Units.{Finite, nonzero_pos, U, U-is, Top, pow_under_Top, sign, mag, val_finite, mag_val, rounded_val}
use Rattle.leaves.proofs.Arithmetic.{div_rounded}
use Rattle.matrix.specs.Matrix.{Matrix, amax, all_finite}
use Rattle.matrix.proofs.Finite.{finite_all, amax_finite, amax_entry}

pub quotients_finite : (n : ℕ) (a : Matrix) → ((i j : ℕ) → i < n → j < n → T (fits binary64 (a i j))) → all_finite n n a ≡ true → eq (amax n n a) zero⁺ ≡ false
    → (i j : ℕ) → i < n → j < n → Finite (a i j ⊘ amax n n a)
quotients_finite n a fit all nonzero i j hi hj =
    let x = entry i j hi hj in
    let v = mag_val (a i j) x.0 x.1 in
    let large = amax_finite n n a entry in
    let w = mag_val largest large.0 large.1 in
    let D = nonzero_pos largest large nonzero in (
      div-fits binary64 (a i j) largest,
      rw (div_rounded (a i j) largest (sign (a i j)) (sign largest) (mag (a i j)) (mag largest) v w D)
          (val_finite _ _ _ (rounded_val (unlike (sign (a i j)) (sign largest)) (mag (a i j) * U) (mag largest) D
          (lt_of_le_of_lt (near_most (mag (a i j) * U) (mag largest) U D representable_U (le_trans (mul-le-mul_right U (amax_entry n n a entry i j hi hj)) (le_of_eq (mul_comm (mag largest) U)))) U-below))),
    )
  where
    entry : (i j : ℕ) → i < n → j < n → Finite (a i j)
    entry i j hi hj = (fit i j hi hj, subst T (sym (finite_all n n a all i j hi hj)) tt)

    largest : Float
    largest = amax n n a

    representable_U : Representable U
    representable_U = rw U-is (representable_pow 1074)

    U-below : U < Top
    U-below = rw U-is (pow_under_Top 1074 (lit≤ tt))
