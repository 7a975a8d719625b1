-- What the machine reads of the step that `cut` gives of k, and of what is left of k after it: each is the number itself. Assumes nothing.
use Rattle.std.proofs.Common.{◌≡◌, ◌^◌, ◌<◌, ℤ, ◌-ℤ◌, ap, ◌∙◌, arith, to_z-of_z, w32, SFits}
use lib.Signed.{mag}
use Rattle.leaves.specs.Scaling.{cut}
use Rattle.leaves.proofs.Whole.{one_side, minus}
use Rattle.leaves.proofs.Ints.{fits_i32, i32_fits, back_i32, read_back}
use Rattle.leaves.proofs.ScaleSteps.{cut_range}

-- k - cut k is an i32
apart : (k : ℤ) → SFits w32 k → SFits w32 (k -ℤ cut k)
apart k h = fits_i32 (k -ℤ cut k) (omega (arith, minus k (cut k), cut_range k, i32_fits k h, one_side (k -ℤ cut k)))

module _ (k s : ℤ) (fk : SFits w32 k) (fs : mag s < 2 ^ 31) (is_cut : s ≡ cut (read_back k)) where
  pub cut_is : s ≡ cut k
  cut_is = is_cut ∙ ap cut (to_z-of_z fk)

  pub step_read : read_back s ≡ cut k
  step_read = back_i32 s fs ∙ cut_is

  left_is : read_back k -ℤ read_back s ≡ k -ℤ cut k
  left_is = rw (to_z-of_z fk, step_read)

  pub left_fits : SFits w32 (read_back k -ℤ read_back s)
  left_fits = rw left_is (apart k fk)

  pub left_read : read_back (read_back k -ℤ read_back s) ≡ k -ℤ cut k
  left_read = to_z-of_z left_fits ∙ left_is
