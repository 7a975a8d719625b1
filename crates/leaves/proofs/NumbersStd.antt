-- std's size and sign of a number are the definitions': both go by the same cases. Assumes nothing.
use Rattle.std.proofs.Common.{◌≡◌, false, refl}
use Rattle.std.specs.Float.{Float, nan, inf, fin, float_with_sign, float_signum}
use Rattle.leaves.specs.Numbers.{abs, signum}

pub std_abs : (x : Float) → float_with_sign false x ≡ abs x
unfolding float_with_sign abs
std_abs nan = refl
std_abs (inf s) = refl
std_abs (fin s m e) = refl

pub std_signum : (x : Float) → float_signum x ≡ signum x
unfolding float_signum signum
std_signum nan = refl
std_signum (inf s) = refl
std_signum (fin s m e) = refl
