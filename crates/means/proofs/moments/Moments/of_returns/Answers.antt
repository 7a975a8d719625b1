-- `means::moments::Moments::of_returns` meets its contract: `put_moments`, in arrays of the largest size.
use Rattle.std.proofs.Common.{refl}
use Rattle.covariances.proofs.Samples.{moments_held}
use Rattle.means.proofs.moments.Moments.of_returns.Goals as goal

pub returns : goal.returns
returns c = let e = c.put_moments.ensures in (refl, moments_held _ _ _ _ _ _ _ _ e.0 e.1 c.nearest_u64_to_f64.ensures)
