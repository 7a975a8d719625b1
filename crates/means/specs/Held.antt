-- What only the contracts of inner functions cite: what the moments record of the code, with arrays of the largest size, holds
-- (document 01, "Records"). Definitions only.
use Rattle.std.specs.Prelude.{◌*◌, take}
use Rattle.rules.specs.Moments.{Moments, moments_of}
use Rattle.means.specs.declared.moments.Moments as Stored

-- of n assets, the first n numbers of the mean vector and the first n × n of the covariance
abbrev pub held : Stored.Moments → Moments
held m = moments_of (take m.n m.mean) (take (m.n * m.n) m.covariance) m.periods
