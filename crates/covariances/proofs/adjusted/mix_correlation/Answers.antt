-- `covariances::adjusted::mix_correlation` meets its contract: what its calls ensure, put together.
use Rattle.matrix.specs.Matrix.{at}
use Rattle.rules.specs.LedoitWolf.{constant_correlation}
use Rattle.rules.specs.Adjusted.{weighted_target, mixed}
use Rattle.covariances.proofs.adjusted.mix_correlation.Goals as goal

pub returns : goal.returns
unfolding mixed weighted_target
returns c = let a = c.args in c.mix.ensures (constant_correlation a.n (at a.b.now a.n)) c.put_constant_correlation.ensures
