-- `covariances::decay::log_decay` meets its contract, by the cases of the decay.
use Rattle.rules.specs.Weighted.{log_decay}
use Rattle.covariances.proofs.decay.log_decay.Goals as goal

pub returns-in-HalfLife : goal.returns-in-HalfLife
unfolding log_decay
returns-in-HalfLife c = rw c.in-HalfLife.is

pub returns-in-Lambda : goal.returns-in-Lambda
unfolding log_decay
returns-in-Lambda c = rw c.in-Lambda.is c.ln.ensures
