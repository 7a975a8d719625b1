-- `covariances::ledoit_wolf::to_correlation` meets its contract: what its calls ensure, put together.
use Rattle.matrix.specs.Matrix.{at}
use Rattle.rules.specs.LedoitWolf.{target, squared_distance}
use Rattle.rules.specs.declared.Target.TheVariants.{ConstantCorrelation}
use Rattle.covariances.proofs.LedoitWolf.{intensity_is, correlation_error}
use Rattle.covariances.proofs.ledoit_wolf.to_correlation.Goals as goal

pub returns : goal.returns
unfolding squared_distance target
returns c =
    let γ = c in
    let F = γ in
    let r = F in
    let v = r in
    let a = v.args in
    let s = at a.s.now a.n in
    λ z eπ eθ. intensity_is ConstantCorrelation a.periods a.n z s
    (γ.squared_distance-gamma.ensures (target ConstantCorrelation a.n s) F.put_constant_correlation.ensures)
    (correlation_error a.periods a.n z s eπ c.total.ensures v.put_volatilities.ensures r.average_correlation-r.ensures eθ c.target_covariation.ensures)
    c.intensity.ensures
