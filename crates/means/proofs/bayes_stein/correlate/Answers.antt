-- `means::bayes_stein::correlate` meets its contract: the correlations by the volatilities are those of the definition.
use Rattle.std.proofs.Common.{◌≡◌, ℕ, Bool, not, List, ap, ◌∙◌}
use lib.Ieee.{Float}
use Rattle.leaves.specs.Loops.{tab, nth}
use Rattle.matrix.specs.Matrix.{Matrix, at, rows}
use Rattle.matrix.proofs.Stored.{rows_ext}
use Rattle.rules.specs.Sample.{volatility, correlation_by, correlation}
use Rattle.rules.specs.Refusals.{when}
use Rattle.rules.specs.declared.Refusal.TheVariants.{Singular}
use Rattle.rules.proofs.Firsts.{first_alone, head_refuses, head_passes}
use Rattle.inputs.proofs.Refused.{refused}
use Rattle.covariances.proofs.Samples.{correlation_stored}
use Rattle.means.proofs.bayes_stein.correlate.Goals as goal

correlated : (n : ℕ) (Σ : Matrix) (v out : List Float) → v ≡ tab n (volatility Σ) → out ≡ rows n n (correlation_by (nth v) Σ) → out ≡ rows n n (correlation Σ)
correlated n Σ v out ev eo = eo ∙ rows_ext n n (correlation_by (nth v) Σ) (correlation Σ) (correlation_stored n Σ ev)

pub returns-in_err-constant_returns : goal.returns-in_err-constant_returns
returns-in_err-constant_returns c =
    let a = c.args in
    let Σ = at a.covariance.now a.n in
    let v = c.put_volatilities.ensures in
    (v, correlated a.n Σ _ _ v c.put_correlations.ensures, refused _ c.from_residual.ensures.1 (head_refuses _ (c.in_err-constant_returns.ensures Σ v)))

pub returns : goal.returns
returns c =
    let a = c.args in
    let Σ = at a.covariance.now a.n in
    let v = c.put_volatilities.ensures in (
      v,
      correlated a.n Σ _ _ v c.put_correlations.ensures,
      c.when.ensures ∙ ap (λ (b : Bool). when (not b) Singular) c.all_finite.ensures ∙ first_alone _ ∙ head_passes _ (c.in_ok-constant_returns.ensures Σ v),
    )
