-- `covariances::ledoit_wolf::ledoit_wolf` meets its contract: the rows that it forms are the definition's, over the power of two of the largest deviation.
use Rattle.std.proofs.Common.{◌≡◌, ℕ, List, ℤ, neg_ℤ, arith}
use lib.Ieee.{Float}
use Rattle.leaves.specs.Loops.{tab}
use Rattle.leaves.specs.Scaling.{binary_exponent}
use Rattle.matrix.specs.Matrix.{at, amax}
use Rattle.rules.specs.Sample.{mean, deviation}
use Rattle.rules.specs.LedoitWolf.{intensity_from, ledoit_wolf}
use Rattle.rules.specs.declared.Target.{Target}
use Rattle.tables.specs.Powers.{Factored}
use Rattle.tables.specs.Rows.{centered}
use Rattle.tables.specs.declared.rows.Row.TheVariants.{Scaled}
use Rattle.tables.proofs.Exponents.{neg_read}
use Rattle.covariances.proofs.Centered.{from_centered, scaled_formed}
use Rattle.covariances.proofs.ledoit_wolf.ledoit_wolf.Goals as goal

answer : (F : Target) (T n : ℕ) (r : List Float) {means : List Float} → means ≡ tab n (mean T (at r n)) → (e : ℤ) → (means ≡ tab n (mean T (at r n)) → e ≡ binary_exponent (amax T n (deviation T (at r n)))) → (near far : Float) → Factored near far (neg_ℤ e)
    → {d : Float} → d ≡ intensity_from F T n (centered (Scaled near far) n means r) → d ≡ ledoit_wolf F T n (at r n)
answer F T n r {means} em e ee near far f ed =
    from_centered F T n (at r n) (centered (Scaled near far) n means r) e (ee em) (λ t i ht hi. scaled_formed T n (at r n) em near far (neg_ℤ e) f t i hi) ed

pub returns : goal.returns
returns c =
    let a = c.args in
    let r = a.r.now in
    let e = c.largest_exponent-e in
    let f = c.factors-power in
    answer a.target r.periods r.assets r.numbers.now c.means.ensures e.result e.ensures.1 f.result.near f.result.far (rw (neg_read e.result (omega arith)) at f.ensures) c.of_rows.ensures
