-- `means::bayes_stein::judge` meets its contract: the two checks, one after the other.
use Rattle.std.proofs.Common.{ℕ, Bool, refl, ap, ◌∙◌}
use Rattle.matrix.specs.Inner.{decomposed}
use Rattle.rules.specs.Refusals.{when}
use Rattle.rules.specs.BayesStein.{singular}
use Rattle.rules.specs.declared.Refusal.TheVariants.{Singular}
use Rattle.rules.proofs.Firsts.{first_alone, head_refuses, head_passes}
use Rattle.inputs.proofs.Refused.{refused}
use Rattle.means.proofs.bayes_stein.judge.Goals as goal

pub returns-in_err-when : goal.returns-in_err-when
returns-in_err-when c = λ v. refused _ c.from_residual.ensures.1 (head_refuses _ c.in_err-when.ensures)

pub returns : goal.returns
returns c = λ v.
    let a = c.args in
    let d = decomposed a.d.found a.values.now v a.d.sweeps a.d.rotations in
    c.when-2.ensures ∙ ap (λ (b : Bool). when b Singular) (c.is_singular.ensures d refl ∙ ap (λ (k : ℕ). singular k d) c.requires.1) ∙ first_alone _ ∙ head_passes _ c.in_ok-when.ensures
