-- `inputs::given::judge` meets its contract: the two checks, one after the other, and what is found where they pass.
use Rattle.std.proofs.Common.{◌∙◌, ap, refl}
use Rattle.matrix.specs.Inner.{decomposed}
use Rattle.rules.specs.Refusals as Refusals
use Rattle.rules.proofs.Firsts.{first_alone, head_refuses, head_passes}
use Rattle.inputs.specs.Checks.{examined}
use Rattle.inputs.proofs.Refused.{refusal}
use Rattle.inputs.proofs.given.judge.Goals as goal

pub returns-in_err-not_decomposed : goal.returns-in_err-not_decomposed
returns-in_err-not_decomposed c = λ v.
    let a = c.args in
    let d = decomposed a.d.found a.values.now v a.d.sweeps a.d.rotations in
    refusal _ c.from_residual.ensures.1 ∙ ap (λ (k : Refusals.Check). examined k d) (head_refuses _ (c.in_err-not_decomposed.ensures d refl))

pub returns-in_err-not_semidefinite : goal.returns-in_err-not_semidefinite
returns-in_err-not_semidefinite c = λ v.
    let a = c.args in
    let d = decomposed a.d.found a.values.now v a.d.sweeps a.d.rotations in
    refusal _ c.from_residual-in_err-not_semidefinite.ensures.1
    ∙ ap (λ (k : Refusals.Check). examined k d) (head_refuses _ (c.in_err-not_semidefinite.ensures d refl) ∙ head_passes _ (c.in_ok-not_decomposed.ensures d refl))

pub returns : goal.returns
returns c = λ v.
    let a = c.args in
    let d = decomposed a.d.found a.values.now v a.d.sweeps a.d.rotations in
    ap (λ (k : Refusals.Check). examined k d) (c.in_ok-not_semidefinite.ensures d refl ∙ first_alone _ ∙ head_passes _ (c.in_ok-not_decomposed.ensures d refl))
