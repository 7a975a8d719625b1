-- `estimators::opening::check_limited` meets its contract: the checks of the returns, then that of the limit.
use mathlib.Core.Path.{◌≡◌, sym, ◌∙◌}
use mathlib.Core.List.{[], ◌∷◌}
use Prim.Native.Nat.{ℕ, ◌≤◌}
use borrow.Author.Tests.{ltb-false}
use lib.Dec.{ltb}
use Rattle.std.specs.Prelude.{Result, Ok, Err, ⊤, OnOk}
use Rattle.std.proofs.lemmas.Result.{IfOk-from_err}
use Rattle.matrix.specs.Limits.{max_sweeps}
use Rattle.rules.specs.Order.{by_returns, bad_sweep_limit}
use Rattle.rules.specs.declared.Refusal.{Refusal}
use Rattle.rules.proofs.Firsts.{first_alone, front_refuses, front_passes}
use Rattle.rules.proofs.Passed.{pass_test}
use Rattle.inputs.specs.Checks.{checked}
use Rattle.inputs.proofs.Refused.{refused}
use Rattle.tables.specs.Rows.{return_at}
use Rattle.estimators.proofs.opening.check_limited.Goals as goal

limited : (limit : ℕ) (r : Result ⊤ Refusal) → checked r ≡ bad_sweep_limit limit → OnOk r (limit ≤ max_sweeps)
unfolding bad_sweep_limit
limited limit (Ok u) e = ltb-false max_sweeps limit (pass_test (ltb max_sweeps limit) _ (sym e))
limited limit (Err c) e = record {}

pub returns-in_err-check_opened : goal.returns-in_err-check_opened
returns-in_err-check_opened c =
    let a = c.args in
    let r = a.r.now in
    let f = c.from_residual in
    (refused _ f.ensures.1 (front_refuses (by_returns r.periods r.assets (return_at r)) (bad_sweep_limit a.limit ∷ []) c.in_err-check_opened.ensures), IfOk-from_err f.result _ f.ensures.0)

pub returns : goal.returns
returns c =
    let a = c.args in
    let r = a.r.now in
    let l = c.bad_sweep_limit in
    (l.ensures ∙ first_alone _ ∙ front_passes (by_returns r.periods r.assets (return_at r)) (bad_sweep_limit a.limit ∷ []) c.in_ok-check_opened.ensures, limited a.limit l.result l.ensures)
