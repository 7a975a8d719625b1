-- What a `?` returns where a check refuses. Assumes nothing.
use Rattle.std.proofs.Common.{◌≡◌, ap, ◌∙◌}
use Rattle.std.specs.Prelude.{Result, Ok, Err, ⊤}
use Rattle.std.specs.Result.{IsErrAnd}
use Rattle.rules.specs.Refusals as Refusals
use Rattle.rules.specs.Refusals.{refuses}
use Rattle.rules.specs.declared.Refusal.{Refusal}
use Rattle.inputs.specs.Checks.{checked}

-- the refusal itself
pub refusal : {T : Type 0} (r : Result T Refusal) {c : Refusal} → IsErrAnd r (λ e. e ≡ c) → r ≡ Err c
refusal (Err d) e = ap (λ (d : Refusal). Err d) e
refusal (Ok x) e = absurd e

-- as a check
pub refused : (r : Result ⊤ Refusal) {c : Refusal} {k : Refusals.Check} → IsErrAnd r (λ e. e ≡ c) → refuses c ≡ k → checked r ≡ k
refused r e h = ap checked (refusal r e) ∙ h
