-- What a call answers where a `?` returns a refusal. Assumes nothing.
use Rattle.std.proofs.Common.{◌≡◌, List, ap, ◌∙◌}
use Rattle.std.specs.Prelude.{Result}
use Rattle.std.specs.Result.{IsErrAnd}
use lib.Ieee.{Float}
use Rattle.rules.specs.Refusals.{Check, refuses}
use Rattle.rules.specs.Calls.{Answered, answered, settle}
use Rattle.rules.specs.declared.Answer.{Answer}
use Rattle.rules.specs.declared.Refusal.{Refusal}
use Rattle.rules.proofs.Opened.{settle_refused}
use Rattle.inputs.proofs.Refused.{refusal}

pub settle_err : (slice : List Float) (accepted : Answered) (r : Result Answer Refusal) {c : Refusal} {k : Check} → IsErrAnd r (λ e. e ≡ c) → refuses c ≡ k → answered r slice ≡ settle k slice accepted
settle_err slice accepted r e h = ap (λ (r : Result Answer Refusal). answered r slice) (refusal r e) ∙ settle_refused slice accepted h
