-- What a call answers where a `?` returns a refusal: of its shape, or of its further checks on returns of the right shape. Assumes nothing.
use mathlib.Core.Path.{◌≡◌, refl, ap, ◌∙◌}
use mathlib.Core.List.{List, ◌++◌}
use Prim.Native.Nat.{ℕ, ◌≤◌}
use lib.ListN.{length}
use lib.Ieee.{Float}
use Rattle.std.specs.Prelude.{Result}
use Rattle.std.specs.Result.{IsErrAnd}
use Rattle.leaves.specs.Loops.{tab}
use Rattle.matrix.specs.Matrix.{at}
use Rattle.rules.specs.Refusals.{Check, passes, refuses, first}
use Rattle.rules.specs.Order.{by_shape, by_returns}
use Rattle.rules.specs.Shapes.{Shaped}
use Rattle.rules.specs.Calls.{answered}
use Rattle.rules.specs.declared.Refusal.{Refusal}
use Rattle.rules.specs.declared.Answer.{Answer}
use Rattle.rules.proofs.Shapes.{shape_passes}
use Rattle.rules.proofs.Opened.{answer_of, shape_refuses, shaped}
use Rattle.inputs.proofs.Refused.{refusal}
use Rattle.means.proofs.Settled.{settle_err}

-- where its shape passes
pub fits : {l n T m room : ℕ} → passes ≡ first (by_shape l n T m room) → Shaped l n T × (m ≤ room)
fits e = shape_passes _ _ _ _ _ refl e

-- its further checks are `rest`, and its answer is `a` with the m numbers f; q is what it returns
module _ (r : List Float) (n T m : ℕ) (slice : List Float) (rest : List Check) (a : Result Answer Refusal) (f : ℕ → Float) (q : Result Answer Refusal) {c : Refusal} (is_c : IsErrAnd q (λ e. e ≡ c)) where
  pub by_its_shape : refuses c ≡ first (by_shape (length r) n T m (length slice)) → answered q slice ≡ answer_of r n T m rest a f slice
  by_its_shape e = ap (λ (q : Result Answer Refusal). answered q slice) (refusal q is_c) ∙ shape_refuses r n T m slice rest a f e

  pub by_its_checks : Shaped (length r) n T → length slice ≡ m → refuses c ≡ first (by_returns T n (at r n) ++ rest) → answered q slice ≡ answer_of r n T m rest a f slice
  by_its_checks shape long e = settle_err slice (answered a (tab m f)) q is_c e ∙ shaped r n T m slice rest a f shape long refl
