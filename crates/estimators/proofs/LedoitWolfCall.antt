-- The Ledoit-Wolf call: where its shape is refused, and from its parts on returns of the right shape. It is a call that fills nothing of an empty
-- slice. Assumes nothing.
use mathlib.Core.Path.{◌≡◌, refl, ap, ◌∙◌}
use mathlib.Core.List.{List, [], ◌∷◌}
use Prim.Native.Nat.{ℕ}
use lib.ListN.{length}
use lib.Ieee.{Float}
use Rattle.std.specs.Prelude.{Result, Ok}
use Rattle.std.specs.Result.{IsErrAnd}
use Rattle.leaves.specs.Numbers.{zero⁺}
use Rattle.leaves.specs.Loops.{fill, tab}
use Rattle.matrix.specs.Matrix.{at}
use Rattle.rules.specs.Refusals.{Check, passes, refuses, first}
use Rattle.rules.specs.LedoitWolf.{ledoit_wolf}
use Rattle.rules.specs.Order.{no_correlation, ledoit_wolf_order, by_shape, by_returns}
use Rattle.rules.specs.Shapes.{Shaped}
use Rattle.rules.specs.Calls.{Answered, answered, ledoit_wolf_intensity}
use Rattle.rules.specs.declared.Target.{Target}
use Rattle.rules.specs.declared.Shrinkage.TheVariants.{LedoitWolf}
use Rattle.rules.specs.declared.Refusal.{Refusal}
use Rattle.rules.specs.declared.Answer.{Answer}
use Rattle.rules.specs.declared.Answer.TheVariants.{Intensity}
use Rattle.rules.proofs.Firsts.{first_alone, head_refuses, front_refuses, front_passes}
use Rattle.rules.proofs.Opened.{answer_of, settle_accepted, shaped}
use Rattle.estimators.proofs.Refusing.{by_its_shape, by_its_checks}

module _ (r : List Float) (n T : ℕ) (F : Target) where
  abbrev intensity : Result Answer Refusal
  intensity = Ok (Intensity (ledoit_wolf F T n (at r n)))

  abbrev numbers : ℕ → Float
  numbers i = zero⁺

  abbrev earlier : List Check
  earlier = by_returns T n (at r n)

  abbrev rest : List Check
  rest = no_correlation (LedoitWolf F) T n (at r n) ∷ []

  -- the answer of a call that fills an empty slice
  call : {a : Answered} → a ≡ answer_of r n T 0 rest intensity numbers [] → a.answer ≡ ledoit_wolf_intensity r n T F
  unfolding ledoit_wolf_intensity ledoit_wolf_order fill tab
  call e = ap (λ (a : Answered). a.answer) e

  module _ (q : Result Answer Refusal) {c : Refusal} (is_c : IsErrAnd q (λ e. e ≡ c)) where
    pub shape_refuses : refuses c ≡ first (by_shape (length r) n T 0 0) → q ≡ ledoit_wolf_intensity r n T F
    shape_refuses e = call (by_its_shape r n T 0 [] rest intensity numbers q is_c e)

    pub returns_refuse : Shaped (length r) n T → refuses c ≡ first earlier → q ≡ ledoit_wolf_intensity r n T F
    returns_refuse shape e = call (by_its_checks r n T 0 [] rest intensity numbers q is_c shape refl (front_refuses earlier rest e))

    pub correlation_refuses : Shaped (length r) n T → passes ≡ first earlier → refuses c ≡ no_correlation (LedoitWolf F) T n (at r n) → q ≡ ledoit_wolf_intensity r n T F
    correlation_refuses shape pass e = call (by_its_checks r n T 0 [] rest intensity numbers q is_c shape refl (head_refuses [] e ∙ front_passes earlier rest pass))

  pub accepted : Shaped (length r) n T → passes ≡ first earlier → passes ≡ no_correlation (LedoitWolf F) T n (at r n) → {d : Float} → d ≡ ledoit_wolf F T n (at r n) → Ok (Intensity d) ≡ ledoit_wolf_intensity r n T F
  accepted shape pass e {d} is_d =
      ap (λ (d : Float). Ok (Intensity d)) is_d
      ∙ call (settle_accepted [] (answered intensity (tab 0 numbers)) (e ∙ first_alone _ ∙ front_passes earlier rest pass) ∙ shaped r n T 0 [] rest intensity numbers shape refl refl)
