-- `means::james_stein::shrink` meets its contract: what the decomposition leaves is the case of `settle`.
use Rattle.std.proofs.Common.{◌≡◌, ℕ, Bool, true, false, not, List, ℤ, refl, ap, ◌∙◌, to_z-of_z}
use Rattle.std.specs.Prelude.{Result, Ok, Err}
use lib.Ieee.{Float}
use Rattle.leaves.specs.Loops.{tab, nth}
use Rattle.leaves.specs.Scaling.{pow2_scaled}
use Rattle.matrix.specs.Matrix.{at}
use Rattle.rules.specs.Refusals.{when}
use Rattle.rules.specs.Order.{not_found}
use Rattle.rules.specs.Moments.{Moments}
use Rattle.rules.specs.JamesStein.{grand_mean, largest_deviation, decompose_unequal, james_stein_intensity, towards}
use Rattle.rules.specs.Calls.{Answered, answered, settle}
use Rattle.rules.specs.declared.Refusal.{Refusal}
use Rattle.rules.specs.declared.Refusal.TheVariants.{Singular}
use Rattle.rules.specs.declared.Answer.{Answer}
use Rattle.rules.specs.declared.Answer.TheVariants.{Shrunk}
use Rattle.inputs.proofs.Refused.{refusal}
use Rattle.means.specs.Held.{held}
use Rattle.means.specs.Stein.{JamesSteinShrinks, james_stein_of}
use Rattle.means.specs.declared.james_stein.Found.{Found}
use Rattle.means.proofs.james_stein.shrink.Goals as goal

module _ (n limit : ℕ) (m : Moments) (e : ℤ) (slice : List Float) where
  -- what is answered, with the target μ₀
  abbrev given : Float → Result Found Refusal → Answered
  given μ₀ (Ok p) = answered (Ok (Shrunk p.intensity (pow2_scaled μ₀ e) p.sweeps p.rotations)) (tab n (λ i. pow2_scaled (towards p.intensity μ₀ (nth m.mean i)) e))
  given μ₀ (Err c) = answered (Err c) slice

  either : (μ₀ : Float) (found : Bool) (p : Found) → given μ₀ (elim found [ true ↦ Ok p | false ↦ Err Singular ]) ≡ settle (when (not found) Singular) slice (given μ₀ (Ok p))
  unfolding settle
  either μ₀ true p = refl
  either μ₀ false p = refl

  -- the answer, with the target as it stands in the code
  abbrev from : Float → Answered
  from μ₀ =
      let d = decompose_unequal limit n (largest_deviation n (nth m.mean) μ₀) (at m.covariance n) in
      settle (not_found d) slice (given μ₀ (Ok (record { intensity = james_stein_intensity n m μ₀ d; sweeps = d.sweeps; rotations = d.rotations })))

  settled : (μ₀ : Float) → μ₀ ≡ grand_mean n (nth m.mean) → (r : Result Found Refusal) → JamesSteinShrinks n limit m μ₀ r → given μ₀ r ≡ james_stein_of n limit m e slice
  settled μ₀ is-μ₀ r says = ap (given μ₀) says ∙ either μ₀ _ _ ∙ ap from is-μ₀

pub returns-in_err-p : goal.returns-in_err-p
returns-in_err-p c =
    let a = c.args in
    let g = c.grand_mean-target in
    ap (λ (r : Result Answer Refusal). answered r a.out.now) (refusal _ c.from_residual.ensures.1)
    ∙ settled a.m.n a.limit (held a.m) a.exponent a.out.now g.result g.ensures _ c.in_err-p.ensures

pub returns : goal.returns
returns c =
    let s = c in
    let a = s.args in
    let g = c.grand_mean-target in
    let p = c.in_ok-p.p in
    let k = to_z-of_z s.ranges.exponent in
    (λ t. answered (Ok (Shrunk p.intensity (rw k at c.pow2_scaled.ensures t) p.sweeps p.rotations)) (rw (k, s.requires.2) at c.put_shrunk.ensures t))
    ∙ settled a.m.n a.limit (held a.m) a.exponent a.out.now g.result g.ensures _ c.in_ok-p.ensures
