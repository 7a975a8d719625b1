-- `means::james_stein::shrinkage` meets its contract: each return is the case of `decompose_unequal` that the tests pick.
use Rattle.std.proofs.Common.{◌≡◌, ℕ, true, false, sym, refl, ap, ◌∙◌}
use Rattle.std.specs.Prelude.{Result, Ok, Err}
use borrow.Author.Tests.{not-true, not-false}
use lib.Ieee.{Float, eq, of_bits}
use Rattle.leaves.specs.Numbers.{zero⁺}
use Rattle.leaves.specs.Loops.{nth}
use Rattle.matrix.specs.Matrix.{at}
use Rattle.matrix.specs.Jacobi.{Decomposition, decompose, unturned}
use Rattle.matrix.specs.Inner.{decomposed}
use Rattle.rules.specs.Moments.{Moments, moments_of}
use Rattle.rules.specs.JamesStein.{largest_deviation, decompose_unequal, james_stein_intensity}
use Rattle.rules.specs.declared.Refusal.{Refusal}
use Rattle.rules.specs.declared.Refusal.TheVariants.{Singular}
use Rattle.means.specs.declared.james_stein.Found.{Found}
use Rattle.means.specs.Stein.{found_by, JamesSteinShrinks}
use Rattle.means.proofs.james_stein.shrinkage.Goals as goal

module _ (limit n : ℕ) (m : Moments) (μ₀ largest : Float) (is-largest : largest ≡ largest_deviation n (nth m.mean) μ₀) where
  made : (d : Decomposition) (α : Float) → d.found ≡ true → α ≡ james_stein_intensity n m μ₀ d → Ok (record { intensity = α; sweeps = d.sweeps; rotations = d.rotations }) ≡ found_by n m μ₀ d
  made d α h e = λ t. elim (sym h t) [ true ↦ Ok (record { intensity = e t; sweeps = d.sweeps; rotations = d.rotations }) | false ↦ Err Singular ]

  equal : eq largest zero⁺ ≡ true → JamesSteinShrinks n limit m μ₀ (Ok (record { intensity = zero⁺; sweeps = 0; rotations = 0 }))
  unfolding decompose_unequal james_stein_intensity unturned
  equal h =
      let u : unturned n true ≡ decompose_unequal limit n (largest_deviation n (nth m.mean) μ₀) (at m.covariance n) = rw (decompose_unequal, ← is-largest, h) in
      made (unturned n true) zero⁺ refl (rw (james_stein_intensity, ← is-largest, h)) ∙ ap (found_by n m μ₀) u

  -- by the decomposition that the code has
  unequal : eq largest zero⁺ ≡ false → (d : Decomposition) → d ≡ decompose limit n (at m.covariance n) → (r : Result Found Refusal) → r ≡ found_by n m μ₀ d → JamesSteinShrinks n limit m μ₀ r
  unfolding decompose_unequal
  unequal h d is-d r e = e ∙ ap (found_by n m μ₀) (is-d ∙ rw (decompose_unequal, ← is-largest, h))

pub returns-then-largest : goal.returns-then-largest
unfolding of_bits
returns-then-largest c =
    let b = c in
    let a = b.args in
    equal a.limit a.n (moments_of a.means.now a.covariance.now a.periods) a.target c.largest_deviation-largest.result (rw b.requires.3 at c.largest_deviation-largest.ensures) c.if-largest.true

pub returns-then-not-d : goal.returns-then-not-d
unfolding of_bits
returns-then-not-d c =
    let b = c in
    let a = b.args in
    let u = c.largest_deviation-largest in
    unequal a.limit a.n (moments_of a.means.now a.covariance.now a.periods) a.target u.result (rw b.requires.3 at u.ensures) c.if-largest.false _ c.decompose-d.ensures _ (rw (not-true _ c.if-not-d.true))

pub returns : goal.returns
unfolding of_bits
returns c =
    let b = c in
    let a = b.args in
    let u = c.largest_deviation-largest in
    let d = c.decompose-d in
    let found = decomposed d.result.found d.new.values d.new.vectors d.result.sweeps d.result.rotations in
    let m = moments_of a.means.now a.covariance.now a.periods in
    let is-largest = rw b.requires.3 at u.ensures in
    unequal a.limit a.n m a.target u.result is-largest c.if-largest.false found d.ensures _
    (made a.limit a.n m a.target u.result is-largest found c.intensity.result (not-false _ c.if-not-d.false) (c.intensity.ensures found refl))
