-- `means::james_stein::intensity` meets its contract: the second case of the definition, number by number.
use Rattle.std.proofs.Common.{◌≡◌, ℕ, ◌^◌, ◌<◌, false, List, ℤ, ◌+ℤ◌, neg_ℤ, nat_abs, arith}
use lib.Ieee.{Float, eq, of_bits}
use Rattle.leaves.specs.Numbers.{◌⊖◌, ◌⊗◌, ◌⊘◌, zero⁺, two, clamp01}
use Rattle.leaves.specs.Loops.{max_to, nth}
use Rattle.leaves.specs.Scaling.{binary_exponent, pow2_scaled}
use Rattle.matrix.specs.Matrix.{at, trace}
use Rattle.matrix.specs.Jacobi.{Decomposition}
use Rattle.rules.specs.Moments.{Moments, moments_of}
use Rattle.rules.specs.JamesStein.{largest_deviation, spread, james_stein_intensity}
use Rattle.tables.proofs.Exponents.{size_plus, read, neg_read}
use Rattle.means.proofs.james_stein.intensity.Goals as goal

-- by the numbers that the code finds
answer : (n : ℕ) (m : Moments) (values : List Float) (μ₀ largest : Float) → largest ≡ largest_deviation n (nth m.mean) μ₀ → eq largest zero⁺ ≡ false → (s : ℤ) → s ≡ binary_exponent largest
    → (t l q y r : Float) → t ≡ trace n (at m.covariance n) → l ≡ max_to n (nth values) → q ≡ spread n (nth m.mean) μ₀ s → y ≡ pow2_scaled ((t ⊖ two ⊗ l) ⊘ (m.periods ⊗ q)) (neg_ℤ (s +ℤ s))
    → r ≡ clamp01 y → (d : Decomposition) → d.values ≡ values → r ≡ james_stein_intensity n m μ₀ d
unfolding james_stein_intensity
answer n m values μ₀ largest is-largest unequal s is-s t l q y r is-t is-l is-q is_y is-r d is-d = rw (is-r, is_y, is-t, is-l, is-q, is-s, james_stein_intensity, ← is-largest, unequal, is-d, is-largest)

pub returns : goal.returns
unfolding of_bits
returns c =
    let y = c.pow2_scaled in
    let q = c.spread in
    let l = c.largest in
    let t = c.trace in
    let e = c.exponent-shift in
    let b = c in
    let a = b.args in
    let p = b.requires in
    let h : nat_abs e.result < 2 ^ 31 = omega arith in
    let z = read e.result h in
    let k = neg_read (e.result +ℤ e.result) (omega (arith, size_plus e.result e.result)) in
    answer a.n (moments_of a.means.now a.covariance.now a.periods) a.values.now a.target a.largest p.4 p.5 e.result e.ensures.0 t.result l.result q.result y.result c.clamp01.result
    t.ensures
    (rw p.3 at l.ensures)
    (rw (p.1, z) at q.ensures)
    (rw (z, k) at y.ensures)
    c.clamp01.ensures
