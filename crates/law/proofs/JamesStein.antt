-- The James-Stein mean. Over the power of two of the largest return the returns are the same floats in both runs, so the moments, the decomposition and the intensity are; the target and the
-- means are one number each, scaled back by 2 ^ e and by 2 ^ (e + k). An intensity of 2 ^ -400 or more, or 0, leaves them multiples of a unit far above the smallest, so scaling back rounds nothing. An
-- intensity that is not a number makes every mean NaN, in both runs. Assumes nothing.
use mathlib.Core.Path.{◌≡◌, refl, ap, ◌∙◌}
use mathlib.Core.Logic.{◌⊎◌, inl, inr}
use Prim.Native.Nat.{ℕ, ◌+◌, ◌≤◌, ◌<◌}
use native.Mathlib.Nat.{le_trans, zero-add}
use native.Mathlib.Omega.{arith}
use mathlib.Core.Bool.{Bool, true, false}
use mathlib.Core.List.{List, map}
use lib.Dec.{T, lit≤}
use lib.IntN.{pos}
use lib.ListN.{length}
use lib.Ieee.{Float, nan, binary64, fits, eq, mul}
use Rattle.leaves.specs.Numbers.{◌⊕◌, ◌⊖◌, ◌⊗◌, zero⁺, clamp01}
use Rattle.leaves.specs.Loops.{nth}
use Rattle.leaves.specs.Scaling.{binary_exponent, pow2_scaled}
use Rattle.leaves.specs.Shift.{shift}
use Rattle.leaves.proofs.Nan.{nan_add}
use Rattle.leaves.proofs.Units.{top_bits}
use Rattle.leaves.proofs.Shift.{shift_nan}
use Rattle.leaves.proofs.Range.{count_pos}
use Rattle.leaves.proofs.Bounds.{Bounds, Bounded, zero_bounded, sum_of}
use Rattle.leaves.proofs.Operations.{Moved, still, moved_add, moved_sub, moved_mul, moved_over}
use Rattle.leaves.proofs.Totals.{moved_sum}
use Rattle.leaves.proofs.Scale.{scaled_fits, nan_scaled}
use Rattle.matrix.specs.Matrix.{Matrix, at, amax}
use Rattle.matrix.specs.Jacobi.{Decomposition}
use Rattle.rules.specs.Refusals.{Check}
use Rattle.rules.specs.Sample.{scaled}
use Rattle.rules.specs.Moments.{Moments, moments}
use Rattle.rules.specs.JamesStein.{grand_mean, james_stein_intensity, towards, james_stein}
use Rattle.rules.specs.Shrinking.{Shrinking}
use Rattle.rules.specs.Order.{bad_sweep_limit, james_stein_order}
use Rattle.rules.specs.Calls.{james_stein_mean}
use Rattle.rules.specs.declared.Refusal.TheVariants.{Singular}
use Rattle.rules.proofs.SameReturns.{moments_same}
use Rattle.law.specs.Law.{All, Sized, AtLeast, Alike, ask, max_power, return_range, mean_range, parts, Large}
use Rattle.law.specs.Law as Law
use Rattle.law.proofs.Bits.{side_bits, side_bits_lem}
use Rattle.law.proofs.Ranges.{mean_intensity_bounds, return_bounds, exponent_above, exponent_below, unit_bounds, unit_mean_bounds, grand_mean_bounds, step_bounds}
use Rattle.law.proofs.Chain.{Chain, ends, chain_same, chain_must, chained, settled}
use Rattle.law.proofs.Sample.{Returns, entries_as, count_moved, means_moved}
use Rattle.law.proofs.Matrices.{amax_moved, amax_above}
use Rattle.law.proofs.Scaled.{Scaling, scaling, scaled_back_lem}
use Rattle.law.proofs.SteinAnswers.{large, Copied, shrunk_alike, shrunk_into}
use Rattle.law.proofs.Opening.{Shape, returns, returns_scalable, opening_chain}
use Rattle.law.proofs.Sizes.{clamped_range}

-- ---- an intensity that shrinks a mean
abbrev pub MeanIntensity : Float → Type 0
MeanIntensity α = Bounded mean_intensity_bounds α

-- ---- what is found from the moments alone
abbrev pub grand_mean_of : ℕ → Moments → Float
grand_mean_of n m = grand_mean n (nth m.mean)

-- 0, or a number cut to [0, 1]
pub james_cases : (P : Float → Type 0) (n : ℕ) (m : Moments) (μ₀ : Float) (d : Decomposition) → P zero⁺ → ((w : Float) → T (fits binary64 w) → P (clamp01 w)) → P (james_stein_intensity n m μ₀ d)
unfolding james_stein_intensity
james_cases P n m μ₀ d none cut = go (eq _ zero⁺) _ (scaled_fits _ _)
  where
    go : (b : Bool) (w : Float) → T (fits binary64 w) → P (elim b [ true ↦ zero⁺ | false ↦ clamp01 w ])
    go true w t = none
    go false w t = cut w t

intensity_range_lem : (n : ℕ) (m : Moments) (μ₀ : Float) (d : Decomposition) → AtLeast mean_range (james_stein_intensity n m μ₀ d) → (james_stein_intensity n m μ₀ d ≡ nan) ⊎ MeanIntensity (james_stein_intensity n m μ₀ d)
intensity_range_lem n m μ₀ d = james_cases (λ z. AtLeast mean_range z → (z ≡ nan) ⊎ MeanIntensity z) n m μ₀ d (λ a. inr (zero_bounded mean_intensity_bounds)) (clamped_range mean_range (lit≤ tt))

-- ---- returns over the power of two of the largest
abbrev pub unit_moments : ℕ → ℕ → Matrix → Moments
unit_moments P n x = moments P n (scaled (λ i. binary_exponent (amax P n x)) x)

-- what the call answers with
abbrev pub shrunk : ℕ → ℕ → ℕ → Matrix → Shrinking
shrunk limit P n x = james_stein n limit (unit_moments P n x) (binary_exponent (amax P n x))

module _ {k n P : ℕ} {x y : Matrix} (small : k ≤ max_power) (r : Returns k n P return_bounds x y) where
  common : Scaling k return_bounds (amax P n x) (amax P n y)
  common = scaling (amax_moved P n x y r.entries) returns_scalable (omega arith)

  unit_moments_same : unit_moments P n y ≡ unit_moments P n x
  unfolding scaled
  unit_moments_same = moments_same n P (scaled (λ i. binary_exponent (amax P n y)) y) (scaled (λ i. binary_exponent (amax P n x)) x) (λ t i a b. common.same (r.entries t i a b) (amax_above P n x y r.entries t i a b))

  units : Returns common.still n P unit_bounds (scaled (λ i. binary_exponent (amax P n x)) x) (scaled (λ i. binary_exponent (amax P n x)) x)
  unfolding scaled
  units = entries_as r (λ t i a b. common.moved (r.entries t i a b) (amax_above P n x y r.entries t i a b))

  abbrev m : Moments
  m = unit_moments P n x

  abbrev μ-moved : (i : ℕ) → i < n → Moved common.still unit_mean_bounds (nth (unit_moments P n x).mean i) (nth (unit_moments P n x).mean i)
  μ-moved = means_moved units (le_trans common.few small)

  grand_mean_moved : Moved common.still grand_mean_bounds (grand_mean_of n (unit_moments P n x)) (grand_mean_of n (unit_moments P n x))
  unfolding grand_mean
  grand_mean_moved =
      let j = common.few in
      moved_over (moved_sum common.still unit_mean_bounds n side_bits (side_bits_lem r.few) (lit≤ tt) (omega arith) (nth m.mean) (nth m.mean) μ-moved) (count_moved side_bits n (lit≤ tt) (side_bits_lem r.few)) (count_pos n r.assets (le_trans r.few (lit≤ tt)))
      (lit≤ tt) (omega arith)

  towards_moved : (α : Float) → MeanIntensity α → (i : ℕ) → i < n → Moved common.still (sum_of 1 step_bounds) (towards α (grand_mean_of n (unit_moments P n x)) (nth (unit_moments P n x).mean i)) (towards α (grand_mean_of n (unit_moments P n x)) (nth (unit_moments P n x).mean i))
  unfolding towards
  towards_moved α a i l =
      let few = common.few in
      let μ = μ-moved i l in
      let p = rw (zero-add common.still) at (moved_mul (still mean_intensity_bounds a) (moved_sub grand_mean_bounds tt tt grand_mean_moved μ (omega arith)) (lit≤ tt) (omega arith)) in
      moved_add step_bounds tt tt μ p (omega arith)

  -- a number found from the moments, scaled back
  back : {c : Bounds} {z : Float} → Moved common.still c z z → exponent_below return_bounds ≤ c.grain → c.most + exponent_above return_bounds + max_power ≤ top_bits
      → T (fits binary64 (pow2_scaled z (binary_exponent (amax P n x)))) × (pow2_scaled z (binary_exponent (amax P n y)) ≡ shift (pos k) (pow2_scaled z (binary_exponent (amax P n x))))
  back {z = z} q l h = (scaled_fits z (binary_exponent (amax P n x)), scaled_back_lem common q l (omega arith))

  decomposition_same : (limit : ℕ) → (shrunk limit P n y).decomposition ≡ (shrunk limit P n x).decomposition
  decomposition_same limit = ap (λ (m : Moments). (james_stein n limit m (binary_exponent (amax P n y))).decomposition) unit_moments_same

  james_copied : (limit : ℕ) → AtLeast mean_range (shrunk limit P n x).intensity → Copied k n (shrunk limit P n x) (shrunk limit P n y)
  james_copied limit a =
      let same = unit_moments_same in
      let w : Moments → Shrinking = λ m. james_stein n limit m (binary_exponent (amax P n y)) in
      let t = back grand_mean_moved (lit≤ tt) (lit≤ tt) in
      record {
        intensity = ap (λ (m : Moments). (w m).intensity) same;
        target = (t.0, ap (λ (m : Moments). (w m).target) same ∙ t.1);
        decomposition = decomposition_same limit;
        means = λ i l. let b = one i l (intensity_range_lem n m (grand_mean_of n m) (w m).decomposition a) in (b.0, ap (λ (m : Moments). (w m).mean i) same ∙ b.1);
      }
    where
      one : (i : ℕ) → i < n → ((shrunk limit P n x).intensity ≡ nan) ⊎ MeanIntensity (shrunk limit P n x).intensity
          → T (fits binary64 ((shrunk limit P n x).mean i)) × ((james_stein n limit (unit_moments P n x) (binary_exponent (amax P n y))).mean i ≡ shift (pos k) ((shrunk limit P n x).mean i))
      one i l (inr q) = back (towards_moved (shrunk limit P n x).intensity q i l) (lit≤ tt) (lit≤ tt)
      one i l (inl q) = nothing (towards (shrunk limit P n x).intensity (grand_mean_of n m) (nth m.mean i)) (unfold towards mul in (ap (λ (z : Float). nth m.mean i ⊕ z ⊗ (grand_mean_of n m ⊖ nth m.mean i)) q ∙ nan_add (nth m.mean i) nan (inr refl)))
        where
          nothing : (z : Float) → z ≡ nan → T (fits binary64 (pow2_scaled z (binary_exponent (amax P n x)))) × (pow2_scaled z (binary_exponent (amax P n y)) ≡ shift (pos k) (pow2_scaled z (binary_exponent (amax P n x))))
          nothing z e = (scaled_fits z (binary_exponent (amax P n x)), rw (e, nan_scaled (binary_exponent (amax P n y)), nan_scaled (binary_exponent (amax P n x)), shift_nan (pos k)))

-- ---- the call
module _ (k : ℕ) (small : k ≤ max_power) (r : List Float) (sizes : All (Sized return_range) r) (n P limit : ℕ) where
  abbrev w : List Float → Shrinking
  w r = shrunk limit P n (at r n)

  abbrev order : List Float → List Float → List Check
  order r slice = james_stein_order r n P limit slice (w r).decomposition

  pub james_stein_law : (slice slice' : List Float) → length slice' ≡ length slice → Large (parts n (ask r n P (Law.james_stein limit) slice))
      → Alike (pos k) (parts n (ask r n P (Law.james_stein limit) slice)) (parts n (ask (map (shift (pos k)) r) n P (Law.james_stein limit) slice'))
  unfolding james_stein_mean
  james_stein_law slice slice' e large-answer =
      let r' = map (shift (pos k)) r in
      settled (chained chain) (pos k) n slice slice' (shrunk_into n (w r) slice) (shrunk_into n (w r') slice') (λ p p' s.
      shrunk_alike slice slice' (james_copied small (returns k small r sizes n P s) limit (large n (w r) slice p large-answer).0))
    where
      chain : Chain (Shape r n P) (order r slice) (order (map (shift (pos k)) r) slice')
      chain = unfold james_stein_order in
          opening_chain k small r sizes n P n slice slice' e (λ s opens. chain_same (bad_sweep_limit limit) refl (λ e₁.
          chain_must (w r).decomposition.found Singular (ap (λ (d : Decomposition). d.found) (decomposition_same small (returns k small r sizes n P s) limit)) (λ e₂. ends s)))
