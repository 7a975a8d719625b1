-- An estimate b shrunk and regularized, and its copy b', each entry 2 ^ k times as large. A granted intensity or regularization is 0 or not so small that a product leaves the range in which
-- it is exact. An intensity that is not a number makes every entry NaN, in both runs. Assumes nothing.
use mathlib.Core.Path.{◌≡◌, refl, sym, ap, ap₂, ◌∙◌}
use Prim.Native.Nat.{ℕ, ◌+◌, ◌≤◌, ◌<◌}
use native.Mathlib.Nat.{le_trans, zero-add, add-zero}
use native.Mathlib.Omega.{arith}
use mathlib.Core.Bool.{Bool, true, false, not, cond, ◌&&◌, ◌||◌}
use lib.Dec.{T, eqb, lit≤}
use lib.IntN.{pos}
use lib.Ieee.{Float, nan, fits, add, mul, lt, le}
use Rattle.leaves.specs.Numbers.{◌⊕◌, ◌⊗◌, zero⁺, one, is_finite}
use Rattle.leaves.proofs.Shift.{is_finite_shift, lt_shift, le_shift, shift_zero⁺}
use Rattle.leaves.proofs.Units.{one_bits, U, mag}
use Rattle.leaves.proofs.Range.{sized, range_sized, count_pos}
use Rattle.leaves.proofs.Bounds.{Bounds, Bounded, covers}
use Rattle.leaves.proofs.Operations.{Moved, still, moved_within, moved_zero, moved_add, moved_sub, moved_mul, moved_mul_normal, moved_over}
use Rattle.matrix.specs.Matrix.{Matrix, identity}
use Rattle.matrix.specs.Limits.{max_side}
use Rattle.rules.specs.LedoitWolf.{average_variance, constant_correlation}
use Rattle.rules.specs.Adjusted.{weighted_target, mixed, regularized, is_adjusted}
use Rattle.rules.specs.Refusals.{when}
use Rattle.rules.specs.Order.{bad_regularization}
use Rattle.rules.specs.declared.Target.{Target}
use Rattle.rules.specs.declared.Target.TheVariants.{ConstantVariance, ConstantCorrelation}
use Rattle.rules.specs.declared.Regularization.{Regularization}
use Rattle.rules.specs.declared.Regularization.TheVariants.{Unregularized, Ridge}
use Rattle.rules.specs.declared.Field.TheVariants.{RegularizationField}
use Rattle.rules.specs.declared.Refusal.TheVariants.{BadSetting}
use Rattle.law.specs.Law.{max_power}
use Rattle.law.proofs.Bits.{side_bits, side_bits_lem}
use Rattle.law.proofs.Ranges.{covariance_bounds, intensity_bounds, one_bounds, estimate_bounds, part_bounds, shrunk_bounds, adjusted_bounds}
use Rattle.law.proofs.Sample.{count_moved}
use Rattle.law.proofs.Matrices.{trace_moved}
use Rattle.law.proofs.Correlation.{Targeted}

-- ---- 0 and 1
pub one_moved : Moved 0 one_bounds one one
unfolding sized fits is_finite mag U
one_moved = still one_bounds (range_sized one_bits one_bits one (lit≤ tt) tt)

identity_moved : (i j : ℕ) → Moved 0 one_bounds (identity i j) (identity i j)
identity_moved i j = go (eqb i j)
  where
    go : (c : Bool) → Moved 0 one_bounds (cond c one zero⁺) (cond c one zero⁺)
    go true = one_moved
    go false = moved_zero 0 one_bounds

-- an intensity: 0, or from 2 ^ -40 to 1
abbrev pub Intensity : Float → Type 0
Intensity δ = Bounded intensity_bounds δ

-- ---- an estimate of any kind; after shrinking; after regularizing
abbrev pub Estimated : ℕ → Float → Float → Type 0
Estimated k x x' = Moved k estimate_bounds x x'

abbrev pub Shrunken : ℕ → Float → Float → Type 0
Shrunken k x x' = Moved k shrunk_bounds x x'

abbrev pub Adjusted : ℕ → Float → Float → Type 0
Adjusted k x x' = Moved k adjusted_bounds x x'

module _ (k : ℕ) (small : k ≤ max_power + max_power) (δ : Float) (d : Intensity δ) (n : ℕ) (b b' : Matrix) (i j : ℕ) where
  -- with (1 - δ) b
  mixed_moved : {c : Bounds} (F : Target) → T (covers part_bounds c) → Moved k c (weighted_target F δ n b i j) (weighted_target F δ n b' i j) → Estimated k (b i j) (b' i j) → Shrunken k (mixed F δ n b i j) (mixed F δ n b' i j)
  unfolding mixed
  mixed_moved F s p u =
      let rest = moved_sub intensity_bounds tt tt one_moved (still intensity_bounds d) (lit≤ tt) in
      let q = rw (zero-add k) at (moved_mul rest u (lit≤ tt) (omega arith)) in
      moved_add part_bounds s tt p q (omega arith)

  pub correlation_mixed : Targeted k (constant_correlation n b i j) (constant_correlation n b' i j) → Estimated k (b i j) (b' i j) → Shrunken k (mixed ConstantCorrelation δ n b i j) (mixed ConstantCorrelation δ n b' i j)
  unfolding weighted_target
  correlation_mixed t u = mixed_moved ConstantCorrelation tt (rw (zero-add k) at (moved_mul_normal (still intensity_bounds d) t (lit≤ tt) (omega arith))) u

  pub variance_mixed : 0 < n → n ≤ max_side → ((i j : ℕ) → i < n → j < n → Estimated k (b i j) (b' i j)) → i < n → j < n → Shrunken k (mixed ConstantVariance δ n b i j) (mixed ConstantVariance δ n b' i j)
  unfolding weighted_target average_variance
  variance_mixed assets few each a c =
      let m = moved_over (trace_moved n b b' few (omega arith) (λ i l. each i i l l)) (count_moved side_bits n (lit≤ tt) (side_bits_lem few)) (count_pos n assets (le_trans few (lit≤ tt))) (lit≤ tt) (omega arith) in
      let p = rw (zero-add k) at (moved_mul_normal (still intensity_bounds d) m (lit≤ tt) (omega arith)) in
      mixed_moved ConstantVariance tt (rw (add-zero k) at (moved_mul p (identity_moved i j) (lit≤ tt) (omega arith))) (each i j a c)

pub nan_mixed : (F : Target) (n : ℕ) (b : Matrix) (i j : ℕ) → mixed F nan n b i j ≡ nan
unfolding mixed weighted_target add mul
nan_mixed ConstantVariance n b i j = refl
nan_mixed ConstantCorrelation n b i j = refl

-- ---- what is asked of a regularization H and its copy
pub record Regularized (k : ℕ) (H H' : Regularization Float) : Type 0 where
  pub bad : bad_regularization H' ≡ bad_regularization H
  pub adjusts : (δ : Float) → is_adjusted δ H' ≡ is_adjusted δ H
  pub entries : (a a' : Matrix) (i j : ℕ) → Shrunken k (a i j) (a' i j) → Adjusted k (regularized H a i j) (regularized H' a' i j)
  pub nans : (a : Matrix) (i j : ℕ) → a i j ≡ nan → (regularized H a i j ≡ nan) × (regularized H' a i j ≡ nan)

pub unregularized : (k : ℕ) → Regularized k Unregularized Unregularized
unfolding regularized
unregularized k = record { bad = refl; adjusts = λ δ. refl; entries = λ a a' i j u. moved_within adjusted_bounds tt u; nans = λ a i j e. (e, e) }

pub ridge : (k : ℕ) → k ≤ max_power + max_power → (ε ε' : Float) → Moved k covariance_bounds ε ε' → Regularized k (Ridge ε) (Ridge ε')
unfolding bad_regularization is_adjusted regularized add
ridge k small ε ε' e =
    let s = pos k in
    record {
      bad = ap₂ (λ (u v : Bool). when (not (u && v)) (BadSetting RegularizationField)) (ap is_finite e.copy ∙ is_finite_shift s ε) (ap₂ le (sym (shift_zero⁺ s)) e.copy ∙ le_shift s zero⁺ ε);
      adjusts = λ δ. ap (λ (u : Bool). lt zero⁺ δ || u) (ap₂ lt (sym (shift_zero⁺ s)) e.copy ∙ lt_shift s zero⁺ ε);
      entries = λ a a' i j u.
          let p = rw (add-zero k) at (moved_mul e (identity_moved i j) (lit≤ tt) (omega arith)) in
          moved_add shrunk_bounds tt tt u p (omega arith);
      nans = λ a i j n. (ap (λ (z : Float). z ⊕ ε ⊗ identity i j) n, ap (λ (z : Float). z ⊕ ε' ⊗ identity i j) n);
    }
