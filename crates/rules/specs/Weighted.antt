-- Document 01, "Estimators": the exponentially weighted mean and covariance (covariance.rs, expected_returns.rs); document 02, "Paper 1. Decay factors in
-- the syllabus". Definitions only.
-- Period t of T has the weight λ ^ (T - 1 - t), with ln λ = l.
use Rattle.std.specs.Prelude.{ℕ, ◌-◌, Bool, true, ◌&&◌, List, ℤ, pos, neg_ℤ, Float}
use Rattle.std.specs.Float.{fin}
use Rattle.std.specs.Float.Ieee.{neg, lt, le}
use Rattle.leaves.specs.Numbers.{◌⊖◌, ◌⊗◌, ◌⊘◌, count, zero⁺, two}
use Rattle.leaves.specs.Loops.{sum_to, tab, nth}
use Rattle.leaves.specs.Scaling.{binary_exponent, pow2_scaled}
use Rattle.leaves.specs.Root.{sqrt}
use Rattle.leaves.specs.Exp.{ln2, exp, exp_m1}
use Rattle.leaves.specs.Log.{between01, ln}
use Rattle.matrix.specs.Matrix.{Matrix}
use Rattle.rules.specs.Sample.{gram, largest}
use Rattle.rules.specs.declared.Decay.{Decay}
use Rattle.rules.specs.declared.Decay.TheVariants.{HalfLife, Lambda}

-- ln λ, for a half-life and for the decay factor λ = f
unfoldable pub log_decay : Decay Float → Float
log_decay (HalfLife h) = neg ln2 ⊘ h
log_decay (Lambda f) = ln f

-- -708
abbrev pub min_log_decay : Float
min_log_decay = fin true 177 (pos 2)

-- in [-708, 0)
unfoldable pub accepted : Float → Bool
accepted l = le min_log_decay l && lt l zero⁺

-- a decay factor lies above 0 and below 1 besides
unfoldable pub accepted_decay : Decay Float → Bool
accepted_decay (HalfLife h) = accepted (log_decay (HalfLife h))
accepted_decay (Lambda f) = between01 f && accepted (log_decay (Lambda f))

unfoldable pub weights : ℕ → Float → List Float
weights T l = tab T (λ t. exp (count (T - 1 - t) ⊗ l))

-- Σ wₜ xₜ / Σ wₜ, in the unit 2 ^ e
abbrev pub scaled_mean : ℕ → List Float → Matrix → ℕ → ℤ → Float
scaled_mean T w x i e = sum_to T (λ t. nth w t ⊗ pow2_scaled (x t i) (neg_ℤ e)) ⊘ sum_to T (nth w)

-- by way of a power of two near the largest xₜ
unfoldable pub weighted_mean : ℕ → List Float → Matrix → ℕ → Float
weighted_mean T w x i = let e = binary_exponent (largest T x i) in pow2_scaled (scaled_mean T w x i e) e

-- Σ wₜ - Σ wₜ² / Σ wₜ, as 2 λ (1 - λ ^ (T - 1)) / (1 - λ ^ 2)
unfoldable pub denominator : ℕ → Float → Float
denominator T l = two ⊗ exp l ⊗ neg (exp_m1 (count (T - 1) ⊗ l)) ⊘ neg (exp_m1 (two ⊗ l))

-- Σ wₜ (xₜᵢ - mᵢ) (xₜⱼ - mⱼ) over that denominator
unfoldable pub weighted_covariance : ℕ → Float → Matrix → Matrix
weighted_covariance T l x i j =
    let w = weights T l in
    let d = denominator T l in
    gram T (λ t a. (x t a ⊖ weighted_mean T w x a) ⊗ sqrt (nth w t ⊘ d)) i j
