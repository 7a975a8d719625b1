-- The Bayes-Stein mean: each column over the power of two of its largest return. The scaled columns are the same in both runs, so the moments are. A column that is not refused is not zero, so
-- its exponent grows by k; its volatility is not far below its unit. Assumes nothing.
use mathlib.Core.Path.{◌≡◌, refl, sym, ap, ◌∙◌, subst}
use mathlib.Core.Logic.{inl, inr}
use Prim.Native.Nat.{ℕ, ◌*◌, ◌^◌, ◌≤◌, ◌<◌, zero-le}
use native.Mathlib.Nat.{le_antisymm, le_refl, le_trans, le_of_eq, le_of_lt, lt_of_lt_of_le, lt_of_le_of_lt, lt_irrefl, mul-le-mul, mul-le-mul_right, mul-le-mul_left, eq-zero-or-pos}
use mathlib.Core.Bool.{false}
use lib.Dec.{lit≤, lit<}
use lib.IntN.{ℤ, pos, neg_ℤ, ◌+ℤ◌}
use lib.Pow.{pow_pos}
use lib.Ieee.{Float, eq, of_bits}
use borrow.Author.Tests.{ne_eqb}
use Rattle.leaves.specs.Numbers.{◌⊗◌, ◌⊘◌, zero⁺, one, 1e-10}
use Rattle.leaves.specs.Loops.{nth}
use Rattle.leaves.specs.Scaling.{binary_exponent, pow2_scaled}
use Rattle.leaves.proofs.Loops.{get_or_tab}
use Rattle.leaves.proofs.First.{first_ext}
use Rattle.leaves.proofs.Whole.{pos_part, neg_part, Within}
use Rattle.leaves.proofs.SqrtNearest.{moved_sqrt}
use Rattle.leaves.proofs.Rounding.{near_least, representable_pow}
use Rattle.leaves.proofs.Units.{one_bits, U, U_pos, U-is, sign, mag, eq_zero}
use Rattle.leaves.proofs.Range.{range_value, range_size, range_null}
use Rattle.leaves.proofs.Bounds.{Bounded, root_of, only_zero}
use Rattle.leaves.proofs.Operations.{Moved, still, moved_mul, moved_over}
use Rattle.leaves.proofs.Signs.{sign_mul, sign_not_below, sign_sqrt}
use Rattle.leaves.proofs.PowersOfTwo.{zero_scaled, exponent_shift, exponent_null}
use Rattle.leaves.proofs.Scale.{sign_scaled}
use Rattle.matrix.specs.Matrix.{Matrix, at}
use Rattle.matrix.specs.Jacobi.{Decomposition, decompose}
use Rattle.matrix.proofs.Stored.{rows_at}
use Rattle.rules.specs.Sample.{mean, deviation, gram, covariance, volatility, largest, is_constant, constant_asset, scaled}
use Rattle.rules.specs.Moments.{Moments, moments}
use Rattle.rules.specs.BayesStein.{exponents_of, largest_in, correlations}
use Rattle.rules.proofs.SameReturns.{moments_same}
use Rattle.law.specs.Law.{max_power}
use Rattle.law.proofs.Ranges.{zero_bounds, return_bounds, ten_billionth_bounds, covariance_of, exponent_above, exponent_below, unit_bounds, unit_mean_bounds, unit_variance_bounds, unit_volatility_bounds, tolerance_bounds, steady_volatility_bounds, inverse_bounds, mean_over_bounds}
use Rattle.law.proofs.Comparisons.{plus_val, le_no}
use Rattle.law.proofs.Sample.{Returns, entries_as, covariance_moved, largest_moved, largest_above, means_moved}
use Rattle.law.proofs.Constant.{ten_billionth_moved, ten_billionth_above, sign_variance, sign_largest, above_zero}
use Rattle.law.proofs.Scaled.{scaled_least, exponent_within}
use Rattle.law.proofs.Shrinkage.{one_moved}
use Rattle.law.proofs.Opening.{returns_scalable, column}
use Rattle.law.proofs.Ratio.{product_is, quotient_is}

-- ---- the parts of the call
abbrev pub column_moments : ℕ → ℕ → Matrix → Moments
column_moments P n x = moments P n (scaled (exponents_of P n x) x)

abbrev pub Σ : ℕ → Moments → Matrix
Σ n m = at m.covariance n

abbrev pub decomposed_correlations : ℕ → ℕ → Moments → Decomposition
decomposed_correlations limit n m = decompose limit n (correlations n m)

abbrev pub size_of : ℕ → ℕ → Matrix → ℕ → Float
size_of P n x = largest_in (exponents_of P n x) P x

-- of asset i, the inverse of the volatility, and the mean over it
abbrev pub inverse : ℕ → Moments → ℕ → Float
inverse n m i = one ⊘ volatility (Σ n m) i

abbrev pub mean_over : ℕ → Moments → ℕ → Float
mean_over n m i = nth m.mean i ⊘ volatility (Σ n m) i

pub exponent_at_lem : (P n : ℕ) (x : Matrix) (i : ℕ) → i < n → exponents_of P n x i ≡ binary_exponent (largest P x i)
exponent_at_lem P n x i l = get_or_tab n (λ i. binary_exponent (largest P x i)) i (pos 0) l

-- ---- each column over its power of two
module _ {k n P : ℕ} {x y : Matrix} (small : k ≤ max_power) (r : Returns k n P return_bounds x y) where
  abbrev u : Matrix
  u = scaled (exponents_of P n x) x

  abbrev m : Moments
  m = column_moments P n x

  entry_same : (t i : ℕ) → t < P → i < n → scaled (exponents_of P n y) y t i ≡ u t i
  unfolding scaled
  entry_same t i a b =
      ap (λ (e : ℤ). pow2_scaled (y t i) (neg_ℤ e)) (exponent_at_lem P n y i b) ∙ (column small r i b).same (r.entries t i a b) (largest_above r t i a b) ∙ sym (ap (λ (e : ℤ). pow2_scaled (x t i) (neg_ℤ e)) (exponent_at_lem P n x i b))

  pub column_moments_same : column_moments P n y ≡ m
  column_moments_same = moments_same n P (scaled (exponents_of P n y) y) (scaled (exponents_of P n x) x) entry_same

  size_same : (i : ℕ) → i < n → size_of P n y i ≡ size_of P n x i
  size_same i b =
      ap (λ (e : ℤ). pow2_scaled (largest P y i) (neg_ℤ e)) (exponent_at_lem P n y i b) ∙ (column small r i b).same (largest_moved r i b) (le_refl (mag (largest P x i))) ∙ sym (ap (λ (e : ℤ). pow2_scaled (largest P x i) (neg_ℤ e)) (exponent_at_lem P n x i b))

  pub column_constant_same : (m : Moments) → constant_asset n (Σ n m) (size_of P n y) ≡ constant_asset n (Σ n m) (size_of P n x)
  unfolding constant_asset
  column_constant_same m = first_ext n (λ i. is_constant (volatility (Σ n m) i) (size_of P n y i)) (λ i. is_constant (volatility (Σ n m) i) (size_of P n x i)) (λ i l. ap (λ (s : Float). is_constant (volatility (Σ n m) i) s) (size_same i l))

  entry_is : (t i : ℕ) → i < n → u t i ≡ pow2_scaled (x t i) (neg_ℤ (binary_exponent (largest P x i)))
  unfolding scaled
  entry_is t i b = ap (λ (e : ℤ). pow2_scaled (x t i) (neg_ℤ e)) (exponent_at_lem P n x i b)

  -- below 2 in size
  units : Returns 0 n P unit_bounds u u
  units = entries_as r (λ t i a b. still unit_bounds (subst (Bounded unit_bounds) (sym (entry_is t i b)) ((column small r i b).moved (r.entries t i a b) (largest_above r t i a b)).range))

  pub μ-range : (i : ℕ) → i < n → Bounded unit_mean_bounds (nth m.mean i)
  μ-range i a = (means_moved units zero-le i a).range

  variance_is : (i : ℕ) → i < n → Σ n m i i ≡ covariance P u i i
  unfolding moments
  variance_is i a = rows_at (covariance P u) n n i i a a

  variance_range : (i : ℕ) → i < n → Bounded unit_variance_bounds (Σ n m i i)
  variance_range i a = rw (variance_is i a) (covariance_moved units (lit≤ tt, lit≤ tt, lit≤ tt, lit≤ tt) i i a a).range

  variance_plus : (i : ℕ) → i < n → sign (Σ n m i i) ≡ false
  variance_plus i a = ap sign (variance_is i a) ∙ sign_variance P u i

  v_range : (i : ℕ) → i < n → Bounded unit_volatility_bounds (volatility (Σ n m) i)
  v_range i a = (moved_sqrt {k = 0} (still unit_variance_bounds (variance_range i a)) (sign_not_below (Σ n m i i) (variance_plus i a))).range

  -- ---- a column that is accepted
  module _ (i : ℕ) (a : i < n) (h : is_constant (volatility (Σ n (column_moments P n x)) i) (size_of P n x i) ≡ false) where
    abbrev A : Float
    A = largest P x i

    A-range : Bounded return_bounds (largest P x i)
    A-range = (largest_moved r i a).range

    size_range : Bounded unit_bounds (size_of P n x i)
    size_range = rw (exponent_at_lem P n x i a) ((column small r i a).moved (largest_moved r i a) (le_refl (mag A))).range

    size_plus : sign (size_of P n x i) ≡ false
    size_plus = sign_scaled A (neg_ℤ (exponents_of P n x i)) (sign_largest P x i)

    tolerance_range : Bounded tolerance_bounds (1e-10 ⊗ size_of P n x i)
    tolerance_range = (moved_mul ten_billionth_moved (still unit_bounds size_range) (lit≤ tt) (lit≤ tt)).range

    v_above : 0 < mag (volatility (Σ n m) i)
    v_above = above_zero (Σ n m i i) (size_of P n x i) (v_range i a) tolerance_range (variance_plus i a) size_plus h

    -- the column is not zero: the volatility of zeros is a zero, for their bounds leave room for nothing else
    not_zero : 0 < mag (largest P x i)
    not_zero = elim (eq-zero-or-pos (mag A)) [ inr p ↦ p | inl z ↦ absurd (zeros z) ]
      where
        same_column : covariance P (λ t j. u t i) i i ≡ covariance P u i i
        same_column = unfold covariance gram deviation mean in refl

        zeros : mag (largest P x i) ≡ 0 → ⊥
        zeros z =
            let w : Matrix = λ t j. scaled (exponents_of P n x) x t i in
            let zero-entry : (t : ℕ) → t < P → Bounded zero_bounds (scaled (exponents_of P n x) x t i) = λ t l.
            let q = (r.entries t i l a).range in
            let e = le_antisymm (le_trans (largest_above r t i l a) (le_of_eq z)) zero-le in
            rw (entry_is t i a, zero_scaled (x t i) (neg_ℤ (binary_exponent (largest P x i))) q.fit q.finite e) (range_null (x t i) q.fit q.finite e zero_bounds.grain (2 ^ zero_bounds.least) (2 ^ zero_bounds.most)) in
            let R : Returns 0 n P zero_bounds w w = entries_as r (λ t j l b. still zero_bounds (zero-entry t l)) in
            let u : Moved 0 (covariance_of zero_bounds) (Σ n m i i) (Σ n m i i) = rw (variance_is i a, ← same_column) (covariance_moved R (lit≤ tt, lit≤ tt, lit≤ tt, lit≤ tt) i i a a) in
            let v = (moved_sqrt {k = 0} u (sign_not_below (Σ n m i i) (variance_plus i a))).range in
            lt_irrefl 0 (subst (λ (k : ℕ). 0 < k) (only_zero (root_of (covariance_of zero_bounds)) (lit< tt) v) v_above)

    pub grows : exponents_of P n y i ≡ exponents_of P n x i +ℤ pos k
    grows = exponent_at_lem P n y i a ∙ ap binary_exponent (largest_moved r i a).copy ∙ exponent_shift (pos k) A A-range.finite not_zero ∙ ap (λ (e : ℤ). e +ℤ pos k) (sym (exponent_at_lem P n x i a))

    pub exponent_small : Within (exponent_above return_bounds) (exponent_below return_bounds) (exponents_of P n x i)
    exponent_small = rw (exponent_at_lem P n x i a) (column small r i a).small

    -- at least the tolerance of a column whose largest is at least 1
    v_least : 2 ^ ten_billionth_bounds.least ≤ mag (volatility (Σ n m) i)
    v_least =
        let t = 1e-10 ⊗ size_of P n x i in
        let one : 2 ^ one_bits ≤ mag (size_of P n x i) = rw (exponent_at_lem P n x i a) (scaled_least return_bounds A A-range not_zero returns_scalable) in
        let least : 2 ^ ten_billionth_bounds.least ≤ mag t = rw (product_is 1e-10 (size_of P n x i) ten_billionth_moved.range.fit size_range.fit tolerance_range.finite)
        (near_least (mag 1e-10 * mag (size_of P n x i)) U (2 ^ ten_billionth_bounds.least) U_pos (representable_pow ten_billionth_bounds.least) (le_trans (le_of_eq (ap (λ (z : ℕ). 2 ^ ten_billionth_bounds.least * z) U-is)) (mul-le-mul (ten_billionth_moved.range.least ten_billionth_above) one))) in
        le_of_lt (lt_of_le_of_lt least (le_no (volatility (Σ n m) i) t (plus_val (volatility (Σ n m) i) (v_range i a).fit (v_range i a).finite (sign_sqrt (Σ n m i i) (variance_plus i a))) (plus_val t tolerance_range.fit tolerance_range.finite (sign_mul 1e-10 (size_of P n x i) (unfold sign of_bits in sym size_plus))) h))

    v_moved : Moved 0 steady_volatility_bounds (volatility (Σ n m) i) (volatility (Σ n m) i)
    v_moved = still steady_volatility_bounds (range_size steady_volatility_bounds.least (2 ^ steady_volatility_bounds.most) (volatility (Σ n m) i) (lit≤ tt) (v_range i a).fit (v_range i a).finite (inr v_least) (v_range i a).most)

    -- its inverse, and the mean over it
    inverse_range : Bounded inverse_bounds (inverse n m i)
    inverse_range = (moved_over one_moved v_moved v_above (lit≤ tt) (lit≤ tt)).range

    inverse_above : 0 < mag (inverse n m i)
    inverse_above = rw (quotient_is one (volatility (Σ n m) i) one_moved.range.fit (v_range i a).fit (v_range i a).finite v_above inverse_range.finite)
        (lt_of_lt_of_le (pow_pos inverse_bounds.least) (near_least (mag one * U) (mag (volatility (Σ n m) i)) (2 ^ inverse_bounds.least) v_above (representable_pow inverse_bounds.least)
        (le_trans (mul-le-mul_left (2 ^ inverse_bounds.least) (v_range i a).most) (le_trans powers (mul-le-mul_right U one_least)))))
      where
        one_least : 2 ^ one_bits ≤ mag one
        one_least = unfold mag U in lit≤ tt

        powers : 2 ^ inverse_bounds.least * 2 ^ unit_volatility_bounds.most ≤ 2 ^ one_bits * U
        powers = unfold U in lit≤ tt

    pub inverse_some : eq (inverse n m i) zero⁺ ≡ false
    inverse_some = eq_zero (inverse n m i) inverse_range.fit inverse_range.finite ∙ ne_eqb (mag (inverse n m i)) 0 (λ e. lt_irrefl 0 (subst (λ (n : ℕ). 0 < n) e inverse_above))

    pub inverse_exponent : Within (exponent_above inverse_bounds) (exponent_below inverse_bounds) (binary_exponent (inverse n m i))
    inverse_exponent = exponent_within inverse_bounds (inverse n m i) inverse_range inverse_above (lit≤ tt) (lit≤ tt)

    pub mean_over_range : Bounded mean_over_bounds (mean_over n m i)
    mean_over_range = (moved_over (still unit_mean_bounds (μ-range i a)) v_moved v_above (lit≤ tt) (lit≤ tt)).range

    pub mean_over_exponent : Within (exponent_above mean_over_bounds) (exponent_below mean_over_bounds) (binary_exponent (mean_over n m i))
    mean_over_exponent =
        let z = mean_over n m i in
        elim (eq-zero-or-pos (mag z)) [
          | inr p ↦ exponent_within mean_over_bounds z mean_over_range p (lit≤ tt) (lit≤ tt)
          | inl e ↦ (rw (exponent_null z (range_value mean_over_range) e) (unfold pos_part neg_part in (zero-le, zero-le)))
        ]
