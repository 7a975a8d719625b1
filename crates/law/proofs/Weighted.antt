-- The weighted mean and covariance. The weights are the same in both runs; over the power of two of a column's largest the returns are too, so the weighted mean of a column is one number, scaled back
-- by 2 ^ e and by 2 ^ (e + k). Everything is in a range in which nothing rounds differently, and the weighted covariance's products with it. Assumes nothing.
use mathlib.Core.Path.{◌≡◌, refl, sym, ap, ◌∙◌, subst}
use Prim.Native.Nat.{ℕ, ◌+◌, ◌-◌, ◌≤◌, ◌<◌}
use native.Mathlib.Nat.{lt_of_lt_of_le, zero-add, add-zero}
use native.Mathlib.Omega.{arith}
use mathlib.Core.Bool.{false}
use mathlib.Core.List.{List, map}
use lib.Dec.{T, lit≤}
use lib.IntN.{ℤ, pos, neg_ℤ}
use lib.ListN.{length}
use lib.Ieee.{Float, nan, binary64, fits}
use Rattle.leaves.specs.Numbers.{◌⊖◌, ◌⊗◌, ◌⊘◌, count}
use Rattle.leaves.specs.Loops.{sum_to, tab, fill, nth}
use Rattle.leaves.specs.Root.{sqrt}
use Rattle.leaves.specs.Scaling.{binary_exponent, pow2_scaled}
use Rattle.leaves.specs.Shift.{shift}
use Rattle.leaves.specs.Exp.{exp}
use Rattle.leaves.proofs.Loops.{sum_ext, get_or_tab}
use Rattle.leaves.proofs.Units.{sign, mag}
use Rattle.leaves.proofs.Operations.{Moved, still, moved_sub, moved_mul, moved_over}
use Rattle.leaves.proofs.Bounds.{product_of}
use Rattle.leaves.proofs.Signs.{sign_div, sign_not_below}
use Rattle.leaves.proofs.SqrtNearest.{moved_sqrt}
use Rattle.leaves.proofs.Totals.{moved_sum}
use Rattle.matrix.specs.Matrix.{Matrix, at}
use Rattle.rules.specs.Sample.{gram, largest}
use Rattle.rules.specs.Weighted.{log_decay, accepted_decay, weights, scaled_mean, weighted_mean, denominator, weighted_covariance}
use Rattle.rules.specs.Order.{decay_field, bad_decay, weighted_order, max_periods}
use Rattle.rules.specs.Calls.{answered, exponentially_weighted_mean}
use Rattle.rules.specs.declared.Decay.{Decay}
use Rattle.rules.specs.declared.Refusal.TheVariants.{BadSetting}
use Rattle.rules.specs.declared.Answer.TheVariants.{Mean}
use Rattle.std.specs.Prelude.{Ok}
use Rattle.law.specs.Law.{All, Sized, DecayInRange, Alike, ask, max_power, return_range, parts}
use Rattle.law.specs.Law as Law
use Rattle.law.proofs.Bits.{period_bits, period_bits_lem}
use Rattle.law.proofs.Ranges.{return_bounds, exponent_above, exponent_below, weight_bounds, total_weight_bounds, denominator_bounds, unit_bounds, weighted_unit_bounds, weighted_mean_bounds, root_weight_bounds, weighted_deviation_bounds}
use Rattle.law.proofs.Numbers.{filled_alike}
use Rattle.law.proofs.Chain.{Chain, ends, chain_must, chained, settled}
use Rattle.law.proofs.Sample.{Returns, largest_above}
use Rattle.law.proofs.Scaled.{Scaling, scaled_back_lem, scaled_range}
use Rattle.law.proofs.Opening.{returns, opening_chain, column}
use Rattle.law.proofs.Shrinkage.{Estimated}
use Rattle.law.proofs.Exponential.{Weight}
use Rattle.law.proofs.Weights.{Decaying, weight_range, denominator_range}
use Rattle.law.proofs.Decays.{in_range_decaying}
use Rattle.law.proofs.Sums.{sum_least}

-- ---- the weighted mean of a column
-- weights w, without a minus sign and not zero
pub record Weighing (P : ℕ) (w : List Float) : Type 0 where
  pub range : (t : ℕ) → t < P → Weight (nth w t)
  pub plus : (t : ℕ) → t < P → sign (nth w t) ≡ false
  pub above : (t : ℕ) → t < P → 0 < mag (nth w t)

module _ {k n P : ℕ} {x y : Matrix} (small : k ≤ max_power) (r : Returns k n P return_bounds x y) (w : List Float) (W : Weighing P w) where
  weight_moved : (t : ℕ) → t < P → Moved 0 weight_bounds (nth w t) (nth w t)
  weight_moved t l = still weight_bounds (W.range t l)

  all_moved : Moved 0 total_weight_bounds (sum_to P (nth w)) (sum_to P (nth w))
  all_moved = moved_sum 0 weight_bounds P period_bits (period_bits_lem r.most) (lit≤ tt) (lit≤ tt) (nth w) (nth w) weight_moved

  all_above : 0 < mag (sum_to P (nth w))
  all_above =
      let l : 0 < P = omega arith in
      lt_of_lt_of_le (W.above 0 l) (sum_least P (nth w) (λ t l. ((W.range t l).fit, W.plus t l)) all_moved.range.finite 0 l)

  module _ (i : ℕ) (a : i < n) where
    abbrev e : ℤ
    e = binary_exponent (largest P x i)

    abbrev common : Scaling k return_bounds (largest P x i) (largest P y i)
    common = column small r i a

    average_moved : Moved common.still weighted_unit_bounds (scaled_mean P w x i e) (scaled_mean P w x i e)
    average_moved =
        let j = common.still in
        let terms : (t : ℕ) → t < P → Moved j (product_of weight_bounds unit_bounds) (nth w t ⊗ pow2_scaled (x t i) (neg_ℤ e)) (nth w t ⊗ pow2_scaled (x t i) (neg_ℤ e)) =
        λ t l. rw (zero-add j) at (moved_mul (weight_moved t l) (common.moved (r.entries t i l a) (largest_above r t i l a)) (lit≤ tt) (omega (arith, common.few))) in
        moved_over (moved_sum j (product_of weight_bounds unit_bounds) P period_bits (period_bits_lem r.most) (lit≤ tt) (omega (arith, common.few)) (λ t. nth w t ⊗ pow2_scaled (x t i) (neg_ℤ e)) (λ t. nth w t ⊗ pow2_scaled (x t i) (neg_ℤ e)) terms)
        all_moved all_above (lit≤ tt) (omega (arith, common.few))

    mean_moved : Moved k weighted_mean_bounds (weighted_mean P w x i) (weighted_mean P w y i)
    unfolding weighted_mean
    mean_moved = record {
      range = scaled_range weighted_unit_bounds e (exponent_above return_bounds) (exponent_below return_bounds) average_moved.range common.small.0 common.small.1 (lit≤ tt) (lit≤ tt);
      copy = ap (λ (s : Float). pow2_scaled (s ⊘ sum_to P (nth w)) (binary_exponent (largest P y i)))
          (sum_ext P (λ t. nth w t ⊗ pow2_scaled (y t i) (neg_ℤ (binary_exponent (largest P y i)))) (λ t. nth w t ⊗ pow2_scaled (x t i) (neg_ℤ e)) (λ t l. ap (λ (z : Float). nth w t ⊗ z) (common.same (r.entries t i l a) (largest_above r t i l a))))
          ∙ scaled_back_lem common average_moved (lit≤ tt) (omega arith);
    }

-- ---- an accepted decay
weighing : (P : ℕ) → 2 ≤ P → P ≤ max_periods → (l : Float) → Decaying P l → Weighing P (weights P l)
unfolding weights
weighing P two most l d =
    let at-t : (t : ℕ) → t < P → exp (count (P - 1 - t) ⊗ l) ≡ nth (tab P (λ t. exp (count (P - 1 - t) ⊗ l))) t = λ t b. sym (get_or_tab P (λ t. exp (count (P - 1 - t) ⊗ l)) t nan b) in
    let q = weight_range P two most l d in
    record {
      range = λ t b. subst Weight (at-t t b) (q (P - 1 - t) (omega arith)).0;
      plus = λ t b. subst (λ (z : Float). sign z ≡ false) (at-t t b) (q (P - 1 - t) (omega arith)).1;
      above = λ t b. subst (λ (z : Float). 0 < mag z) (at-t t b) (q (P - 1 - t) (omega arith)).2;
    }

-- ---- the weighted covariance
pub covariance_moved : {k n P : ℕ} {x y : Matrix} → k ≤ max_power → Returns k n P return_bounds x y → (l : Float) → Decaying P l
    → (i j : ℕ) → i < n → j < n → Estimated (k + k) (weighted_covariance P l x i j) (weighted_covariance P l y i j)
unfolding weighted_covariance gram
covariance_moved {k} {n} {P} {x} {y} small r l q i j a b =
    let w = weights P l in
    let W = weighing P r.periods r.most l q in
    let D = denominator_range P r.periods r.most l q in
    let d = denominator P l in
    let root : (t : ℕ) → t < P → Moved 0 root_weight_bounds (sqrt (nth w t ⊘ d)) (sqrt (nth w t ⊘ d)) =
    λ t l. moved_sqrt {k = 0} (moved_over (still weight_bounds (W.range t l)) (still denominator_bounds D.0) D.2 (lit≤ tt) (lit≤ tt)) (sign_not_below (nth w t ⊘ d) (sign_div (nth w t) d (W.plus t l ∙ sym D.1))) in
    let term : (c : ℕ) → c < n → (t : ℕ) → t < P → Moved k weighted_deviation_bounds ((x t c ⊖ weighted_mean P w x c) ⊗ sqrt (nth w t ⊘ d)) ((y t c ⊖ weighted_mean P w y c) ⊗ sqrt (nth w t ⊘ d)) =
    λ c l t m. rw (add-zero k) at (moved_mul (moved_sub weighted_mean_bounds tt tt (r.entries t c m l) (mean_moved small r w W c l) (omega arith)) (root t m) (lit≤ tt) (omega arith)) in
    moved_sum (k + k) (product_of weighted_deviation_bounds weighted_deviation_bounds) P period_bits (period_bits_lem r.most) (lit≤ tt) (omega arith) (λ t. (x t i ⊖ weighted_mean P w x i) ⊗ sqrt (nth w t ⊘ d) ⊗ ((x t j ⊖ weighted_mean P w x j) ⊗ sqrt (nth w t ⊘ d)))
    (λ t. (y t i ⊖ weighted_mean P w y i) ⊗ sqrt (nth w t ⊘ d) ⊗ ((y t j ⊖ weighted_mean P w y j) ⊗ sqrt (nth w t ⊘ d)))
    (λ t l. moved_mul (term i a t l) (term j b t l) (lit≤ tt) (omega arith))

-- ---- the call
module _ (k : ℕ) (small : k ≤ max_power) (r : List Float) (sizes : All (Sized return_range) r) (n P : ℕ) (d : Decay Float) (slow : DecayInRange P d) where
  abbrev mean : List Float → ℕ → Float
  mean r = weighted_mean P (weights P (log_decay d)) (at r n)

  pub weighted_law : (slice slice' : List Float) → length slice' ≡ length slice → Alike (pos k) (parts n (ask r n P (Law.weighted_mean d) slice)) (parts n (ask (map (shift (pos k)) r) n P (Law.weighted_mean d) slice'))
  unfolding exponentially_weighted_mean
  weighted_law slice slice' e =
      let r' = map (shift (pos k)) r in
      settled (chained chain) (pos k) n slice slice' (answered (Ok Mean) (fill n (mean r) slice)) (answered (Ok Mean) (fill n (mean r') slice'))
      (λ p p' same. record { refusal = refl; entries = tt; means_and_target = filled_alike k n (mean r) (mean r') slice slice' same; intensity = tt; sweeps_and_rotations = refl })
    where
      chain : Chain ((i : ℕ) → i < n → T (fits binary64 (mean r i)) × (mean (map (shift (pos k)) r) i ≡ shift (pos k) (mean r i))) (weighted_order r n P d slice) (weighted_order (map (shift (pos k)) r) n P d slice')
      chain = unfold weighted_order bad_decay in
          opening_chain k small r sizes n P n slice slice' e (λ s opens. chain_must (accepted_decay d) (BadSetting (decay_field d)) refl (λ ok. ends (λ i l.
          let W = weighing P s.2 s.3 (log_decay d) (in_range_decaying P s.2 s.3 d slow ok) in
          let m = mean_moved small (returns k small r sizes n P s) (weights P (log_decay d)) W i l in
          (m.range.fit, m.copy))))
