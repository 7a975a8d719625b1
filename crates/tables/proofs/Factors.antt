-- A power of two as two factors: multiplied by both, every number, NaN too, is scaled as by `pow2_scaled`. Assumes nothing.
use Rattle.std.proofs.Common.{◌≡◌, ℕ, ◌+◌, ◌<◌, ◌≤◌, false, List, length, set, ℤ, pos, ◌-ℤ◌, neg_ℤ, nat_abs, sym, ap, ◌∙◌, subst, ⊎_elim, arith, length-set, get_or-set_other, get_or-set_same}
use lib.IntN.{+ℤ_idl, +ℤ_invr}
use lib.Ieee.{Float, nan, fin, binary64}
use lib.Ieee.Fits.{mul-fits}
use Rattle.leaves.specs.Numbers.{◌⊗◌, one}
use Rattle.leaves.specs.Loops.{nth}
use Rattle.leaves.specs.Shift.{shift}
use Rattle.leaves.specs.Scaling.{pow2, pow2_scaled, cut}
use Rattle.leaves.proofs.Whole.{pos_part, neg_part, one_side, minus, same, le_or_lt}
use Rattle.leaves.proofs.Scale.{pow2_fits, scaled_once, scaled_exact, times_one}
use Rattle.leaves.proofs.ScaleSteps.{cut_range, scale_last, scale_step}
use Rattle.rules.specs.BayesStein.{exponent_at}
use Rattle.tables.specs.Powers.{Factored, UnitsTo}
use Rattle.tables.specs.Exponents.{max_exponent}
use Rattle.tables.proofs.Exponents.{size_is}

-- ---- 2 ^ k, made of 1

shift_one : (k : ℤ) → shift k one ≡ pow2 k
unfolding shift
shift_one k = ap (fin false 1) (+ℤ_idl k)

power : (k : ℤ) → pos_part k ≤ 1023 → neg_part k ≤ 1022 → pow2_scaled one k ≡ pow2 k
unfolding pos_part neg_part
power k h l = scaled_exact one k (pow2_fits (pos 0) (omega arith) (omega arith)) (rw (shift_one k) (pow2_fits k h (omega arith))) ∙ shift_one k

-- ---- the factors

-- the part of k that is kept, and what is left of it
pub factored : (k : ℤ) → nat_abs k ≤ max_exponent → (near far : Float) → near ≡ pow2_scaled one (cut k) → far ≡ pow2_scaled one (k -ℤ cut k) → Factored near far k
factored k size near far e e' x =
    let j = cut k in
    let t = (cut_range k).top in
    let b = (cut_range k).bottom in
    let hj : pos_part j ≤ 1023 = omega arith in
    let lj : neg_part j ≤ 1022 = omega arith in
    let hk : pos_part (k -ℤ j) ≤ 1023 = omega (arith, minus k j, one_side (k -ℤ j), size_is k) in
    let lk : neg_part (k -ℤ j) ≤ 1022 = omega (arith, minus k j, one_side (k -ℤ j), size_is k) in
    (λ i. x ⊗ (e ∙ power j hj lj) i ⊗ (e' ∙ power (k -ℤ j) hk lk) i)
    ∙ ⊎_elim (λ l. whole (same j k (omega arith))) (λ l. sym (scaled_once (x ⊗ pow2 j) (k -ℤ j) hk lk) ∙ scale_step x k (λ h. absurd (omega (arith, ap pos_part h, ap neg_part h)))) (le_or_lt (pos_part k + neg_part k) (pos_part j + neg_part j))
  where
    whole : cut k ≡ k → x ⊗ pow2 (cut k) ⊗ pow2 (k -ℤ cut k) ≡ pow2_scaled x k
    whole h = ap (λ (j : ℤ). x ⊗ pow2 j ⊗ pow2 (k -ℤ j)) h ∙ ap (λ (z : ℤ). x ⊗ pow2 k ⊗ pow2 z) (+ℤ_invr k) ∙ times_one (x ⊗ pow2 k) (mul-fits binary64 x (pow2 k)) ∙ scale_last x k h

-- ---- a list of factors, one column more

module _ (n i : ℕ) (es : List ℤ) (out : List Float) (near far : Float) (h : i < n) (len : length out ≡ n + n) where
  abbrev next : List Float
  next = set (set out i near) (n + i) far

  kept : (k : ℕ) → (k ≡ i → ⊥) → (k ≡ n + i → ⊥) → nth next k ≡ nth out k
  kept k a b = get_or-set_other (set out i near) (n + i) k far nan b ∙ get_or-set_other out i k near nan a

  near_is : nth next i ≡ near
  near_is = get_or-set_other (set out i near) (n + i) i far nan (λ e. absurd (omega arith)) ∙ get_or-set_same out i near nan (omega arith)

  far_is : nth next (n + i) ≡ far
  far_is = get_or-set_same (set out i near) (n + i) far nan (omega (arith, length-set out i near))

  pub units_more : UnitsTo n i es out → Factored near far (neg_ℤ (exponent_at es i)) → UnitsTo n (i + 1) es next
  units_more before here j l =
      ⊎_elim
      (λ (g : i ≤ j). let e : i ≡ j = omega arith in
      subst (λ (k : ℕ). Factored (nth next k) (nth next (n + k)) (neg_ℤ (exponent_at es k))) e (λ x. (λ t. x ⊗ near_is t ⊗ far_is t) ∙ here x))
      (λ (g : j < i). λ x.
      (λ t. x ⊗ kept j (λ e. absurd (omega arith)) (λ e. absurd (omega arith)) t ⊗ kept (n + j) (λ e. absurd (omega arith)) (λ e. absurd (omega arith)) t) ∙ before j g x)
      (le_or_lt i j)
