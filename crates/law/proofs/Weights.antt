-- The weights of an accepted log l of the decay with (T - 1) l ≥ -48: each is from 2 ^ -72 to 2, and the covariance's denominator from 2 ^ -77 to 2 ^ 20. Where l is so small that it is not in
-- the normal range, the two exp_m1 of the denominator are near multiples of it, which cancel. They are the same in both runs. Assumes nothing.
use mathlib.Core.Path.{◌≡◌, refl, sym, ap, ◌∙◌, subst}
use mathlib.Core.Logic.{inl, inr}
use Prim.Native.Nat.{ℕ, ◌+◌, ◌-◌, ◌*◌, ◌^◌, ◌≤◌, ◌<◌, zero-le}
use native.Mathlib.Nat.{le_refl, le_trans, le_of_eq, lt_of_lt_of_le, lt_of_le_of_lt, lt_irrefl, mul-le-mul, mul-le-mul_left, mul-le-mul_right, mul-pos, mul_assoc, mul_comm, mul_right_comm, mul-one, one-mul}
use native.Mathlib.Omega.{arith}
use mathlib.Core.Bool.{Bool, true, false, and-eq-true_iff}
use lib.Dec.{T, lit≤, lit<}
use lib.IntN.{pos}
use lib.Pow.{pow_pos}
use lib.Ieee.{Float, nan, inf, fin, binary64, fits, neg, lt, le, eq}
use lib.Ieee.Fits.{div-fits}
use borrow.Author.Tests.{ltb-true}
use Rattle.leaves.specs.Numbers.{◌⊗◌, ◌⊘◌, zero⁺, two, count, is_finite}
use Rattle.leaves.specs.Exp.{exp, exp_m1}
use Rattle.leaves.proofs.Rounding.{near, Representable, near_most, near_least, near_error, near_representable, representable_pow, representable_up}
use Rattle.leaves.proofs.Units.{U, U_pos, pow_under_Top, Val, sign, mag, val_mag, val_finite, mag_val, mag_representable, zero_val, neg_val, rounded_val, lt_val}
use Rattle.leaves.proofs.Arithmetic.{div_rounded}
use Rattle.leaves.proofs.Range.{count_val, range_size, two_val}
use Rattle.leaves.proofs.Bounds.{Bounded}
use Rattle.leaves.proofs.Whole.{le_or_lt}
use Rattle.rules.specs.Weighted.{min_log_decay, accepted, denominator}
use Rattle.rules.specs.Order.{max_periods}
use Rattle.law.proofs.Exponential.{W, age_most, argument_most, U-W, W-pos, mul_most, Exp, exp_within, product_least, product_most, ExpM1, exp_m1_within, exp_above, Weight, exp_val}
use Rattle.law.proofs.Bits.{period_bits, period_bits_lem}
use Rattle.law.proofs.Ranges.{weight_bounds, denominator_bounds}

-- ---- the log of a decay
pub record Decaying (P : ℕ) (l : Float) : Type 0 where
  pub fit : T (fits binary64 l)
  pub ok : accepted l ≡ true
  -- in units, age_most W being 48
  pub aged : (P - 1) * mag l ≤ age_most * W

-- it is finite and below zero
pub log_val : (l : Float) → T (fits binary64 l) → accepted l ≡ true → Val l true (mag l) × (0 < mag l)
log_val nan t e = unfold accepted le lt eq in absurd (subst T (sym e) tt)
log_val (inf true) t e = unfold accepted le lt eq in absurd (subst T (sym e) tt)
log_val (inf false) t e = unfold accepted le lt eq in absurd (subst T (sym e) tt)
log_val (fin s m x) t e =
    let v = mag_val (fin s m x) t (unfold is_finite in tt) in
    let q = signed (fin s m x) (sign (fin s m x)) (mag (fin s m x)) v ((and-eq-true_iff (le min_log_decay (fin s m x)) (lt (fin s m x) zero⁺)).0 (unfold accepted in e)).1 in
    (subst (λ (b : Bool). Val (fin s m x) b (mag (fin s m x))) q.0 v, q.1)
  where
    signed : (l : Float) (s : Bool) (a : ℕ) → Val l s a → lt l zero⁺ ≡ true → (s ≡ true) × (0 < a)
    signed l false a v e = absurd (lt_irrefl 0 (lt_of_le_of_lt zero-le (ltb-true a 0 (sym (lt_val l zero⁺ false false a 0 v (zero_val false (pos 0))) ∙ e))))
    signed l true a v e = (refl, let p = ltb-true 0 (a + 0) (sym (lt_val l zero⁺ true false a 0 v (zero_val false (pos 0))) ∙ e) in omega arith)

log_held : (l : Float) → T (fits binary64 l) → accepted l ≡ true → Representable (mag l)
log_held l t e = (mag_representable l t (val_finite l true (mag l) (log_val l t e).0)).0

module _ (P : ℕ) (periods : 2 ≤ P) (most : P ≤ max_periods) (l : Float) (d : Decaying P l) where
  abbrev m : ℕ
  m = mag l

  times_bound : (j : ℕ) → j ≤ P - 1 → j * mag l ≤ age_most * W
  times_bound j few = le_trans (mul-le-mul_right m few) d.aged

  -- ---- the weights
  exponent_val : (j : ℕ) → j ≤ P - 1 → Val (count j ⊗ l) true (near (j * U * mag l) U) × (near (j * U * mag l) U ≤ age_most * W)
  exponent_val j few = mul_most age_most (lit≤ tt) (count j) l false true (j * U) m (count_val j (le_trans few (le_trans (omega arith) (le_trans most (lit≤ tt))))) (log_val l d.fit d.ok).0
      (le_trans (le_of_eq (mul_right_comm j U m)) (mul-le-mul_right U (times_bound j few)))

  weight : (j : ℕ) → (few : j ≤ P - 1) → Exp (count j ⊗ l) (near (j * U * mag l) U)
  weight j few = let v = exponent_val j few in exp_within (count j ⊗ l) (near (j * U * m) U) v.0 (le_trans v.1 (omega arith))

  pub weight_range : (j : ℕ) → j ≤ P - 1 → Weight (exp (count j ⊗ l)) × (sign (exp (count j ⊗ l)) ≡ false) × (0 < mag (exp (count j ⊗ l)))
  weight_range j few =
      let v = exponent_val j few in
      let x = weight j few in
      (x.range (le_trans v.1 (omega arith)), x.plus, exp_above x)

  -- ---- the denominator
  log_bound : mag l ≤ age_most * W
  log_bound = le_trans (le_of_eq (sym (one-mul m))) (times_bound 1 (omega arith))

  log_exp : Exp l (mag l)
  log_exp = exp_within l m (log_val l d.fit d.ok).0 (le_trans log_bound (omega arith))

  -- (T - 1) l, from l to 2 ^ period_bits l
  span : ℕ
  span = near ((P - 1) * U * mag l) U

  span_within : (mag l ≤ span) × (span ≤ 2 ^ period_bits * mag l)
  unfolding span
  span_within =
      let n = (P - 1) * U * m in
      let k = log_held l d.fit d.ok in (
        near_least n U m U_pos k (le_trans (le_of_eq (mul_comm m U)) (mul-le-mul_right m (le_trans (le_of_eq (sym (one-mul U))) (mul-le-mul_right U (omega arith))))),
        near_most n U (2 ^ period_bits * m) U_pos (subst Representable (mul_comm m (2 ^ period_bits)) (representable_up m period_bits k)) (le_trans (mul-le-mul_right m (mul-le-mul_right U (period_bits_lem (le_trans (omega arith) most)))) (le_of_eq (mul_right_comm (2 ^ period_bits) U m))),
      )

  above : ExpM1 (count (P - 1) ⊗ l) span
  unfolding span
  above =
      let v = exponent_val (P - 1) (le_refl (P - 1)) in
      exp_m1_within (count (P - 1) ⊗ l) (near ((P - 1) * U * m) U) v.0 (lt_of_lt_of_le (log_val l d.fit d.ok).1 (unfold span in span_within.0)) (le_trans v.1 (omega arith))

  twice_val : Val (two ⊗ l) true (2 * mag l)
  twice_val =
      let e : near (2 * U * m) U ≡ 2 * m = ap (λ (n : ℕ). near n U) (mul_right_comm 2 U m) ∙ near_representable (2 * m) U U_pos (subst Representable (mul_comm m 2) (representable_up m 1 (log_held l d.fit d.ok))) in
      subst (Val (two ⊗ l) true) e (mul_most argument_most (lit≤ tt) two l false true (2 * U) m two_val (log_val l d.fit d.ok).0
      (le_trans (le_of_eq (mul_right_comm 2 U m)) (mul-le-mul_right U (let b = log_bound in omega arith)))).0

  below : ExpM1 (two ⊗ l) (2 * mag l)
  below = exp_m1_within (two ⊗ l) (2 * m) twice_val (let p = (log_val l d.fit d.ok).1 in omega arith) (let b = log_bound in omega arith)

  -- 2 λ
  factor : ℕ
  factor = 2 * mag (exp l)

  exp_most : mag (exp l) ≤ 54 * W
  exp_most = let x = log_exp in le_trans (le_trans (le_of_eq (sym (mul-one (mag (exp l))))) (mul-le-mul_left (mag (exp l)) (pow_pos x.power.K))) (le_trans (le_of_eq x.is) x.most)

  factor_val : Val (two ⊗ exp l) false factor
  unfolding factor
  factor_val =
      let x = log_exp in
      let b = mag (exp l) in
      let e : near (2 * U * b) U ≡ 2 * b = ap (λ (n : ℕ). near n U) (mul_right_comm 2 U b) ∙ near_representable (2 * b) U U_pos (subst Representable (mul_comm b 2) (representable_up b 1 (mag_representable (exp l) x.fit x.finite).0)) in
      subst (Val (two ⊗ exp l) false) e (mul_most 108 (lit≤ tt) two (exp l) false false (2 * U) b two_val (exp_val x) (le_trans (le_of_eq (mul_right_comm 2 U b)) (mul-le-mul_right U (let l = exp_most in omega arith)))).0

  -- the two exp_m1, and the dividend
  E₁ : ℕ
  E₁ = above.E

  E₂ : ℕ
  E₂ = below.E

  dividend : ℕ
  dividend = near (factor * E₁) U

  E₁-most : E₁ ≤ 48 * W
  unfolding E₁
  E₁-most = elim (le_or_lt span (16 * W)) [ inl c ↦ (let q = (above.near_zero c).1 in omega arith) | inr c ↦ (let q = (above.far c).1 in omega arith) ]

  dividend_val : Val (two ⊗ exp l ⊗ neg (exp_m1 (count (P - 1) ⊗ l))) false dividend × (dividend ≤ 162 * W)
  unfolding dividend E₁ factor
  dividend_val = mul_most 162 (lit≤ tt) (two ⊗ exp l) (neg (exp_m1 (count (P - 1) ⊗ l))) false false factor above.E factor_val (neg_val (exp_m1 (count (P - 1) ⊗ l)) true above.E above.val)
      (le_trans (mul-le-mul (mul-le-mul_left 2 exp_most) E₁-most) (le_of_eq (regroup W ∙ ap (λ (u : ℕ). 162 * W * u) (sym U-W))))
    where
      regroup : (w : ℕ) → 2 * (54 * w) * (48 * w) ≡ 162 * w * (32 * w)
      regroup w = omega arith

  -- its quotient by the divisor: from 2 ^ -77 to 2 ^ 20
  close : mag l ≤ 8 * W → (0 < E₂) × (E₂ ≤ 1536 * dividend) × (dividend ≤ 168 * 2 ^ period_bits * E₂)
  unfolding E₂ dividend E₁ factor
  close c =
      let x = log_exp in
      let k : mag (exp l) ≡ x.numerator = sym (mul-one (mag (exp l))) ∙ ap (λ (n : ℕ). mag (exp l) * 2 ^ n) (sym (x.power.none c)) ∙ x.is in
      let n = near_error (2 * mag (exp l) * above.E) U U_pos in
      let b = below.near_zero (omega arith) in
      let s = span_within in
      let e : (m ≤ 16 * above.E) × (above.E ≤ 3 * 2 ^ period_bits * m) = elim (le_or_lt span (16 * W)) [
        | inl q ↦ (let z = above.near_zero q in (omega arith, omega arith))
        | inr q ↦ (let z = above.far q in (omega arith, omega arith))
      ] in
      let p = (log_val l d.fit d.ok).1 in
      let turn : above.E * (2 * mag (exp l)) ≡ 2 * mag (exp l) * above.E = mul_comm above.E (2 * mag (exp l)) in
      let least : 20 * W ≤ 2 * mag (exp l) = (let l = le_trans x.least (le_of_eq (sym k)) in omega arith) in
      let most : 2 * mag (exp l) ≤ 108 * W = (let l = exp_most in omega arith) in
      let g = near (2 * mag (exp l) * above.E) U in
      let q₁ = product_least above.E (2 * mag (exp l)) g W U U-W W-pos (omega arith) least (le_trans (le_of_eq (ap (λ (z : ℕ). 2 * z) turn)) n.halved) in
      let q₂ = product_most above.E (2 * mag (exp l)) 108 g W U U-W W-pos most (le_trans n.doubled (le_of_eq (ap (λ (z : ℕ). 2 * z) (sym turn)))) in
      (omega arith, omega arith, omega arith)

  apart : 8 * W < mag l → (5 * W ≤ E₂) × (E₂ ≤ 32 * W) × (2 ^ denominator_bounds.least ≤ dividend)
  unfolding E₂ dividend E₁ factor
  apart c =
      let b = below.far (omega arith) in
      let s = span_within in
      let r = log_exp.range log_bound in
      let e : 1 * W ≤ 2 * above.E = elim (le_or_lt span (16 * W)) [ inl q ↦ (let z = (above.near_zero q).0 in omega arith) | inr q ↦ (let z = (above.far q).0 in omega arith) ] in (
        b.0,
        b.1,
        near_least (2 * mag (exp l) * above.E) U (2 ^ denominator_bounds.least) U_pos (representable_pow denominator_bounds.least)
            (le_trans powers (le_trans (mul-le-mul (r.least (exp_above log_exp)) e) (le_of_eq (regroup (mag (exp l)) above.E)))),
      )
    where
      powers : 2 ^ denominator_bounds.least * U ≤ 2 ^ weight_bounds.least * (1 * W)
      powers = unfold U W in lit≤ tt

      regroup : (b E : ℕ) → b * (2 * E) ≡ 2 * b * E
      regroup b E = omega arith

  quotient_bounds : (0 < E₂) × (2 ^ denominator_bounds.least * E₂ ≤ dividend * U) × (dividend * U ≤ 2 ^ denominator_bounds.most * E₂)
  quotient_bounds = elim (le_or_lt (mag l) (8 * W)) [
    | inl c ↦
        let q = close c in (
          q.0,
          le_trans (mul-le-mul_left (2 ^ denominator_bounds.least) q.1) (le_trans (le_of_eq (sym (mul_assoc (2 ^ denominator_bounds.least) 1536 dividend))) (le_trans (mul-le-mul_right dividend small₁) (le_of_eq (mul_comm U dividend)))),
          le_trans (mul-le-mul_right U q.2) (le_trans (le_of_eq (mul_right_comm (168 * 2 ^ period_bits) E₂ U)) (mul-le-mul_right E₂ large₁)),
        )
    | inr c ↦
        let q = apart c in (
          lt_of_lt_of_le (mul-pos (lit< {m = 0} {n = 5} tt) W-pos) q.0,
          le_trans (mul-le-mul q.2 q.1) (le_of_eq (ap (λ (u : ℕ). dividend * u) (sym U-W))),
          le_trans (mul-le-mul_right U (le_trans dividend_val.1 (let b = q.0 in bigger E₂ W b))) (le_trans (le_of_eq (mul_right_comm (168 * 2 ^ period_bits) E₂ U)) (mul-le-mul_right E₂ large₁)),
        )
  ]
    where
      small₁ : 2 ^ denominator_bounds.least * 1536 ≤ U
      small₁ = unfold U in lit≤ tt

      large₁ : 168 * 2 ^ period_bits * U ≤ 2 ^ denominator_bounds.most
      large₁ = unfold U in lit≤ tt

      bigger : (E w : ℕ) → 5 * w ≤ E → 162 * w ≤ 168 * 2 ^ period_bits * E
      bigger E w b = omega arith

  pub denominator_range : Bounded denominator_bounds (denominator P l) × (sign (denominator P l) ≡ false) × (0 < mag (denominator P l))
  unfolding denominator E₂
  denominator_range =
      let x = two ⊗ exp l ⊗ neg (exp_m1 (count (P - 1) ⊗ l)) in
      let y = neg (exp_m1 (two ⊗ l)) in
      let q = quotient_bounds in
      let least = near_least (dividend * U) E₂ (2 ^ denominator_bounds.least) q.0 (representable_pow denominator_bounds.least) q.1 in
      let most = near_most (dividend * U) E₂ (2 ^ denominator_bounds.most) q.0 (representable_pow denominator_bounds.most) q.2 in
      let v : Val (x ⊘ y) false (near (dividend * U) E₂) = subst (λ (z : Float). Val z false (near (dividend * U) E₂)) (sym (div_rounded x y false false dividend E₂ dividend_val.0 (neg_val (exp_m1 (two ⊗ l)) true below.E below.val) q.0))
      (rounded_val false (dividend * U) E₂ q.0 (lt_of_le_of_lt most (pow_under_Top denominator_bounds.most (lit≤ tt)))) in
      let i = val_mag (x ⊘ y) false (near (dividend * U) E₂) v in
      (range_size denominator_bounds.least (2 ^ denominator_bounds.most) (x ⊘ y) (lit≤ tt) (div-fits binary64 x y) (val_finite (x ⊘ y) false (near (dividend * U) E₂) v) (inr (rw i.1 least)) (rw i.1 most), i.0, rw i.1 (lt_of_lt_of_le (pow_pos denominator_bounds.least) least))
