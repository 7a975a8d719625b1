-- Numbers over the power of two of a number A near their largest, in two runs of which the second has 2 ^ k times all numbers of the first. The exponent b(A) grows by k and the scaled numbers are
-- the same floats, below 2 in size, exactly (`scaling`). Where A is zero all numbers are, and the exponent stays 0: then the scaled numbers are zeros, which are their own copies
-- under a shift by k. What is computed from them is scaled back by 2 ^ b(A), and either way the second run's result is 2 ^ k times the first's (`scaled_back_lem`). Assumes nothing.
use mathlib.Core.Path.{◌≡◌, sym, ap, ap₂, ◌∙◌, subst}
use mathlib.Core.Logic.{inl, inr}
use Prim.Native.Nat.{ℕ, suc, ◌+◌, ◌-◌, ◌*◌, ◌^◌, ◌≤◌, ◌<◌, zero-le}
use native.Mathlib.Nat.{le_refl, le_trans, le_of_eq, le_of_lt, le_antisymm, lt_of_le_of_lt, lt_irrefl, eq-zero-or-pos, mul-one, mul-le-mul_left, mul-le-mul_right, le_of_mul-le-mul_right, sub_self, sub-zero, sub-add_cancel, one-mul}
use native.Mathlib.Omega.{arith}
use lib.Dec.{T}
use lib.IntN.{ℤ, pos, neg_ℤ, ◌+ℤ◌}
use lib.Pow.{pow-add, pow_pos, pow_mono}
use lib.Ieee.{Float, binary64, fits}
use Rattle.leaves.specs.Scaling.{binary_exponent, pow2_scaled}
use Rattle.leaves.specs.Shift.{shift}
use Rattle.leaves.proofs.Whole.{pos_part, neg_part, plus, one_side, same, pos_part_neg, neg_part_neg, Within}
use Rattle.leaves.proofs.Laws.{pow_back}
use Rattle.leaves.proofs.Shift.{shift_zero, shift_shift, shift_forth}
use Rattle.leaves.proofs.Units.{one_bits, top_bits, pow_under_Top, sign, mag, fits_shift}
use Rattle.leaves.proofs.Range.{Range, range_value, range_null, range_weaken, range_finer, range_grain}
use Rattle.leaves.proofs.Bounds.{Bounds, Bounded, multiples}
use Rattle.leaves.proofs.Operations.{Moved}
use Rattle.leaves.proofs.PowersOfTwo.{fits_move, range_move, scaled_moves, shift_null, lead, exponent_shift, exponent_range, exponent_null, zero_scaled, same_scaled, scaled_copy}
use Rattle.law.proofs.Ranges.{exponent_above, exponent_below, unit_of, scaled_by}

-- the exponent of a value in bounds is in theirs
pub exponent_within : (b : Bounds) (x : Float) → Bounded b x → 0 < mag x → b.least ≤ one_bits → one_bits ≤ b.most → Within (exponent_above b) (exponent_below b) (binary_exponent x)
exponent_within b x r p low high = let e = exponent_range b x r p in (omega (arith, one_side (binary_exponent x)), omega (arith, one_side (binary_exponent x)))

-- a number no larger than A is below the power of two above A
abbrev pub top_of : Float → ℕ
top_of A = suc one_bits + pos_part (binary_exponent A) - neg_part (binary_exponent A)

pub under_power : {g L B c M N : ℕ} (A x : Float) → Range c M N A → 0 < mag A → mag x ≤ mag A → Range g L B x → (neg_part (binary_exponent A) ≤ suc one_bits + pos_part (binary_exponent A)) × Range g L (2 ^ top_of A) x
under_power A x a p e r =
    let u = neg_part (binary_exponent A) in
    let q = (lead A a.finite (range_value a) p).1 in
    let s = le_of_lt (pow_back u (suc one_bits + pos_part (binary_exponent A)) (lt_of_le_of_lt (le_trans (le_of_eq (sym (one-mul (2 ^ u)))) (mul-le-mul_right (2 ^ u) p)) q)) in
    let most = le_trans e (le_of_mul-le-mul_right {k = 2 ^ u} (le_trans (le_of_lt q) (le_of_eq (ap (λ (z : ℕ). 2 ^ z) (sym (sub-add_cancel s)) ∙ pow-add 2 (top_of A) u))) (pow_pos u)) in
    (s, record { fit = r.fit; finite = r.finite; multiple = r.multiple; grain = r.grain; least = r.least; most = most })

-- ---- scaled by 2 ^ -b(A)
pub record Scaling (k : ℕ) (b : Bounds) (A A' : Float) : Type 0 where
  -- 0, or k where A is zero
  pub still : ℕ
  pub few : still ≤ k
  pub exponent : binary_exponent A' ≡ binary_exponent A +ℤ pos (k - still)
  pub small : Within (exponent_above b) (exponent_below b) (binary_exponent A)
  pub same : {d d' : Float} → Moved k b d d' → mag d ≤ mag A → pow2_scaled d' (neg_ℤ (binary_exponent A')) ≡ pow2_scaled d (neg_ℤ (binary_exponent A))
  pub moved : {d d' : Float} → Moved k b d d' → mag d ≤ mag A → let u = pow2_scaled d (neg_ℤ (binary_exponent A)) in Moved still (unit_of b) u u

-- bounds that are wide enough around 1, and not so wide that a scaled number leaves the format
abbrev pub Scalable : Bounds → Type 0
Scalable b = (b.grain ≤ b.least) × (b.least ≤ one_bits) × (b.grain ≤ one_bits) × (one_bits ≤ b.most) × (b.most ≤ b.grain + 1023)

module _ {k : ℕ} {b : Bounds} {A A' : Float} (a : Moved k b A A') (wide : Scalable b) (room : b.most + k ≤ top_bits) where
  fits_copy : {d d' : Float} → Moved k b d d' → T (fits binary64 (shift (pos k) d))
  fits_copy {d} m = fits_shift k d (sign d) (mag d) m.range.fit (range_value m.range) (lt_of_le_of_lt (le_trans (mul-le-mul_right (2 ^ k) m.range.most) (le_of_eq (sym (pow-add 2 b.most k)))) (pow_under_Top (b.most + k) room))

  -- of zeros
  module _ (z : mag A ≡ 0) where
    none : binary_exponent A ≡ pos 0
    none = exponent_null A (range_value a.range) z

    none' : binary_exponent A' ≡ pos 0
    none' = ap binary_exponent (a.copy ∙ shift_null (pos k) A a.range.fit a.range.finite z) ∙ none

    null : (d : Float) → mag d ≤ mag A → mag d ≡ 0
    null d l = le_antisymm (le_trans l (le_of_eq z)) zero-le

    of_zeros : Scaling k b A A'
    unfolding pos_part neg_part
    of_zeros = record {
      still = k;
      few = le_refl k;
      exponent = none' ∙ sym (ap₂ (λ (i : ℤ) (n : ℕ). i +ℤ pos n) none (sub_self k));
      small = rw none (zero-le, zero-le);
      same = λ {d} {d'} m l. ap₂ (λ (x : Float) (i : ℤ). pow2_scaled x (neg_ℤ i)) (m.copy ∙ shift_null (pos k) d m.range.fit m.range.finite (null d l)) (none' ∙ sym none);
      moved = λ {d} m l. let u = unit_of b in rw (zero_scaled d (neg_ℤ (binary_exponent A)) m.range.fit m.range.finite (null d l)) (record { range = range_null d m.range.fit m.range.finite (null d l) u.grain (2 ^ u.least) (2 ^ u.most); copy = sym (shift_null (pos k) d m.range.fit m.range.finite (null d l)) });
    }

  -- of others
  module _ (p : 0 < mag A) where
    inner : (b.grain + neg_part (binary_exponent A) ≤ pos_part (binary_exponent A) + one_bits) × (pos_part (binary_exponent A) + one_bits ≤ b.most + neg_part (binary_exponent A))
    inner = exponent_range (multiples b.grain b.most) A (range_grain a.range) p

    bounds : Within (exponent_above b) (exponent_below b) (binary_exponent A)
    bounds = exponent_within b A a.range p wide.1 wide.3

    abbrev top : ℕ
    top = top_of A

    under_top : {d d' : Float} → Moved k b d d' → mag d ≤ mag A → Range b.grain (2 ^ b.least) (2 ^ top) d
    under_top {d} m e = (under_power A d a.range p e m.range).1

    module _ {d d' : Float} (m : Moved k b d d') (e : mag d ≤ mag A) where
      in_low : neg_part (neg_ℤ (binary_exponent A)) ≤ b.grain + pos_part (neg_ℤ (binary_exponent A))
      in_low = omega (arith, neg_part_neg (binary_exponent A), bounds)

      in_high : top + pos_part (neg_ℤ (binary_exponent A)) ≤ top_bits + neg_part (neg_ℤ (binary_exponent A))
      in_high = omega (arith, pos_part_neg (binary_exponent A), neg_part_neg (binary_exponent A), inner)

      down_fits : T (fits binary64 (shift (neg_ℤ (binary_exponent A)) d))
      down_fits = fits_move top d (under_top m e) (neg_ℤ (binary_exponent A)) in_low in_high

      is : pow2_scaled d (neg_ℤ (binary_exponent A)) ≡ shift (neg_ℤ (binary_exponent A)) d
      is = scaled_moves top d (under_top m e) (neg_ℤ (binary_exponent A)) in_low in_high

      in_range : Bounded (unit_of b) (shift (neg_ℤ (binary_exponent A)) d)
      in_range =
          let q = bounds in
          let i : pos_part (neg_ℤ (binary_exponent A)) ≡ neg_part (binary_exponent A) = pos_part_neg (binary_exponent A) in
          let i' : neg_part (neg_ℤ (binary_exponent A)) ≡ pos_part (binary_exponent A) = neg_part_neg (binary_exponent A) in
          let c = b.grain + neg_part (binary_exponent A) - pos_part (binary_exponent A) in
          let s : Bounded (multiples c (suc one_bits)) (shift (neg_ℤ (binary_exponent A)) d) =
          range_move top d (under_top m e) (neg_ℤ (binary_exponent A)) in_low in_high c (2 ^ c) (2 ^ suc one_bits) (omega arith)
          (le_trans (le_of_eq (sym (pow-add 2 c (neg_part (neg_ℤ (binary_exponent A)))))) (le_trans (pow_mono {i = c + neg_part (neg_ℤ (binary_exponent A))} {j = b.least + pos_part (neg_ℤ (binary_exponent A))} (omega arith)) (le_of_eq (pow-add 2 b.least (pos_part (neg_ℤ (binary_exponent A)))))))
          (le_of_eq (sym (pow-add 2 top (pos_part (neg_ℤ (binary_exponent A)))) ∙ ap (λ (z : ℕ). 2 ^ z) (omega arith) ∙ pow-add 2 (suc one_bits) (neg_part (neg_ℤ (binary_exponent A))))) in
          finer c s (omega arith)
        where
          finer : (c : ℕ) {x : Float} → Bounded (multiples c (suc one_bits)) x → (unit_of b).grain ≤ c → Bounded (unit_of b) x
          finer c r f = range_finer (unit_of b).grain f (range_weaken (2 ^ (unit_of b).least) (2 ^ suc one_bits) (pow_mono f) (le_refl (2 ^ suc one_bits)) r)

    of_others : Scaling k b A A'
    of_others = record {
      still = 0;
      few = zero-le;
      exponent = ap binary_exponent a.copy ∙ exponent_shift (pos k) A a.range.finite p ∙ ap (λ (n : ℕ). binary_exponent A +ℤ pos n) (sym (sub-zero k));
      small = bounds;
      same = λ {d} {d'} m l.
          ap₂ (λ (x B : Float). pow2_scaled x (neg_ℤ (binary_exponent B))) m.copy a.copy
          ∙ same_scaled (pos k) d A m.range.fit (fits_copy m) (down_fits m l) a.range.finite p;
      moved = λ {d} m l. rw (is m l) (record { range = in_range m l; copy = sym (shift_zero (shift (neg_ℤ (binary_exponent A)) d)) });
    }

  pub scaling : Scaling k b A A'
  scaling = elim (eq-zero-or-pos (mag A)) [ inl z ↦ of_zeros z | inr p ↦ of_others p ]

-- ---- scaled back
pub scaled_back_lem : {k : ℕ} {b c : Bounds} {A A' y : Float} (s : Scaling k b A A') → Moved s.still c y y → exponent_below b ≤ c.grain → c.most + exponent_above b + k ≤ top_bits
    → pow2_scaled y (binary_exponent A') ≡ shift (pos k) (pow2_scaled y (binary_exponent A))
unfolding pos_part neg_part
scaled_back_lem {k} {b} {c} {A} {A'} {y} s m low high =
    let i = binary_exponent A in
    let n = pos (k - s.still) in
    let e = c.most in
    let f : T (fits binary64 (shift i y)) = fits_move e y m.range i (omega arith) (omega arith) in
    let f' : T (fits binary64 (shift (i +ℤ n) y)) = fits_move e y m.range (i +ℤ n) (omega (arith, plus i n)) (omega (arith, plus i n)) in
    ap (pow2_scaled y) s.exponent ∙ scaled_copy i n y m.range.fit f f' ∙ ap (shift n) (scaled_moves e y m.range i (omega arith) (omega arith))
    ∙ shift_shift i n y ∙ ap (shift (i +ℤ n)) m.copy ∙ shift_shift (pos s.still) (i +ℤ n) y
    ∙ ap (λ (z : ℤ). shift z y) (same (pos s.still +ℤ (i +ℤ n)) (i +ℤ pos k) (omega (arith, plus (pos s.still) (i +ℤ n), plus i n, plus i (pos k))))
    ∙ sym (shift_shift i (pos k) y) ∙ ap (shift (pos k)) (sym (scaled_moves e y m.range i (omega arith) (omega arith)))

-- its range
pub scaled_range : (b : Bounds) {y : Float} (j : ℤ) (p q : ℕ) → Bounded b y → pos_part j ≤ p → neg_part j ≤ q → q ≤ b.grain → b.most + p ≤ top_bits → Bounded (scaled_by p q b) (pow2_scaled y j)
scaled_range b {y} j p q r above below d o =
    let e = b.most in
    let c = b.grain in
    let low : neg_part j ≤ c + pos_part j = omega arith in
    let high : e + pos_part j ≤ top_bits + neg_part j = omega arith in
    let g = c + pos_part j - neg_part j in
    rw (scaled_moves e y r j low high)
    (range_finer (c - q) (omega arith) (range_move e y (range_grain r) j low high g (2 ^ (c - q)) (2 ^ (e + p)) (omega arith)
    (le_trans (le_of_eq (sym (pow-add 2 (c - q) (neg_part j)))) (le_trans (pow_mono {i = c - q + neg_part j} {j = c + pos_part j} (omega arith)) (le_of_eq (pow-add 2 c (pos_part j)))))
    (le_trans (le_of_eq (sym (pow-add 2 e (pos_part j)))) (le_trans (pow_mono {i = e + pos_part j} {j = e + p + neg_part j} (omega arith)) (le_of_eq (pow-add 2 (e + p) (neg_part j)))))))

-- a number over its own power of two is at least 1
pub scaled_least : (b : Bounds) (A : Float) → Bounded b A → 0 < mag A → Scalable b → 2 ^ one_bits ≤ mag (pow2_scaled A (neg_ℤ (binary_exponent A)))
scaled_least b A r p wide =
    let i = binary_exponent A in
    let h = b.most in
    let e = exponent_range b A r p in
    let u : pos_part (neg_ℤ i) ≡ neg_part i = pos_part_neg i in
    let u' : neg_part (neg_ℤ i) ≡ pos_part i = neg_part_neg i in
    let whole : Range b.grain (mag A) (2 ^ h) A = record { fit = r.fit; finite = r.finite; multiple = r.multiple; grain = r.grain; least = λ p. le_refl (mag A); most = r.most } in
    let low : neg_part (neg_ℤ i) ≤ b.grain + pos_part (neg_ℤ i) = omega arith in
    let high : h + pos_part (neg_ℤ i) ≤ top_bits + neg_part (neg_ℤ i) = omega arith in
    let n = h + pos_part (neg_ℤ i) in
    let c = b.grain + pos_part (neg_ℤ i) - neg_part (neg_ℤ i) in
    let s : Range c (2 ^ one_bits) (2 ^ n) (shift (neg_ℤ i) A) =
    range_move h A whole (neg_ℤ i) low high c (2 ^ one_bits) (2 ^ n) (omega arith)
    (le_trans (le_of_eq (sym (pow-add 2 one_bits (neg_part (neg_ℤ i))) ∙ ap (λ (z : ℕ). 2 ^ (one_bits + z)) u')) (le_trans (lead A r.finite (range_value r) p).0 (le_of_eq (ap (λ (z : ℕ). mag A * 2 ^ z) (sym u)))))
    (le_trans (le_of_eq (sym (pow-add 2 h (pos_part (neg_ℤ i))))) (le_trans (le_of_eq (sym (mul-one (2 ^ n)))) (mul-le-mul_left (2 ^ n) (pow_pos (neg_part (neg_ℤ i)))))) in
    rw (scaled_moves h A r (neg_ℤ i) low high) (s.least (some s))
  where
    some : {c B : ℕ} → Range c (2 ^ one_bits) B (shift (neg_ℤ (binary_exponent A)) A) → 0 < mag (shift (neg_ℤ (binary_exponent A)) A)
    some s = elim (eq-zero-or-pos (mag (shift (neg_ℤ (binary_exponent A)) A))) [
      | inr q ↦ q
      | inl z ↦ absurd (lt_irrefl 0 (subst (λ (n : ℕ). 0 < n) (ap mag (sym (shift_forth (binary_exponent A) A) ∙ shift_null (binary_exponent A) (shift (neg_ℤ (binary_exponent A)) A) s.fit s.finite z) ∙ z) p))
    ]
