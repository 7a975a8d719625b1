-- `Range g L B x`: x is a finite value of binary64, a multiple of 2 ^ g units, zero or of L units at least, and of B units at most. A unit is 2 ^ -1074, so 2 ^ n units are
-- 2 ^ (n - 1074). The grain g and the least size L stand apart: a difference keeps its operands' grain and loses their size. Here is how a range is known: from a narrower one, with the other sign, of a zero, from the
-- value's size, from a test that computes, of a count, and of a fraction that is rounded. Assumes nothing.
use Rattle.std.proofs.Common.{◌≡◌, ℕ, ◌+◌, ◌-◌, ◌*◌, ◌^◌, ◌<◌, ◌≤◌, Bool, true, false, ◌&&◌, ◌||◌, T, eqb, leb, ◌⊎◌, pos, sym, refl, ap, ◌∙◌, subst, inl, inr, zero-le, le_trans, le_of_eq, lt_of_lt_of_le, lt_of_le_of_lt, le_of_lt, lt_irrefl, mul-le-mul_right, eq-zero-or-pos, mul-pos, zero-mul, mul-one, sub-add_cancel, arith, lit<, lit≤, eqb→eq, leb→le, pow_mono, pow-add}
use lib.Ieee.{Float, nan, inf, fin, binary64, neg, of_int, fits}
use lib.Ieee.Back.{round_whole}
use lib.Ieee.Fits.{and_l, and_r, neg-fits, of_int-fits}
use mir.Facts.{or_yes}
use Rattle.leaves.specs.Numbers.{zero⁺, two, count, is_finite, abs}
use Rattle.leaves.proofs.Rounding.{near, Representable, Grained, near_most, near_least, near_grain, representable_small, representable_grain, in_place}
use Rattle.leaves.proofs.Units.{fraction_bits, U, U_pos, zero_mag, U-is, Top, Val, val_of, rounded, sign, mag, val_mag, val_finite, mag_val, mag_representable, mag_neg, rounded_fits, rounded_val}

pub record Range (g L B : ℕ) (x : Float) : Type 0 where
  pub fit : T (fits binary64 x)
  pub finite : T (is_finite x)
  pub multiple : ℕ
  pub grain : mag x ≡ multiple * 2 ^ g
  pub least : 0 < mag x → L ≤ mag x
  pub most : mag x ≤ B

-- a test that computes: zero, or from 2 ^ l to 2 ^ h units
unfoldable pub sized : ℕ → ℕ → Float → Bool
sized l h x = fits binary64 x && is_finite x && (eqb (mag x) 0 || leb (2 ^ l) (mag x)) && leb (mag x) (2 ^ h)

pub range_value : {g L B : ℕ} {x : Float} → Range g L B x → Val x (sign x) (mag x)
range_value {x = x} r = mag_val x r.fit r.finite

-- ---- weaker ranges
pub range_weaken : {g L B : ℕ} {x : Float} (L' B' : ℕ) → L' ≤ L → B ≤ B' → Range g L B x → Range g L' B' x
range_weaken L' B' l b r = record { fit = r.fit; finite = r.finite; multiple = r.multiple; grain = r.grain; least = λ p. le_trans l (r.least p); most = le_trans r.most b }

pub range_finer : {g L B : ℕ} {x : Float} (g' : ℕ) → g' ≤ g → Range g L B x → Range g' L B x
range_finer {g} g' l r = record { fit = r.fit; finite = r.finite; multiple = r.multiple * 2 ^ (g - g'); grain = r.grain ∙ sym (in_place r.multiple g g' l); least = r.least; most = r.most }

-- what is not zero is 2 ^ g units at least, whatever else is known
pub range_grain : {g L B : ℕ} {x : Float} → Range g L B x → Range g (2 ^ g) B x
range_grain {g} {x = x} r = record {
  fit = r.fit;
  finite = r.finite;
  multiple = r.multiple;
  grain = r.grain;
  least = λ (p : 0 < mag x). go (eq-zero-or-pos r.multiple) p;
  most = r.most;
}
  where
    go : (r.multiple ≡ 0) ⊎ (0 < r.multiple) → 0 < mag x → 2 ^ g ≤ mag x
    go (inl z) p = absurd (let e = ap (λ (n : ℕ). n * 2 ^ g) z in omega arith)
    go (inr q) p = let l = mul-le-mul_right (2 ^ g) q in omega arith

-- ---- the sign
finite_neg : (x : Float) → T (is_finite x) → T (is_finite (neg x))
unfolding is_finite neg
finite_neg nan t = t
finite_neg (inf s) t = t
finite_neg (fin s m e) t = t

pub range_neg : {g L B : ℕ} {x : Float} → Range g L B x → Range g L B (neg x)
range_neg {g} {L} {B} {x} r = record {
  fit = neg-fits binary64 x r.fit;
  finite = finite_neg x r.finite;
  multiple = r.multiple;
  grain = mag_neg x ∙ r.grain;
  least = rw (mag_neg x) r.least;
  most = rw (mag_neg x) r.most;
}

pub range_abs : {g L B : ℕ} {x : Float} → Range g L B x → Range g L B (abs x)
range_abs {g} {L} {B} {x} r = go x r
  where
    go : (x : Float) → Range g L B x → Range g L B (abs x)
    go nan r = unfold abs in r
    go (inf s) r = unfold is_finite in absurd r.finite
    go (fin true m e) r = unfold abs neg in range_neg r
    go (fin false m e) r = unfold abs in r

-- ---- zeros, which are in every range
pub range_null : (x : Float) → T (fits binary64 x) → T (is_finite x) → mag x ≡ 0 → (g L B : ℕ) → Range g L B x
range_null x t f z g L B = record { fit = t; finite = f; multiple = 0; grain = z ∙ sym (zero-mul (2 ^ g)); least = λ p. absurd (lt_irrefl 0 (rw z at p)); most = rw z zero-le }

pub range_zero : (g L B : ℕ) → Range g L B zero⁺
unfolding fits is_finite
range_zero g L B = range_null zero⁺ tt tt (zero_mag false (pos 0)) g L B

-- ---- by the size: 2 ^ l units and more are a multiple of 2 ^ (l - fraction_bits)
pub range_size : (l B : ℕ) (x : Float) → fraction_bits ≤ l → T (fits binary64 x) → T (is_finite x) → (mag x ≡ 0) ⊎ (2 ^ l ≤ mag x) → mag x ≤ B → Range (l - fraction_bits) (2 ^ l) B x
range_size l B x e t f (inl z) h = range_null x t f z (l - fraction_bits) (2 ^ l) B
range_size l B x e t f (inr p) h = let c = representable_grain (l - fraction_bits) (mag x) (mag_representable x t f).0 (rw (sub-add_cancel e) p) in record { fit = t; finite = f; multiple = c.0; grain = c.1; least = λ q. p; most = h }

pub range_sized : (l h : ℕ) (x : Float) → fraction_bits ≤ l → T (sized l h x) → Range (l - fraction_bits) (2 ^ l) (2 ^ h) x
unfolding sized
range_sized l h x e t =
    let a : Bool = fits binary64 x in
    let b : Bool = is_finite x in
    let c : Bool = eqb (mag x) 0 || leb (2 ^ l) (mag x) in
    let d : Bool = leb (mag x) (2 ^ h) in
    let u = and_l (a && b && c) d t in
    range_size l (2 ^ h) x e (and_l a b (and_l (a && b) c u)) (and_r a b (and_l (a && b) c u)) (go (or_yes (eqb (mag x) 0) (leb (2 ^ l) (mag x)) (and_r (a && b) c u)))
    (leb→le (mag x) (2 ^ h) (and_r (a && b && c) d t))
  where
    go : T (eqb (mag x) 0) ⊎ T (leb (2 ^ l) (mag x)) → (mag x ≡ 0) ⊎ (2 ^ l ≤ mag x)
    go (inl z) = inl (eqb→eq (mag x) 0 z)
    go (inr p) = inr (leb→le (2 ^ l) (mag x) p)

-- every finite value of the format, of at most B units
pub range_most : (x : Float) {B : ℕ} → T (fits binary64 x) → T (is_finite x) → mag x ≤ B → Range 0 1 B x
range_most x t f h = record { fit = t; finite = f; multiple = mag x; grain = sym (mul-one (mag x)); least = λ p. p; most = h }

pub range_fits : (x : Float) → T (fits binary64 x) → T (is_finite x) → Range 0 1 Top x
range_fits x t f = range_most x t f (le_of_lt (mag_representable x t f).1)

-- ---- of a count
pub count_val : (n : ℕ) → n ≤ 2 ^ 53 → Val (count n) false (n * U)
unfolding of_int
count_val n h = val_of (count n) false n 1 (n * U) (lit< tt) (round_whole binary64 false n h) (sym (mul-one (n * U)))

pub two_is : count 2 ≡ two
unfolding of_int
two_is = refl

pub two_val : Val two false (2 * U)
two_val = subst (λ (z : Float). Val z false (2 * U)) two_is (count_val 2 (lit≤ tt))

pub count_pos : (n : ℕ) → 0 < n → n ≤ 2 ^ 53 → 0 < mag (count n)
count_pos n p h = rw (val_mag (count n) false (n * U) (count_val n h)).1 (mul-pos p U_pos)

pub range_count : (c n : ℕ) → c ≤ 53 → n ≤ 2 ^ c → Range 1074 (2 ^ 1074) (2 ^ (c + 1074)) (count n)
range_count c n l h =
    let v = count_val n (le_trans h (pow_mono l)) in
    let e : mag (count n) ≡ n * 2 ^ 1074 = (val_mag (count n) false (n * U) v).1 ∙ ap (λ (z : ℕ). n * z) U-is in
    range_grain (record {
      fit = of_int-fits binary64 (pos n);
      finite = val_finite (count n) false (n * U) v;
      multiple = n;
      grain = e;
      least = λ p. p;
      most = le_trans (le_of_eq e) (le_trans (mul-le-mul_right (2 ^ 1074) h) (le_of_eq (sym (pow-add 2 c 1074))));
    })

-- ---- of n / d units, rounded
pub range_rounded : (s : Bool) (n d g L B : ℕ) → 0 < d → Grained g n d → Representable L → (0 < n → L * d ≤ n) → Representable B → n ≤ B * d → B < Top → Range g L B (rounded s n d)
range_rounded s n d g L B D G HL l HB h o =
    let m = near_most n d B D HB h in
    let v = rounded_val s n d D (lt_of_le_of_lt m o) in
    let e = (val_mag (rounded s n d) s (near n d) v).1 in
    let c = near_grain g n d D G in
    record {
      fit = rounded_fits s n d;
      finite = val_finite (rounded s n d) s (near n d) v;
      multiple = c.0;
      grain = e ∙ c.1;
      least = rw e (λ (p : 0 < near n d). near_least n d L D HL (l (above (eq-zero-or-pos n) p)));
      most = rw e m;
    }
  where
    above : (n ≡ 0) ⊎ (0 < n) → 0 < near n d → 0 < n
    above (inl z) p = absurd (lt_irrefl 0 (lt_of_lt_of_le p (near_most n d 0 D (representable_small 0 (lit< tt)) (le_of_eq (z ∙ sym (zero-mul d))))))
    above (inr q) p = q
