-- exp and exp_m1 of a number from -96 to 0, by crude bounds. The reduced argument r is at most 1/2 in size, since k is the whole number nearest to y / ln 2 up to rounding errors that are far
-- smaller than the room between ln 2 / 2 and 1/2; Horner's scheme then stays between 5/8 and 11/8, and its last step of exp between 5/16 and 27/16. Sizes are in units of 2 ^ -1074, in terms of
-- W, which is 1/32. Assumes nothing.
use mathlib.Core.Path.{◌≡◌, refl, sym, ap, ap₂, ◌∙◌, subst, subst₂}
use mathlib.Core.Logic.{◌⊎◌, inl, inr}
use Prim.Native.Nat.{ℕ, zero, suc, ◌+◌, ◌-◌, ◌*◌, ◌/◌, ◌^◌, ◌≤◌, ◌<◌, zero-le}
use native.Mathlib.Nat.{le_refl, le_trans, le_of_eq, le_of_lt, le_of_suc-le-suc, lt_of_le_of_lt, mul-le-mul, mul-le-mul_left, mul-le-mul_right, mul-pos, mul_assoc, mul_right_comm, mul-one, zero-mul, eq-zero-or-pos, le_of_mul-le-mul_right, lt_of_mul-lt-mul_right, zero-lt-suc, div-add-mod', mod-lt, div-eq_of_lt, lt_of_lt_of_le}
use native.Mathlib.Omega.{arith}
use mathlib.Core.Bool.{Bool, true, false, not, cond, ◌&&◌, ◌||◌, or-true}
use lib.Dec.{T, ltb, eqb, lit≤, lit<}
use lib.IntN.{ℤ, pos, negsuc, neg_ℤ}
use lib.Pow.{pow-add, pow_pos, pow_mono}
use lib.Ieee.{Float, nan, inf, fin, binary64, fits, up, down, unlike, of_int, of_bits, lt, le, sub, neg}
use lib.Ieee.Back.{round_whole}
use lib.Ieee.Fits.{down_pos, add-fits}
use lib.Ieee.Positive.{first_pos}
use borrow.Author.Tests.{lt-ltb, le-ltb, eq-eqb}
use Rattle.leaves.specs.Numbers.{◌⊕◌, ◌⊖◌, ◌⊗◌, ◌⊘◌, zero⁺, half, one, count, is_finite}
use Rattle.leaves.specs.Scaling.{pow2_scaled}
use Rattle.leaves.specs.Shift.{shift}
use Rattle.leaves.specs.Exp.{min_argument, ln2, H, L, floor, horner, nearest_power, reduced, exp, exp_m1}
use Rattle.leaves.proofs.Whole.{le_or_lt, pos_part, neg_part, pos_part_neg, neg_part_neg}
use Rattle.leaves.proofs.Rounding.{near, Representable, Near, near_most, near_least, near_error, near_representable, representable_times}
use Rattle.leaves.proofs.Units.{top_bits, U, U_pos, Top, Val, sign, mag, val_of, val_mag, val_finite, mag_shift, zero_val, neg_val, rounded, rounded_val, lt_val, eq_val, one_val}
use Rattle.leaves.proofs.Arithmetic.{sum_sign, sum_size, sum_size_le, add_rounded, mul_rounded, div_rounded}
use Rattle.leaves.proofs.Bounds.{Bounds, Bounded}
use Rattle.leaves.proofs.Range.{Range, count_val, range_size, range_finer, range_weaken}
use Rattle.leaves.proofs.Shift.{shift_forth}
use Rattle.leaves.proofs.Signs.{sign_shift}
use Rattle.leaves.proofs.PowersOfTwo.{range_move, scaled_moves}
use Rattle.law.proofs.Ranges.{horner_bounds, weight_power, weight_bounds}
use Rattle.law.proofs.Comparisons.{plus_val}

-- ---- 1/32
unfoldable pub W : ℕ
W = 2 ^ 1069

pub U-W : U ≡ 32 * W
unfolding U W
U-W = refl

pub W-pos : 0 < W
unfolding W
W-pos = pow_pos 1069

-- the largest arguments, in W: 48 of a weight, which bounds 64 half-lives, and twice that of the denominator
abbrev pub age_most : ℕ
age_most = 48 * 32

abbrev pub argument_most : ℕ
argument_most = 2 * age_most

pub representable_W : (c : ℕ) → c < 2 ^ 53 → Representable (c * W)
unfolding W
representable_W c h = representable_times c 1069 h

under_W : (c : ℕ) → c ≤ 8192 → c * W < Top
unfolding W Top
under_W c h = lt_of_le_of_lt (mul-le-mul_right (2 ^ 1069) h) (lit< tt)

-- ---- results with a bound of c / 32
within : (c : ℕ) → c ≤ 8192 → (z : Float) (s : Bool) (n d : ℕ) → 0 < d → z ≡ rounded s n d → n ≤ c * W * d → Val z s (near n d) × (near n d ≤ c * W)
within c few z s n d D e h =
    let m = near_most n d (c * W) D (representable_W c (le_trans (omega arith) (lit≤ {m = 8193} tt))) h in
    (rw e (rounded_val s n d D (lt_of_le_of_lt m (under_W c few))), m)

module _ (c : ℕ) (few : c ≤ 8192) (x y : Float) (s t : Bool) (a b : ℕ) (v : Val x s a) (w : Val y t b) where
  pub mul_most : a * b ≤ c * W * U → Val (x ⊗ y) (unlike s t) (near (a * b) U) × (near (a * b) U ≤ c * W)
  mul_most h = within c few (x ⊗ y) (unlike s t) (a * b) U U_pos (mul_rounded x y s t a b v w) h

  div_most : 0 < b → a * U ≤ c * W * b → Val (x ⊘ y) (unlike s t) (near (a * U) b) × (near (a * U) b ≤ c * W)
  div_most B h = within c few (x ⊘ y) (unlike s t) (a * U) b B (div_rounded x y s t a b v w B) h

  add_most : sum_size s a t b ≤ c * W → Val (x ⊕ y) (sum_sign s a t b) (near (sum_size s a t b) 1) × (near (sum_size s a t b) 1 ≤ c * W)
  add_most h = within c few (x ⊕ y) (sum_sign s a t b) (sum_size s a t b) 1 (zero-lt-suc 0) (add_rounded x y s t a b v w) (le_trans h (le_of_eq (sym (mul-one (c * W)))))

half_val : Val half false (16 * W)
unfolding U W
half_val = (refl, refl)

one_W : Val one false (32 * W)
one_W = subst (Val one false) U-W one_val

-- 1 + t, for a t of c / 32 at most
one_plus : (c : ℕ) → c ≤ 31 → (x : Float) (t : Bool) (b : ℕ) → Val x t b → b ≤ c * W → (d : ℕ) × Val (one ⊕ x) false d × ((32 - c) * W ≤ d) × (d ≤ (32 + c) * W)
one_plus c few x t b v h = go t v
  where
    less : (32 - c) * W + c * W ≡ 32 * W
    less = sym (native.Mathlib.Nat.add-mul (32 - c) c W) ∙ ap (λ (z : ℕ). z * W) (omega arith)

    more : (32 + c) * W ≡ 32 * W + c * W
    more = native.Mathlib.Nat.add-mul 32 c W

    least : (n : ℕ) → (32 - c) * W ≤ n → (32 - c) * W ≤ near n 1
    least n l = near_least n 1 ((32 - c) * W) (zero-lt-suc 0) (representable_W (32 - c) (le_trans (omega arith) (lit≤ {m = 33} tt))) (le_trans (le_of_eq (mul-one ((32 - c) * W))) l)

    go : (t : Bool) → Val x t b → (d : ℕ) × Val (one ⊕ x) false d × ((32 - c) * W ≤ d) × (d ≤ (32 + c) * W)
    go false v =
        let q = add_most (32 + c) (omega arith) one x false false (32 * W) b one_W v (omega arith) in
        (near (32 * W + b) 1, q.0, least (32 * W + b) (omega (arith, less)), q.1)
    go true v =
        let q = add_most (32 + c) (omega arith) one x false true (32 * W) b one_W v (omega arith) in
        let n = 32 * W - b + (b - 32 * W) in
        let i : ltb (32 * W) b ≡ false = le-ltb (32 * W) b (omega (arith, less)) in
        (near n 1, subst (λ (s : Bool). Val (one ⊕ x) s (near n 1)) (ap (λ (z : Bool). cond z true false) i) q.0, least n (omega (arith, less)), q.1)

-- ---- Horner's scheme
regroup : (W : ℕ) → 16 * W * (44 * W) ≡ 22 * W * (32 * W)
regroup W = omega arith

module _ (r : Float) (s : Bool) (a : ℕ) (v : Val r s a) (small_r : a ≤ 16 * W) where
  -- one step, divided by m
  step : (m : ℕ) (p : Float) (b c : ℕ) → 0 < m → m ≤ 14 → Val p false b → b ≤ 44 * W → c ≤ 31 → 22 ≤ c * m → (d : ℕ) × Val (one ⊕ r ⊗ p ⊘ count m) false d × ((32 - c) * W ≤ d) × (d ≤ (32 + c) * W)
  step m p b c M M' w h few e =
      let q = mul_most 22 (lit≤ tt) r p s false a b v w (le_trans (mul-le-mul small_r h) (le_of_eq (regroup W ∙ ap (λ (z : ℕ). 22 * W * z) (sym U-W)))) in
      let k = div_most c (le_trans few (lit≤ tt)) (r ⊗ p) (count m) (unlike s false) false (near (a * b) U) (m * U) q.0 (count_val m (le_trans M' (lit≤ tt))) (mul-pos M U_pos)
      (le_trans (mul-le-mul_right U q.1) (le_trans (mul-le-mul_right U (mul-le-mul_right W e)) (le_of_eq (along c m W U)))) in
      one_plus c few (r ⊗ p ⊘ count m) (unlike (unlike s false) false) (near (near (a * b) U * U) (m * U)) k.0 k.1
    where
      along : (c m W U : ℕ) → c * m * W * U ≡ c * W * (m * U)
      along c m W U = omega arith

  -- while it divides by 2 or more
  horner_within : (d n : ℕ) → suc n + suc d ≤ 15 → (p : Float) (b : ℕ) → Val p false b → 20 * W ≤ b → b ≤ 44 * W → (e : ℕ) × Val (horner r (suc d) n p) false e × (20 * W ≤ e) × (e ≤ 44 * W)
  unfolding horner
  horner_within d zero few p b w lo hi = (b, w, lo, hi)
  horner_within d (suc n) few p b w lo hi =
      let q = step (suc n + suc d) p b 12 (omega arith) (omega arith) w hi (lit≤ tt) (omega arith) in
      horner_within d n (omega arith) (one ⊕ r ⊗ p ⊘ count (suc n + suc d)) q.0 q.1 q.2 q.3

  -- to the division by 1
  horner_last : (n : ℕ) → n ≤ 13 → (p : Float) (b : ℕ) → Val p false b → 20 * W ≤ b → b ≤ 44 * W → (e : ℕ) × Val (horner r 0 n p) false e × (10 * W ≤ e) × (e ≤ 54 * W)
  unfolding horner
  horner_last zero few p b w lo hi = (b, w, omega arith, omega arith)
  horner_last (suc zero) few p b w lo hi = step (suc zero + 0) p b 22 (lit≤ tt) (lit≤ tt) w hi (lit≤ tt) (lit≤ tt)
  horner_last (suc (suc n)) few p b w lo hi =
      let q = step (suc (suc n) + 0) p b 12 (omega arith) (omega arith) w hi (lit≤ tt) (omega arith) in
      horner_last (suc n) (omega arith) (one ⊕ r ⊗ p ⊘ count (suc (suc n) + 0)) q.0 q.1 q.2 q.3

-- ---- the constants, in units
unfoldable pub N : ℕ
N = 6243314768165359 * 2 ^ 1021

unfoldable pub NH : ℕ
NH = 2977044471 * 2 ^ 1042

unfoldable NL : ℕ
NL = 3691024475790907 * 2 ^ 990

pub ln2_val : Val ln2 false N
unfolding of_bits N U
ln2_val = (refl, refl)

H-val : Val H false NH
unfolding of_bits NH U
H-val = (refl, refl)

L-val : Val L false NL
unfolding of_bits NL U
L-val = (refl, refl)

pub N-is : (69314 * U ≤ 100000 * N) × (100000 * N ≤ 69315 * U)
unfolding N U
N-is = (lit≤ tt, lit≤ tt)

NH-is : (69314 * U ≤ 100000 * NH) × (100000 * NH ≤ 69315 * U)
unfolding NH U
NH-is = (lit≤ tt, lit≤ tt)

NL-is : 140 * NL ≤ 1 * W
unfolding NL W
NL-is = lit≤ tt

pub W-large : 10000000 ≤ W
unfolding W
W-large = lit≤ tt

-- ---- the power: K is the whole number nearest to Y / ln 2, for y = -Y
-- one rounding's error, cruder: 1 / 100000 and half a unit
pub near_above : (g n d : ℕ) → Near g n d → 100000 * (g * d) ≤ 100001 * n + 50000 * d
near_above g n d e = let a = e.above in le_of_mul-le-mul_right {k = 2 ^ 53} (omega arith) (lit< tt)

near_below : (g n d : ℕ) → Near g n d → 99999 * n ≤ 100000 * (g * d) + 50000 * d
near_below g n d e = let b = e.below in le_of_mul-le-mul_right {k = 2 ^ 53} (omega arith) (lit< tt)

cancel_above : (Y Z n u : ℕ) → 0 < u → 69314 * u ≤ 100000 * n → 100000 * n ≤ 69315 * u → 100000 * (Z * n) ≤ 100001 * (Y * u) + 50000 * n → 69314 * Z ≤ 100001 * Y + 50000
cancel_above Y Z n u p a b f = le_of_mul-le-mul_right {k = u} (let g = mul-le-mul_right Z a in omega arith) p

cancel_below : (Y Z n u : ℕ) → 0 < u → 100000 * n ≤ 69315 * u → 99999 * (Y * u) ≤ 100000 * (Z * n) + 50000 * n → 99999 * Y ≤ 69315 * Z + 50000
cancel_below Y Z n u p b f = le_of_mul-le-mul_right {k = u} (let g = mul-le-mul_right Z b in omega arith) p

-- a number below zero, rounded down
ceiling : (x : Float) (S : ℕ) → Val x true S → (K : ℕ) × (floor x ≡ neg_ℤ (pos K)) × (S ≤ K * U) × (K * U < S + U)
unfolding floor
ceiling nan S v = absurd v
ceiling (inf s) S v = absurd v
ceiling (fin false m e) S v = absurd (subst T (sym v.0) tt)
ceiling (fin true m e) S v =
    let n = m * up e + (down e - 1) in
    let K = n / down e in
    let q = div-add-mod' n (down e) in
    let l = mod-lt n (down_pos e) in
    let low : m * up e ≤ K * down e = omega arith in
    let high : K * down e < m * up e + down e = omega arith in (
      K,
      refl,
      le_of_mul-le-mul_right {k = down e} (le_trans (le_of_eq (sym v.1)) (le_trans (mul-le-mul_right U low) (le_of_eq (mul_right_comm K (down e) U)))) (down_pos e),
      lt_of_mul-lt-mul_right (down e) (turn (m * up e) (down e) K S U U_pos v.1 high),
    )
  where
    turn : (a d K S U : ℕ) → 0 < U → a * U ≡ S * d → K * d < a + d → K * U * d < (S + U) * d
    turn a d K S U p e h = let f = native.Mathlib.Nat.mul-lt-mul_of_pos_right h p in omega arith

pub record Power (y : Float) (Y : ℕ) : Type 0 where
  pub K : ℕ
  pub is : nearest_power y ≡ neg_ℤ (pos K)
  pub few : K ≤ 140
  pub near : Y ≤ age_most * W → K ≤ weight_power
  pub above : K * NH ≤ Y + 12 * W
  pub below : Y ≤ K * NH + 12 * W
  pub none : Y ≤ 8 * W → K ≡ 0
  pub some : 16 * W < Y → 0 < K

module _ (y : Float) (Y : ℕ) (v : Val y true Y) (few : Y ≤ argument_most * W) where
  Z : ℕ
  Z = near (Y * U) N

  N-pos : 0 < N
  N-pos = let n = N-is.0 in let p = U_pos in omega arith

  Z-above : 69314 * Z ≤ 100001 * Y + 50000
  unfolding Z
  Z-above = cancel_above Y (near (Y * U) N) N U U_pos N-is.0 N-is.1 (near_above (near (Y * U) N) (Y * U) N (near_error (Y * U) N N-pos))

  Z-below : 99999 * Y ≤ 69315 * Z + 50000
  unfolding Z
  Z-below = cancel_below Y (near (Y * U) N) N U U_pos N-is.1 (near_below (near (Y * U) N) (Y * U) N (near_error (Y * U) N N-pos))

  quotient : Val (y ⊘ ln2) true Z
  unfolding Z
  quotient = (div_most 8192 (lit≤ tt) y ln2 true false Y N v ln2_val N-pos
      (let n = N-is.0 in le_trans (mul-le-mul_right U few) (turn N U W n))).0
    where
      turn : (N U W : ℕ) → 69314 * U ≤ 100000 * N → argument_most * W * U ≤ 8192 * W * N
      turn N U W h = let f = mul-le-mul_right W h in omega arith

  -- at most 1/2 below zero
  zero_power : Z ≤ 16 * W → Power y Y
  unfolding nearest_power floor
  zero_power h = record {
    K = 0;
    is = go (y ⊘ ln2 ⊕ half) sum (near_most (16 * W - Z) 1 (16 * W) (zero-lt-suc 0) (representable_W 16 (lit< tt)) (omega arith));
    few = zero-le;
    near = λ l. zero-le;
    above = omega arith;
    below = omega (arith, Z-below);
    none = λ q. refl;
    some = λ q. absurd (omega (arith, Z-below));
  }
    where
      plus : (b : Bool) → cond b false (true && ltb (16 * W) Z) ≡ false
      plus true = refl
      plus false = le-ltb (16 * W) Z h

      sum : Val (y ⊘ ln2 ⊕ half) false (near (16 * W - Z) 1)
      sum = subst₂ (λ (s : Bool) (n : ℕ). Val (y ⊘ ln2 ⊕ half) s (near n 1)) (plus (ltb Z (16 * W))) (omega arith) (add_most 16 (lit≤ tt) (y ⊘ ln2) half true false Z (16 * W) quotient half_val (omega arith)).0

      go : (x : Float) {S : ℕ} → Val x false S → S ≤ 16 * W → floor x ≡ neg_ℤ (pos 0)
      go nan v l = absurd v
      go (inf s) v l = absurd v
      go (fin true m e) v l = absurd (subst T v.0 tt)
      go (fin false m e) {S} v l = ap pos (div-eq_of_lt (lt_of_mul-lt-mul_right U (lt_of_le_of_lt (le_of_eq v.1) (lt_of_le_of_lt (mul-le-mul_right (down e) l) (turn (down e) (down_pos e))))))
        where
          turn : (d : ℕ) → 0 < d → 16 * W * d < d * U
          turn d p = rw U-W (let f = mul-pos W-pos p in omega arith)

  other_power : 16 * W < Z → Power y Y
  unfolding nearest_power
  other_power h =
      let D = Z - 16 * W in
      let S = near D 1 in
      let q = add_most 8192 (lit≤ tt) (y ⊘ ln2) half true false Z (16 * W) quotient half_val (omega (arith, Z-above)) in
      let sum : Val (y ⊘ ln2 ⊕ half) true S = subst₂ (λ (s : Bool) (n : ℕ). Val (y ⊘ ln2 ⊕ half) s (near n 1)) (rw (le-ltb Z (16 * W) (le_of_lt h), lt-ltb (16 * W) Z h)) (omega arith) q.0 in
      let c = ceiling (y ⊘ ln2 ⊕ half) S sum in
      let E = near_error D 1 (zero-lt-suc 0) in
      let K = c.0 in
      let kh = NH-is in
      let f₁ = mul-le-mul_left K kh.0 in
      let f₂ = mul-le-mul_left K kh.1 in
      let facts = bounds Y Z S D K U W NH U-W W-large (omega arith) h few Z-above Z-below (near_above S D 1 E) (near_below S D 1 E) c.2 c.3 f₁ f₂ in
      record {
        K = K;
        is = c.1;
        few = facts.0;
        near = λ l. le_of_suc-le-suc (lt_of_mul-lt-mul_right U (let f = turns Y Z S D (K * U) U W U-W W-large (omega arith) Z-above (near_above S D 1 E) c.3 in let u = U-W in let p = W-pos in omega arith));
        above = facts.1;
        below = facts.2;
        none = λ l. absurd (omega (arith, Z-above));
        some = λ l. facts.3;
      }
    where
      turns : (Y Z S D q u w : ℕ) → u ≡ 32 * w → 10000000 ≤ w → Z ≡ D + 16 * w → 69314 * Z ≤ 100001 * Y + 50000 → 100000 * (S * 1) ≤ 100001 * D + 50000 * 1 → q < S + u → 100 * q ≤ 145 * Y + 52 * u
      turns Y Z S D q u w e large z a f m = omega arith

      bounds : (Y Z S D K u w nh : ℕ) → u ≡ 32 * w → 10000000 ≤ w → Z ≡ D + 16 * w → 16 * w < Z → Y ≤ argument_most * w → 69314 * Z ≤ 100001 * Y + 50000 → 99999 * Y ≤ 69315 * Z + 50000
          → 100000 * (S * 1) ≤ 100001 * D + 50000 * 1 → 99999 * D ≤ 100000 * (S * 1) + 50000 * 1 → S ≤ K * u → K * u < S + u → K * (69314 * u) ≤ K * (100000 * nh) → K * (100000 * nh) ≤ K * (69315 * u)
          → (K ≤ 140) × (K * nh ≤ Y + 12 * w) × (Y ≤ K * nh + 12 * w) × (0 < K)
      bounds Y Z S D K u w nh e large z far few a b f g l m i j = (
        le_of_suc-le-suc (lt_of_mul-lt-mul_right u (let t = turns Y Z S D (K * u) u w e large z a f m in omega arith)),
        upper Y Z S D (K * u) (K * nh) u w e large z few a f m (omega arith),
        lower Y Z S D (K * u) (K * nh) u w e large z few b g l (omega arith),
        first_pos K u (lt_of_lt_of_le (omega arith) l),
      )
        where
          upper : (Y Z S D q k u w : ℕ) → u ≡ 32 * w → 10000000 ≤ w → Z ≡ D + 16 * w → Y ≤ argument_most * w → 69314 * Z ≤ 100001 * Y + 50000 → 100000 * (S * 1) ≤ 100001 * D + 50000 * 1 → q < S + u → 100000 * k ≤ 69315 * q → k ≤ Y + 12 * w
          upper Y Z S D q k u w e large z few a f m j = omega arith

          lower : (Y Z S D q k u w : ℕ) → u ≡ 32 * w → 10000000 ≤ w → Z ≡ D + 16 * w → Y ≤ argument_most * w → 99999 * Y ≤ 69315 * Z + 50000 → 99999 * D ≤ 100000 * (S * 1) + 50000 * 1 → S ≤ q → 69314 * q ≤ 100000 * k → Y ≤ k + 12 * w
          lower Y Z S D q k u w e large z few b g l i = omega arith

  power : Power y Y
  power = elim (le_or_lt Z (16 * W)) [ inl h ↦ zero_power h | inr h ↦ other_power h ]

-- ---- the reduced argument
-- -K, as a float
minus_val : (K : ℕ) → K ≤ 140 → (s : Bool) × Val (of_int binary64 (neg_ℤ (pos K))) s (K * U) × (((K ≡ 0) × (s ≡ false)) ⊎ (s ≡ true))
unfolding of_int
minus_val zero h = (false, val_of (count 0) false 0 1 (0 * U) (lit< tt) (round_whole binary64 false 0 (lit≤ tt)) (omega arith), inl (refl, refl))
minus_val (suc n) h = (true, val_of (of_int binary64 (negsuc n)) true (suc n) 1 (suc n * U) (lit< tt) (round_whole binary64 true (suc n) (le_trans h (lit≤ tt))) (omega arith), inr refl)

times_high : (K n u w : ℕ) → u ≡ 32 * w → 100000 * n ≤ 69315 * u → K ≤ 140 → K * n ≤ 4096 * w
times_high K n u w e h few = let f : K * (100000 * n) ≤ 140 * (69315 * u) = mul-le-mul few h in omega arith

reduced_val : (y : Float) (Y : ℕ) → Val y true Y → (p : Power y Y) → (s : Bool) × (a : ℕ) × Val (reduced y (neg_ℤ (pos p.K))) s a × (a ≤ 16 * W)
unfolding reduced sub
reduced_val y Y v p =
    let K = p.K in
    let k = of_int binary64 (neg_ℤ (pos K)) in
    let m = minus_val K p.few in
    let s = m.0 in
    let h = high K p.few k s m.1 in
    let r₁ : (t : Bool) × (a : ℕ) × Val (y ⊕ neg (k ⊗ H)) t a × (a ≤ 12 * W) = first (neg (k ⊗ H)) m.2 (neg_val (k ⊗ H) (unlike s false) (K * NH) h) in
    let l = mul_most 1 (lit≤ tt) k L s false (K * U) NL m.1 L-val (le_trans (le_of_eq (mul_right_comm K U NL)) (mul-le-mul_right U (le_trans (mul-le-mul_right NL p.few) NL-is))) in
    let r₂ = add_most 16 (lit≤ tt) (y ⊕ neg (k ⊗ H)) (neg (k ⊗ L)) r₁.0 (not (unlike s false)) r₁.1 (near (K * U * NL) U) r₁.2 (neg_val (k ⊗ L) (unlike s false) (near (K * U * NL) U) l.0)
    (le_trans (sum_size_le r₁.0 (not (unlike s false)) r₁.1 (near (K * U * NL) U)) (let a = r₁.3 in let b = l.1 in omega arith)) in
    (sum_sign r₁.0 r₁.1 (not (unlike s false)) (near (K * U * NL) U), near (sum_size r₁.0 r₁.1 (not (unlike s false)) (near (K * U * NL) U)) 1, r₂.0, r₂.1)
  where
    -- K times H is exact
    high : (K : ℕ) → K ≤ 140 → (k : Float) (s : Bool) → Val k s (K * U) → Val (k ⊗ H) (unlike s false) (K * NH)
    high K few k s w =
        let e : near (K * U * NH) U ≡ K * NH = ap (λ (n : ℕ). near n U) (mul_right_comm K U NH) ∙ near_representable (K * NH) U U_pos (unfold NH in subst Representable (mul_assoc K 2977044471 (2 ^ 1042)) (representable_times (K * 2977044471) 1042 (lt_of_le_of_lt (mul-le-mul_right 2977044471 few) (lit< tt)))) in
        let b : K * NH ≤ 4096 * W = times_high K NH U W U-W NH-is.1 few in
        subst (Val (k ⊗ H) (unlike s false)) e (subst (λ (z : Float). Val z (unlike s false) (near (K * U * NH) U)) (sym (mul_rounded k H s false (K * U) NH w H-val))
        (rounded_val (unlike s false) (K * U * NH) U U_pos (subst (λ (n : ℕ). n < Top) (sym e) (lt_of_le_of_lt b (under_W 4096 (lit≤ tt))))))

    first : {s : Bool} (x : Float) → ((p.K ≡ 0) × (s ≡ false)) ⊎ (s ≡ true) → Val x (not (unlike s false)) (p.K * NH) → (t : Bool) × (a : ℕ) × Val (y ⊕ x) t a × (a ≤ 12 * W)
    first x (inl (z, e)) w =
        let w' : Val x true 0 = subst₂ (λ (s : Bool) (n : ℕ). Val x (not (unlike s false)) n) e (ap (λ (n : ℕ). n * NH) z ∙ zero-mul NH) w in
        let b : p.K * NH ≡ 0 = ap (λ (n : ℕ). n * NH) z ∙ zero-mul NH in
        let q = add_most 12 (lit≤ tt) y x true true Y 0 v w' (omega arith) in
        (true, near (Y + 0) 1, q.0, q.1)
    first x (inr e) w =
        let w' : Val x false (p.K * NH) = subst (λ (s : Bool). Val x (not (unlike s false)) (p.K * NH)) e w in
        let q = add_most 12 (lit≤ tt) y x true false Y (p.K * NH) v w' (omega arith) in
        (sum_sign true Y false (p.K * NH), near (Y - p.K * NH + (p.K * NH - Y)) 1, q.0, q.1)

-- the bounds of a weight
abbrev pub Weight : Float → Type 0
Weight w = Bounded weight_bounds w

-- ---- exp y, for y = -Y from -96 to 0: a numerator from 5/16 to 27/16, over 2 ^ K
pub record Exp (y : Float) (Y : ℕ) : Type 0 where
  pub power : Power y Y
  pub numerator : ℕ
  pub least : 10 * W ≤ numerator
  pub most : numerator ≤ 54 * W
  pub fit : T (fits binary64 (exp y))
  pub finite : T (is_finite (exp y))
  pub range : Y ≤ age_most * W → Weight (exp y)
  pub plus : sign (exp y) ≡ false
  pub is : mag (exp y) * 2 ^ power.K ≡ numerator

pub exp_above : {y : Float} {Y : ℕ} → Exp y Y → 0 < mag (exp y)
exp_above {y} x = first_pos (mag (exp y)) (2 ^ x.power.K) (subst (λ (n : ℕ). 0 < n) (sym x.is) (lt_of_lt_of_le (mul-pos (lit< {m = 0} {n = 10} tt) W-pos) x.least))

pub exp_val : {y : Float} {Y : ℕ} → Exp y Y → Val (exp y) false (mag (exp y))
exp_val {y} x = plus_val (exp y) x.fit x.finite x.plus

horner_fits : (r : Float) (d n : ℕ) (p : Float) → T (fits binary64 p) → T (fits binary64 (horner r d n p))
unfolding horner
horner_fits r d zero p t = t
horner_fits r d (suc n) p t = horner_fits r d n (one ⊕ r ⊗ p ⊘ count (suc n + d)) (add-fits binary64 one (r ⊗ p ⊘ count (suc n + d)))

one_fits : T (fits binary64 one)
unfolding fits
one_fits = tt

-- p over 2 ^ K
module _ (K : ℕ) (few : K ≤ 140) (p : Float) (P : ℕ) (fit : T (fits binary64 p)) (v : Val p false P) (least : 10 * W ≤ P) (most : P ≤ 54 * W) where
  abbrev h : Bounds
  h = horner_bounds

  p_range : Bounded horner_bounds p
  p_range =
      let m = (val_mag p false P v).1 in
      let lo : 2 ^ h.least ≤ 10 * W = unfold W in lit≤ tt in
      let hi : 54 * W ≤ 2 ^ h.most = unfold W in lit≤ tt in
      range_size h.least (2 ^ h.most) p (lit≤ tt) fit (val_finite p false P v) (inr (rw m (le_trans lo least))) (rw m (le_trans most hi))

  low : neg_part (neg_ℤ (pos K)) ≤ h.grain + pos_part (neg_ℤ (pos K))
  unfolding pos_part
  low = omega (arith, neg_part_neg (pos K))

  high : h.most + pos_part (neg_ℤ (pos K)) ≤ top_bits + neg_part (neg_ℤ (pos K))
  unfolding neg_part
  high = omega (arith, pos_part_neg (pos K))

  lowered : pow2_scaled p (neg_ℤ (pos K)) ≡ shift (neg_ℤ (pos K)) p
  lowered = scaled_moves h.most p p_range (neg_ℤ (pos K)) low high

  lowered_range : Range (h.grain - K) (2 ^ (h.least - K)) (2 ^ h.most) (shift (neg_ℤ (pos K)) p)
  unfolding pos_part neg_part
  lowered_range =
      let o : pos_part (neg_ℤ (pos K)) ≡ 0 = pos_part_neg (pos K) in
      let u : neg_part (neg_ℤ (pos K)) ≡ K = neg_part_neg (pos K) in
      range_move h.most p p_range (neg_ℤ (pos K)) low high (h.grain - K) (2 ^ (h.least - K)) (2 ^ h.most) (omega arith)
      (le_trans (le_of_eq (sym (pow-add 2 (h.least - K) (neg_part (neg_ℤ (pos K)))))) (le_trans (pow_mono (omega arith)) (le_of_eq (pow-add 2 h.least (pos_part (neg_ℤ (pos K)))))))
      (le_trans (le_of_eq (sym (pow-add 2 h.most (pos_part (neg_ℤ (pos K)))))) (le_trans (pow_mono (omega arith)) (le_of_eq (pow-add 2 h.most (neg_part (neg_ℤ (pos K)))))))

  lowered_is : mag (shift (neg_ℤ (pos K)) p) * 2 ^ K ≡ P
  lowered_is =
      let r = lowered_range in
      sym (mag_shift K (shift (neg_ℤ (pos K)) p) r.fit r.finite) ∙ ap mag (shift_forth (pos K) p) ∙ (val_mag p false P v).1

module _ (y : Float) (Y : ℕ) (v : Val y true Y) (few : Y ≤ argument_most * W) where
  -- 746 and more are not reached, and y is not above 0
  not_less : lt y min_argument ≡ false
  not_less = lt_val y min_argument true true Y (746 * U) v (unfold U in (refl, refl)) ∙ le-ltb (746 * U) Y (rw U-W (omega arith))

  not_above : le y zero⁺ ≡ true
  unfolding le
  not_above = ap₂ ◌||◌ (lt_val y zero⁺ true false Y 0 v (zero_val false (pos 0))) (eq_val y zero⁺ true false Y 0 v (zero_val false (pos 0))) ∙ go (eq-zero-or-pos Y)
    where
      go : (Y ≡ 0) ⊎ (0 < Y) → (ltb 0 (Y + 0) || (eqb Y 0 && (false || eqb Y 0))) ≡ true
      go (inl z) = rw (eq-eqb Y 0 z) (or-true (ltb 0 (Y + 0)))
      go (inr p) = rw (lt-ltb 0 (Y + 0) (omega arith))

  pub exp_within : Exp y Y
  unfolding exp
  exp_within =
      let w = power y Y v few in
      let K = w.K in
      let q = reduced_val y Y v w in
      let h = horner_last (reduced y (neg_ℤ (pos K))) q.0 q.1 q.2 q.3 13 (lit≤ tt) one (32 * W) one_W (omega arith) (omega arith) in
      let p = horner (reduced y (neg_ℤ (pos K))) 0 13 one in
      let fit = horner_fits (reduced y (neg_ℤ (pos K))) 0 13 one one_fits in
      let e : exp y ≡ shift (neg_ℤ (pos K)) p = rw (not_less, not_above) (ap (λ (k : ℤ). pow2_scaled (horner (reduced y k) 0 13 one) k) w.is ∙ lowered K w.few p h.0 fit h.1 h.2 h.3) in
      let R = lowered_range K w.few p h.0 fit h.1 h.2 h.3 in
      record {
        power = w;
        numerator = h.0;
        least = h.2;
        most = h.3;
        fit = subst (λ (z : Float). T (fits binary64 z)) (sym e) R.fit;
        finite = subst (λ (z : Float). T (is_finite z)) (sym e) R.finite;
        range = λ l. subst Weight (sym e) (let n = w.near l in range_finer weight_bounds.grain (omega arith) (range_weaken (2 ^ weight_bounds.least) (2 ^ weight_bounds.most) (pow_mono {i = weight_bounds.least} {j = horner_bounds.least - K} (omega arith)) (le_refl (2 ^ weight_bounds.most)) R));
        plus = ap sign e ∙ sign_shift (neg_ℤ (pos K)) p ∙ (val_mag p false h.0 h.1).0;
        is = ap (λ (z : Float). mag z * 2 ^ K) e ∙ lowered_is K w.few p h.0 fit h.1 h.2 h.3;
      }

-- ---- a rounded product g of Y and a factor b: of 20/32 at least, and of c/32 at most
pub product_least : (Y b g w u : ℕ) → u ≡ 32 * w → 0 < w → 0 < Y → 20 * w ≤ b → 2 * (Y * b) ≤ 4 * (g * u) + u → Y ≤ 16 * g
product_least Y b g w u e p s lo h =
    let f : Y * (20 * w) ≤ Y * b = mul-le-mul_left Y lo in
    let c : (40 * Y) * w ≤ (128 * g + 32) * w = subst (λ (u : ℕ). 2 * (Y * b) ≤ 4 * (g * u) + u → 40 * Y * w ≤ (128 * g + 32) * w) (sym e) (λ h. omega arith) h in
    let d : 40 * Y ≤ 128 * g + 32 = le_of_mul-le-mul_right {k = w} c p in
    omega arith

pub product_most : (Y b c g w u : ℕ) → u ≡ 32 * w → 0 < w → b ≤ c * w → g * u ≤ 2 * (Y * b) → 32 * g ≤ 2 * (c * Y)
product_most Y b c g w u e p hi h =
    let f : Y * b ≤ Y * (c * w) = mul-le-mul_left Y hi in
    le_of_mul-le-mul_right {k = w} (subst (λ (u : ℕ). g * u ≤ 2 * (Y * b) → 32 * g * w ≤ 2 * (c * Y) * w) (sym e) (λ h. omega arith) h) p

-- ---- exp_m1 y: from 1/16 of y to 3 times y where y is at least -1/2, and from 5/32 to 1 below
pub record ExpM1 (y : Float) (Y : ℕ) : Type 0 where
  pub E : ℕ
  pub val : Val (exp_m1 y) true E
  pub near_zero : Y ≤ 16 * W → (Y ≤ 16 * E) × (E ≤ 3 * Y)
  pub far : 16 * W < Y → (5 * W ≤ E) × (E ≤ 32 * W)

module _ (y : Float) (Y : ℕ) (v : Val y true Y) (some : 0 < Y) (few : Y ≤ argument_most * W) where
  half_test : lt y (neg half) ≡ ltb (16 * W) Y
  half_test = lt_val y (neg half) true true Y (16 * W) v (neg_val half false (16 * W) half_val)

  close : Y ≤ 16 * W → ExpM1 y Y
  unfolding exp_m1
  close h =
      let q = horner_within y true Y v h 0 13 (lit≤ tt) one (32 * W) one_W (omega arith) (omega arith) in
      let p = horner y 1 13 one in
      let b = q.0 in
      let m = mul_most 4096 (lit≤ tt) y p true false Y b v q.1 (le_trans (mul-le-mul h q.3) (le_trans (le_of_eq (regroup W)) (le_trans (mul-le-mul_right (32 * W) (mul-le-mul_right W (lit≤ {m = 22} {n = 4096} tt))) (le_of_eq (ap (λ (u : ℕ). 4096 * W * u) (sym U-W)))))) in
      let n = near_error (Y * b) U U_pos in
      let t : lt y (neg half) ≡ false = half_test ∙ le-ltb (16 * W) Y h in
      let e : exp_m1 y ≡ y ⊗ p = rw t in
      record {
        E = near (Y * b) U;
        val = subst (λ (z : Float). Val z true (near (Y * b) U)) (sym e) m.0;
        near_zero = λ l. (product_least Y b (near (Y * b) U) W U U-W W-pos some q.2 n.halved, omega (arith, product_most Y b 44 (near (Y * b) U) W U U-W W-pos q.3 n.doubled));
        far = λ l. absurd (omega arith);
      }

  beyond : 16 * W < Y → ExpM1 y Y
  unfolding exp_m1 sub
  beyond h =
      let x = exp_within y Y v few in
      let e : exp_m1 y ≡ exp y ⊖ one = rw (half_test ∙ lt-ltb (16 * W) Y h) in
      let a = mag (exp y) in
      let b : a ≤ 27 * W = halve a x.power.K x.numerator W (x.power.some h) x.is x.most in
      let q = add_most 32 (lit≤ tt) (exp y) (neg one) false true a (32 * W) (exp_val x) (neg_val one false (32 * W) one_W) (omega arith) in
      let n = a - 32 * W + (32 * W - a) in
      let s : (cond (ltb a (32 * W)) true (false && ltb (32 * W) a)) ≡ true = rw (lt-ltb a (32 * W) (let p = W-pos in omega arith)) in
      record {
        E = near n 1;
        val = subst₂ (λ (z : Float) (s : Bool). Val z s (near n 1)) (sym e) s q.0;
        near_zero = λ l. absurd (omega arith);
        far = λ l. (near_least n 1 (5 * W) (zero-lt-suc 0) (representable_W 5 (lit< tt)) (omega arith), q.1);
      }
    where
      halve : (a K P w : ℕ) → 0 < K → a * 2 ^ K ≡ P → P ≤ 54 * w → a ≤ 27 * w
      halve a zero P w k e h = absurd (omega arith)
      halve a (suc K) P w k e h = let f : a * 2 ≤ a * 2 ^ suc K = mul-le-mul_left a (two_least K) in omega arith
        where
          two_least : (K : ℕ) → 2 ≤ 2 ^ suc K
          two_least K = let p = pow_pos K in omega arith

  pub exp_m1_within : ExpM1 y Y
  exp_m1_within = elim (le_or_lt Y (16 * W)) [ inl h ↦ close h | inr h ↦ beyond h ]
