-- b(x) and pow2_scaled under a shift. b(x) grows by k (`exponent_shift`) and says where the leading bit is (`lead`, `exponent_range`). pow2_scaled x j is the shift by j wherever the result is a value of
-- the format: that is, where x's last bit stays a unit or more and x stays below 2 ^ 1024 (`scaled_moves`). So scaling by the power of two of a number that is shifted too gives the same
-- float (`same_scaled`), and one number scaled by 2 ^ j and by 2 ^ (j + k) gives a float and its shift (`scaled_copy`). Assumes nothing.
use Rattle.std.proofs.Common.{◌≡◌, ℕ, zero, suc, ◌+◌, ◌-◌, ◌*◌, ◌%◌, ◌^◌, ◌<◌, ◌≤◌, Bool, false, T, ℤ, pos, ◌+ℤ◌, neg_ℤ, sym, refl, ap, ◌∙◌, subst, subst₂, inl, inr, le_trans, le_of_eq, lt_of_le_of_lt, lt_irrefl, mul-le-mul_right, zero-lt-suc, mul_assoc, lt-suc_self, lt_of_mul-lt-mul_right, mul-lt-mul_of_pos_right, mul-pos, one-mul, mul_right_comm, le_of_mul-le-mul_right, arith, pow_pos, pow-add}
use native.Mathlib.Nat.{eq_of_mul-eq-mul_right, pow-succ'}
use lib.Pow.{pow-lt}
use lib.Ieee.{Float, nan, inf, fin, binary64, up, down, size, fits}
use lib.Ieee.Digits.{size-lt, size_reaches}
use lib.Ieee.Exact.{HasValue}
use lib.Ieee.Fits.{down_pos}
use lib.Ieee.Positive.{first_pos}
use Rattle.leaves.specs.Numbers.{is_finite}
use Rattle.leaves.specs.Scaling.{binary_exponent, pow2, pow2_scaled}
use Rattle.leaves.specs.Shift.{shift}
use Rattle.leaves.proofs.Whole.{le_or_lt, pos_part, neg_part, plus, same, pos_part_neg, neg_part_neg, up_is, down_is}
use Rattle.leaves.proofs.Laws.{fits→room, room→fits, digits_in, size_pos, pow_back, room_move}
use Rattle.leaves.proofs.Scale.{scaled_exact}
use Rattle.leaves.proofs.Shift.{shift_shift, shift_value, is_finite_shift}
use Rattle.leaves.proofs.Rounding.{in_place}
use Rattle.leaves.proofs.Units.{one_bits, top_bits, U, U-is, Val, sign, mag, zero_mag, val_pos, mag_val}
use Rattle.leaves.proofs.Range.{Range, range_value}
use Rattle.leaves.proofs.Bounds.{Bounds, Bounded}

-- ---- the last and the leading bit of a value in range
-- an odd number times 2 ^ a is a multiple of no higher power
odd_multiple : (m c a b : ℕ) → m % 2 ≡ 1 → m * 2 ^ a ≡ c * 2 ^ b → b ≤ a
odd_multiple m c a b o h = elim (le_or_lt b a) [ inl l ↦ l | inr l ↦ absurd (go l) ]
  where
    go : a < b → ⊥
    go l =
        let e : m ≡ c * 2 ^ (b - suc a) * 2 = eq_of_mul-eq-mul_right (2 ^ a) (pow_pos a) m (c * 2 ^ (b - suc a) * 2) (h ∙ sym (in_place c b (suc a) l) ∙ ap (λ (z : ℕ). c * 2 ^ (b - suc a) * z) (pow-succ' 2 a) ∙ sym (mul_assoc (c * 2 ^ (b - suc a)) 2 (2 ^ a))) in
        omega arith

record Bits (g h : ℕ) (m : ℕ) (e : ℤ) : Type 0 where
  last : g + neg_part e ≤ pos_part e + 1074
  leading : size m + pos_part e + 1074 ≤ suc h + neg_part e

range_bits : {g L : ℕ} (h : ℕ) (s : Bool) (m : ℕ) (e : ℤ) → Range g L (2 ^ h) (fin s (suc m) e) → Bits g h (suc m) e
unfolding U
range_bits {g} h s m e r =
    let x = fin s (suc m) e in
    let v : suc m * 2 ^ (pos_part e + 1074) ≡ mag x * 2 ^ neg_part e = ap (λ (z : ℕ). suc m * z) (pow-add 2 (pos_part e) 1074) ∙ sym (mul_assoc (suc m) (2 ^ pos_part e) (2 ^ 1074)) ∙ (rw (up_is e, down_is e) at (range_value r).1) in
    let q = fits→room s m e r.fit in
    record {
      last = odd_multiple (suc m) r.multiple (pos_part e + 1074) (g + neg_part e) q.odd (v ∙ ap (λ (z : ℕ). z * 2 ^ neg_part e) r.grain ∙ mul_assoc r.multiple (2 ^ g) (2 ^ neg_part e) ∙ ap (λ (z : ℕ). r.multiple * z) (sym (pow-add 2 g (neg_part e))));
      leading = let l = digits_in m (pos_part e + 1074) (suc (h + neg_part e)) (lt_of_le_of_lt (le_trans (le_of_eq v) (le_trans (mul-le-mul_right (2 ^ neg_part e) r.most) (le_of_eq (sym (pow-add 2 h (neg_part e)))))) (pow-lt (lt-suc_self (h + neg_part e)))) in omega arith;
    }

-- ---- a shift either way
module _ {g L : ℕ} (h : ℕ) (x : Float) (r : Range g L (2 ^ h) x) (j : ℤ) (low : neg_part j ≤ g + pos_part j) (high : h + pos_part j ≤ top_bits + neg_part j) where
  pub fits_move : T (fits binary64 (shift j x))
  unfolding shift is_finite
  fits_move = go x r
    where
      go : (x : Float) → Range g L (2 ^ h) x → T (fits binary64 (shift j x))
      go nan r = absurd r.finite
      go (inf s) r = absurd r.finite
      go (fin s zero e) r = r.fit
      go (fin s (suc m) e) r =
          let b = range_bits h s m e r in
          let q = fits→room s m e r.fit in
          room→fits s m (e +ℤ j) (room_move e j q (omega arith) (omega arith))

  finite_move : T (is_finite (shift j x))
  finite_move = rw (is_finite_shift j x) r.finite

  mag_move : mag (shift j x) * 2 ^ neg_part j ≡ mag x * 2 ^ pos_part j
  mag_move = go (shift j x) (mag_val (shift j x) fits_move finite_move) (shift_value j x (sign x) (mag x) U (range_value r))
    where
      turn : (n d a b u w l : ℕ) → n * l ≡ a * d → n * (l * w) ≡ b * u * d → a * w * d ≡ b * u * d
      turn n d a b u w l p q = let p' = ap (λ (z : ℕ). z * w) p in omega arith

      go : (y : Float) → Val y (sign y) (mag y) → HasValue y (sign x) (mag x * up j) (U * down j) → mag y * 2 ^ neg_part j ≡ mag x * 2 ^ pos_part j
      go nan v w = absurd v
      go (inf s) v w = absurd v
      go (fin s m e) v w =
          rw (← up_is j, ← down_is j) (eq_of_mul-eq-mul_right (down e) (down_pos e) (mag (fin s m e) * down j) (mag x * up j) (turn (m * up e) (down e) (mag (fin s m e)) (mag x) (up j) (down j) U v.1 w.1))

  pub range_move : (g' L' B' : ℕ) → g' + neg_part j ≡ g + pos_part j → L' * 2 ^ neg_part j ≤ L * 2 ^ pos_part j → 2 ^ h * 2 ^ pos_part j ≤ B' * 2 ^ neg_part j → Range g' L' B' (shift j x)
  range_move g' L' B' eg el eh = record {
    fit = fits_move;
    finite = finite_move;
    multiple = r.multiple;
    grain = eq_of_mul-eq-mul_right (2 ^ neg_part j) (pow_pos (neg_part j)) (mag (shift j x)) (r.multiple * 2 ^ g')
        (mag_move ∙ ap (λ (z : ℕ). z * 2 ^ pos_part j) r.grain ∙ mul_assoc r.multiple (2 ^ g) (2 ^ pos_part j) ∙ ap (λ (z : ℕ). r.multiple * z) (sym (pow-add 2 g (pos_part j)) ∙ ap (λ (z : ℕ). 2 ^ z) (sym eg) ∙ pow-add 2 g' (neg_part j)) ∙ sym (mul_assoc r.multiple (2 ^ g') (2 ^ neg_part j)));
    least = λ (p : 0 < mag (shift j x)).
        let q : 0 < mag x = first_pos (mag x) (2 ^ pos_part j) (subst (λ (z : ℕ). 0 < z) mag_move (mul-pos p (pow_pos (neg_part j)))) in
        le_of_mul-le-mul_right {k = 2 ^ neg_part j} (le_trans el (le_trans (mul-le-mul_right (2 ^ pos_part j) (r.least q)) (le_of_eq (sym mag_move)))) (pow_pos (neg_part j));
    most = le_of_mul-le-mul_right {k = 2 ^ neg_part j} (le_trans (le_of_eq mag_move) (le_trans (mul-le-mul_right (2 ^ pos_part j) r.most) eh)) (pow_pos (neg_part j));
  }

  pub scaled_moves : pow2_scaled x j ≡ shift j x
  scaled_moves = scaled_exact x j r.fit fits_move

-- a zero is its own shift, and stays what it is however it is scaled
pub shift_null : (k : ℤ) (x : Float) → T (fits binary64 x) → T (is_finite x) → mag x ≡ 0 → shift k x ≡ x
unfolding shift is_finite
shift_null k nan t f z = absurd f
shift_null k (inf s) t f z = absurd f
shift_null k (fin s zero e) t f z = refl
shift_null k (fin s (suc m) e) t f z = absurd (lt_irrefl 0 (rw z at (val_pos s m e (sign (fin s (suc m) e)) (mag (fin s (suc m) e)) (mag_val (fin s (suc m) e) t f))))

pub zero_scaled : (x : Float) (j : ℤ) → T (fits binary64 x) → T (is_finite x) → mag x ≡ 0 → pow2_scaled x j ≡ x
zero_scaled x j t f z = let e = shift_null j x t f z in scaled_exact x j t (rw e t) ∙ e

-- ---- b(x)
pub exponent_shift : (k : ℤ) (x : Float) → T (is_finite x) → 0 < mag x → binary_exponent (shift k x) ≡ binary_exponent x +ℤ k
unfolding binary_exponent shift is_finite
exponent_shift k nan f p = absurd f
exponent_shift k (inf s) f p = absurd f
exponent_shift k (fin s zero e) f p = absurd (lt_irrefl 0 (rw (zero_mag s e) at p))
exponent_shift k (fin s (suc m) e) f p = let z = pos (size (suc m) - 1) in same (z +ℤ (e +ℤ k)) (z +ℤ e +ℤ k) (omega (arith, plus z (e +ℤ k), plus e k, plus z e, plus (z +ℤ e) k))

-- by the leading bit: x has 2 ^ (b(x) + one_bits) units at least, and less than twice as many
pub lead : (x : Float) → T (is_finite x) → Val x (sign x) (mag x) → 0 < mag x
    → (2 ^ (one_bits + pos_part (binary_exponent x)) ≤ mag x * 2 ^ neg_part (binary_exponent x)) × (mag x * 2 ^ neg_part (binary_exponent x) < 2 ^ (suc one_bits + pos_part (binary_exponent x)))
unfolding binary_exponent is_finite
lead nan f v p = absurd f
lead (inf s) f v p = absurd f
lead (fin s zero e) f v p = absurd (lt_irrefl 0 (subst (λ (z : ℕ). 0 < z) (zero_mag s e) p))
lead (fin s (suc m) e) f v p =
    let a = size (suc m) - 1 in
    let b = pos a +ℤ e in
    let w : suc m * 2 ^ (pos_part e + one_bits) ≡ mag (fin s (suc m) e) * 2 ^ neg_part e =
    ap (λ (z : ℕ). suc m * z) (pow-add 2 (pos_part e) one_bits) ∙ sym (mul_assoc (suc m) (2 ^ pos_part e) (2 ^ one_bits)) ∙ (rw (up_is e, down_is e, U-is) at v.1) in
    let k = places a e (pos_part b) (neg_part b) (unfold pos_part neg_part in omega (arith, plus (pos a) e)) in (
      least (suc m) a (pos_part e + one_bits) (neg_part e) (mag (fin s (suc m) e)) (neg_part b) (one_bits + pos_part b) k.0 w (size_reaches (suc m) a (omega (arith, size_pos (suc m) (zero-lt-suc m)))),
      most (suc m) (suc a) (pos_part e + one_bits) (neg_part e) (mag (fin s (suc m) e)) (neg_part b) (suc one_bits + pos_part b) k.1 w (subst (λ (z : ℕ). suc m < 2 ^ z) (again (size (suc m)) (size_pos (suc m) (zero-lt-suc m))) (size-lt (suc m))),
    )
  where
    again : (n : ℕ) → 0 < n → n ≡ suc (n - 1)
    again n h = omega arith

    places : (a : ℕ) (e : ℤ) (o u : ℕ) → o + neg_part e ≡ a + pos_part e + u → (one_bits + o + neg_part e ≡ a + (pos_part e + one_bits) + u) × (suc one_bits + o + neg_part e ≡ suc a + (pos_part e + one_bits) + u)
    places a e o u h = (omega arith, omega arith)

    -- n / 2 ^ e, which is m * 2 ^ g, in place
    moved : (m a g e n u o : ℕ) → o + e ≡ a + g + u → m * 2 ^ g ≡ n * 2 ^ e → (2 ^ o * 2 ^ e ≡ 2 ^ a * 2 ^ g * 2 ^ u) × (m * 2 ^ g * 2 ^ u ≡ n * 2 ^ u * 2 ^ e)
    moved m a g e n u o i w = (sym (pow-add 2 o e) ∙ ap (λ (z : ℕ). 2 ^ z) i ∙ pow-add 2 (a + g) u ∙ ap (λ (z : ℕ). z * 2 ^ u) (pow-add 2 a g), ap (λ (z : ℕ). z * 2 ^ u) w ∙ mul_right_comm n (2 ^ e) (2 ^ u))

    least : (m a g e n u o : ℕ) → o + e ≡ a + g + u → m * 2 ^ g ≡ n * 2 ^ e → 2 ^ a ≤ m → 2 ^ o ≤ n * 2 ^ u
    least m a g e n u o i w l = let q = moved m a g e n u o i w in le_of_mul-le-mul_right {k = 2 ^ e} (le_trans (le_of_eq q.0) (le_trans (mul-le-mul_right (2 ^ u) (mul-le-mul_right (2 ^ g) l)) (le_of_eq q.1))) (pow_pos e)

    most : (m a g e n u o : ℕ) → o + e ≡ a + g + u → m * 2 ^ g ≡ n * 2 ^ e → m < 2 ^ a → n * 2 ^ u < 2 ^ o
    most m a g e n u o i w l = let q = moved m a g e n u o i w in lt_of_mul-lt-mul_right (2 ^ e) (subst₂ ◌<◌ q.1 (sym q.0) (mul-lt-mul_of_pos_right (mul-lt-mul_of_pos_right l (pow_pos g)) (pow_pos u)))

-- so a value from 2 ^ least to 2 ^ most units has an exponent from least - one_bits to most - one_bits
pub exponent_range : (b : Bounds) (x : Float) → Bounded b x → 0 < mag x → (b.least + neg_part (binary_exponent x) ≤ pos_part (binary_exponent x) + one_bits) × (pos_part (binary_exponent x) + one_bits ≤ b.most + neg_part (binary_exponent x))
exponent_range b x r p =
    let o = pos_part (binary_exponent x) in
    let u = neg_part (binary_exponent x) in
    let q = lead x r.finite (range_value r) p in
    let low = pow_back (b.least + u) (suc one_bits + o) (lt_of_le_of_lt (le_trans (le_of_eq (pow-add 2 b.least u)) (mul-le-mul_right (2 ^ u) (r.least p))) q.1) in
    let high = pow_back (one_bits + o) (suc (b.most + u)) (lt_of_le_of_lt (le_trans q.0 (le_trans (mul-le-mul_right (2 ^ u) r.most) (le_of_eq (sym (pow-add 2 b.most u))))) (pow-lt (lt-suc_self (b.most + u)))) in
    (omega arith, omega arith)

-- of a zero, 0
pub exponent_null : (x : Float) → Val x (sign x) (mag x) → mag x ≡ 0 → binary_exponent x ≡ pos 0
unfolding binary_exponent
exponent_null nan v z = absurd v
exponent_null (inf s) v z = absurd v
exponent_null (fin s zero e) v z = refl
exponent_null (fin s (suc m) e) v z = absurd (lt_irrefl 0 (rw z at (val_pos s m e (sign (fin s (suc m) e)) (mag (fin s (suc m) e)) v)))

-- ---- two scalings
-- by the power of two of A, d and A shifted alike: the same float
pub same_scaled : (k : ℤ) (d A : Float) → T (fits binary64 d) → T (fits binary64 (shift k d)) → T (fits binary64 (shift (neg_ℤ (binary_exponent A)) d)) → T (is_finite A) → 0 < mag A
    → pow2_scaled (shift k d) (neg_ℤ (binary_exponent (shift k A))) ≡ pow2_scaled d (neg_ℤ (binary_exponent A))
same_scaled k d A td tk tb f p =
    let b = binary_exponent A in
    let back : k +ℤ neg_ℤ (b +ℤ k) ≡ neg_ℤ b = same (k +ℤ neg_ℤ (b +ℤ k)) (neg_ℤ b) (omega (arith, plus k (neg_ℤ (b +ℤ k)), plus b k, pos_part_neg b, neg_part_neg b, pos_part_neg (b +ℤ k), neg_part_neg (b +ℤ k))) in
    let e : shift (neg_ℤ (b +ℤ k)) (shift k d) ≡ shift (neg_ℤ b) d = shift_shift k (neg_ℤ (b +ℤ k)) d ∙ ap (λ (z : ℤ). shift z d) back in
    ap (λ (z : ℤ). pow2_scaled (shift k d) (neg_ℤ z)) (exponent_shift k A f p)
    ∙ scaled_exact (shift k d) (neg_ℤ (b +ℤ k)) tk (subst (λ (z : Float). T (fits binary64 z)) (sym e) tb) ∙ e ∙ sym (scaled_exact d (neg_ℤ b) td tb)

-- one number by 2 ^ j and by 2 ^ (j + k): a float and its shift
pub scaled_copy : (j k : ℤ) (x : Float) → T (fits binary64 x) → T (fits binary64 (shift j x)) → T (fits binary64 (shift (j +ℤ k) x)) → pow2_scaled x (j +ℤ k) ≡ shift k (pow2_scaled x j)
scaled_copy j k x t a b = scaled_exact x (j +ℤ k) t b ∙ sym (shift_shift j k x) ∙ ap (shift k) (sym (scaled_exact x j t a))

-- ---- the values of powers of two, in units
pub pow2_val : (j : ℤ) (n : ℕ) → n + neg_part j ≡ one_bits + pos_part j → Val (pow2 j) false (2 ^ n)
unfolding U
pow2_val j n e = (refl, rw (up_is j, down_is j) (ap (λ (z : ℕ). z * 2 ^ one_bits) (one-mul (2 ^ pos_part j)) ∙ sym (pow-add 2 (pos_part j) one_bits) ∙ ap (λ (z : ℕ). 2 ^ z) (omega arith) ∙ pow-add 2 n (neg_part j)))

pub pow2_minus_val : (l : ℕ) → l ≤ one_bits → Val (pow2 (neg_ℤ (pos l))) false (2 ^ (one_bits - l))
unfolding pos_part neg_part
pow2_minus_val l h = pow2_val (neg_ℤ (pos l)) (one_bits - l) (omega (arith, pos_part_neg (pos l), neg_part_neg (pos l)))
