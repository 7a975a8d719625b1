-- Two entries, turned: where both are finite and at most 2 ^ 300 in size, the results are finite, and their squares grow by at most 2 ^ -8 of themselves and 2 ^ 17
-- units squared. A NaN makes both results NaN. Assumes nothing.
use mathlib.Core.Path.{◌≡◌, refl, ap, ◌∙◌}
use mathlib.Core.Logic.{◌⊎◌, inl, inr}
use mathlib.Core.Bool.{Bool, true, false, not}
use Prim.Native.Nat.{ℕ, ◌+◌, ◌*◌, ◌^◌, ◌≤◌, ◌<◌}
use native.Mathlib.Nat.{mul-le-mul, mul-lt-mul_of_pos_right, le_of_mul-le-mul_right}
use native.Mathlib.Omega.{arith}
use lib.Dec.{T, lit<}
use lib.Ieee.{Float, nan, binary64, unlike, neg, sub, fits}
use lib.Ieee.Fits.{add-fits, sub-fits}
use Rattle.leaves.specs.Numbers.{◌⊕◌, ◌⊖◌, ◌⊗◌, is_finite}
use Rattle.leaves.proofs.Nan.{nan_mul, nan_add, nan_sub}
use Rattle.leaves.proofs.Rounding.{near, near_error}
use Rattle.leaves.proofs.Units.{one_bits, U, U_pos, Top, Val, sign, mag, val_mag, val_finite, mag_val, neg_val, rounded_val}
use Rattle.leaves.proofs.Arithmetic.{sum_sign, distance, sum_size, sum_size_le, add_rounded}
use Rattle.matrix.proofs.Squares.{Close, InCircle, Grows, square_back, turned}
use Rattle.matrix.proofs.Angle.{near_close, near_under, mul_val, Circle, Angle}

-- 2 ^ 300, in units: the size up to which an entry may be turned
abbrev pub turn_bits : ℕ
turn_bits = one_bits + 300

unfoldable pub TurnMost : ℕ
TurnMost = 2 ^ turn_bits

roomy : 16 * TurnMost < Top
unfolding TurnMost Top
roomy = lit< tt

-- ---- finite entries
-- a product, and its size
product : (c s p : ℕ) → InCircle U c s → p ≤ TurnMost → (2 * (c * p) < Top * U) × (near (c * p) U ≤ 4 * TurnMost)
product c s p h hp =
    let a = mul-le-mul (square_back c (2 * U) (omega arith)) hp in
    (let r = mul-lt-mul_of_pos_right roomy U_pos in omega arith, le_of_mul-le-mul_right {m = near (c * p) U} {n = 4 * TurnMost} {k = U} (let d = (near_error (c * p) U U_pos).doubled in omega arith) U_pos)

-- a sum of two products
sum : (u v : Float) (i j : Bool) (m n : ℕ) → Val u i m → Val v j n → m ≤ 4 * TurnMost → n ≤ 4 * TurnMost → Val (u ⊕ v) (sum_sign i m j n) (near (sum_size i m j n) 1)
sum u v i j m n vu vv hm hn =
    rw (add_rounded u v i j m n vu vv) (rounded_val (sum_sign i m j n) (sum_size i m j n) 1 (omega arith) (near_under (sum_size i m j n) 1 Top (omega arith) (omega (arith, sum_size_le i j m n, roomy))))

module _ (C S P Q : ℕ) (unit : InCircle U C S) where
  module _ (hP : P ≤ TurnMost) (hQ : Q ≤ TurnMost) (c s x y : Float) (σ a b : Bool) (vc : Val c false C) (vs : Val s σ S) (vx : Val x a P) (vy : Val y b Q) where
    first : Val (c ⊗ x ⊖ s ⊗ y) (sum_sign (unlike false a) (near (C * P) U) (not (unlike σ b)) (near (S * Q) U)) (near (sum_size (unlike false a) (near (C * P) U) (not (unlike σ b)) (near (S * Q) U)) 1)
    unfolding sub
    first =
        let cp = product C S P unit hP in
        let sq = product S C Q (omega arith) hQ in
        sum (c ⊗ x) (neg (s ⊗ y)) (unlike false a) (not (unlike σ b)) (near (C * P) U) (near (S * Q) U) (mul_val c x false a C P vc vx cp.0) (neg_val (s ⊗ y) (unlike σ b) (near (S * Q) U) (mul_val s y σ b S Q vs vy sq.0)) cp.1 sq.1

    second : Val (s ⊗ x ⊕ c ⊗ y) (sum_sign (unlike σ a) (near (S * P) U) (unlike false b) (near (C * Q) U)) (near (sum_size (unlike σ a) (near (S * P) U) (unlike false b) (near (C * Q) U)) 1)
    second =
        let sp = product S C P (omega arith) hP in
        let cq = product C S Q unit hQ in
        sum (s ⊗ x) (c ⊗ y) (unlike σ a) (unlike false b) (near (S * P) U) (near (C * Q) U) (mul_val s x σ a S P vs vx sp.0) (mul_val c y false b C Q vc vy cq.0) sp.1 cq.1

  -- of the two, one is a distance and the other a sum
  module _ (r t : ℕ) where
    close : (c p : ℕ) → Close (near (c * p) U) (c * p) U
    close c p = near_close (c * p) U U_pos

    apart : Close r (distance (near (C * P) U) (near (S * Q) U)) 1 → Close t (near (S * P) U + near (C * Q) U) 1 → Grows r t P Q
    apart g h = turned U C S P Q (near (C * P) U) (near (S * Q) U) (near (S * P) U) (near (C * Q) U) r t U_pos unit (close C P) (close S Q) (close S P) (close C Q) g h

    together : Close r (near (C * P) U + near (S * Q) U) 1 → Close t (distance (near (S * P) U) (near (C * Q) U)) 1 → Grows r t P Q
    together g h = let f = turned U S C P Q (near (S * P) U) (near (C * Q) U) (near (C * P) U) (near (S * Q) U) t r U_pos (omega arith) (close S P) (close C Q) (close C P) (close S Q) h g in omega arith

    grows : (σ a b : Bool) → Close r (sum_size (unlike false a) (near (C * P) U) (not (unlike σ b)) (near (S * Q) U)) 1 → Close t (sum_size (unlike σ a) (near (S * P) U) (unlike false b) (near (C * Q) U)) 1 → Grows r t P Q
    grows false false false = apart
    grows false false true = together
    grows false true false = together
    grows false true true = apart
    grows true false false = together
    grows true false true = apart
    grows true true false = apart
    grows true true true = together

-- ---- a value of the format that is NaN or finite
abbrev pub Tame : Float → Type 0
Tame x = T (fits binary64 x) × ((x ≡ nan) ⊎ T (is_finite x))

pub record Next (x y : Float) (P Q : ℕ) : Type 0 where
  pub at_p : Tame x
  pub at_q : Tame y
  pub growth : Grows (mag x) (mag y) P Q

by_values : (x y : Float) (i j : Bool) (m n P Q : ℕ) → T (fits binary64 x) → T (fits binary64 y) → Val x i m → Val y j n → Grows m n P Q → Next x y P Q
by_values x y i j m n P Q fx fy vx vy h = record {
  at_p = (fx, inr (val_finite x i m vx));
  at_q = (fy, inr (val_finite y j n vy));
  growth = rw ((val_mag x i m vx).1, (val_mag y j n vy).1) h;
}

pub next : (c s x y : Float) → Angle c s → Tame x → Tame y → mag x ≤ TurnMost → mag y ≤ TurnMost → Next (c ⊗ x ⊖ s ⊗ y) (s ⊗ x ⊕ c ⊗ y) (mag x) (mag y)
next c s x y h tx ty hx hy = go h tx.1 ty.1
  where
    p : Float
    p = c ⊗ x ⊖ s ⊗ y

    q : Float
    q = s ⊗ x ⊕ c ⊗ y

    spoiled : p ≡ nan → q ≡ nan → Next p q (mag x) (mag y)
    spoiled e f = record {
      at_p = (sub-fits binary64 (c ⊗ x) (s ⊗ y), inl e);
      at_q = (add-fits binary64 (s ⊗ x) (c ⊗ y), inl f);
      growth = let a : mag p ≡ 0 = ap mag e ∙ (unfold mag in refl) in let b : mag q ≡ 0 = ap mag f ∙ (unfold mag in refl) in rw (a, b) (omega arith);
    }

    finite : Circle c s → T (is_finite x) → T (is_finite y) → Next p q (mag x) (mag y)
    finite k fx fy =
        let vx = mag_val x tx.0 fx in
        let vy = mag_val y ty.0 fy in
        by_values p q _ _ _ _ (mag x) (mag y) (sub-fits binary64 (c ⊗ x) (s ⊗ y)) (add-fits binary64 (s ⊗ x) (c ⊗ y))
        (first k.C k.S (mag x) (mag y) k.unit hx hy c s x y k.σ (sign x) (sign y) k.vc k.vs vx vy)
        (second k.C k.S (mag x) (mag y) k.unit hx hy c s x y k.σ (sign x) (sign y) k.vc k.vs vx vy)
        (grows k.C k.S (mag x) (mag y) k.unit _ _ k.σ (sign x) (sign y) (near_close _ 1 (omega arith)) (near_close _ 1 (omega arith)))

    go : Angle c s → (x ≡ nan) ⊎ T (is_finite x) → (y ≡ nan) ⊎ T (is_finite y) → Next p q (mag x) (mag y)
    go (inl e) fx fy = spoiled (nan_sub (c ⊗ x) (s ⊗ y) (inl (nan_mul c x (inl e)))) (nan_add (s ⊗ x) (c ⊗ y) (inr (nan_mul c y (inl e))))
    go (inr (inl e)) fx fy = spoiled (nan_sub (c ⊗ x) (s ⊗ y) (inr (nan_mul s y (inl e)))) (nan_add (s ⊗ x) (c ⊗ y) (inl (nan_mul s x (inl e))))
    go (inr (inr k)) (inl e) fy = spoiled (nan_sub (c ⊗ x) (s ⊗ y) (inl (nan_mul c x (inr e)))) (nan_add (s ⊗ x) (c ⊗ y) (inl (nan_mul s x (inr e))))
    go (inr (inr k)) (inr fx) (inl e) = spoiled (nan_sub (c ⊗ x) (s ⊗ y) (inr (nan_mul s y (inr e)))) (nan_add (s ⊗ x) (c ⊗ y) (inr (nan_mul c y (inr e))))
    go (inr (inr k)) (inr fx) (inr fy) = finite k fx fy
