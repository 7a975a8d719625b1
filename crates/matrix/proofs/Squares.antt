-- What a rotation's rounding errors do to lengths, as inequalities of whole numbers of units; l units are 1. A rounding is off by at most 2 ^ -20 of the exact
-- value and one unit (`Close`). First, c² + s² is at most 1 + 2 ^ -10 (`circle`). Then the squares of the two numbers that are turned grow by at most 2 ^ -8
-- of themselves and 2 ^ 17 units squared (`Grows`, `turned`). Assumes nothing.
use mathlib.Core.Path.{◌≡◌, ap, ◌∙◌, subst}
use mathlib.Core.Logic.{inl, inr}
use Prim.Native.Nat.{ℕ, ◌+◌, ◌-◌, ◌*◌, ◌^◌, ◌≤◌, ◌<◌}
use native.Mathlib.Nat.{mul-le-mul, mul-le-mul_left, mul-le-mul_right, le_of_mul-le-mul_right, mul-pos}
use native.Mathlib.Omega.{arith}
use Rattle.leaves.proofs.Whole.{le_or_lt}
use Rattle.leaves.proofs.Arithmetic.{distance}

-- g is n / d, rounded
pub record Close (g n d : ℕ) : Type 0 where
  pub hi : g * d * 2 ^ 20 ≤ n * (2 ^ 20 + 1) + d * 2 ^ 20
  pub lo : n * (2 ^ 20 - 1) ≤ g * d * 2 ^ 20 + d * 2 ^ 20

-- c² + s² is at most 1 + 2 ^ -10
abbrev pub InCircle : ℕ → ℕ → ℕ → Type 0
InCircle l c s = (c * c + s * s) * 2 ^ 10 ≤ l * l * (2 ^ 10 + 1)

-- 256 times the 2 ^ 17 that the roundings add
abbrev pub slack : ℕ
slack = 2 ^ 25

-- r² + t² is at most p² + q², grown by 2 ^ -8 of itself and 2 ^ 17
abbrev pub Grows : ℕ → ℕ → ℕ → ℕ → Type 0
Grows r t p q = (r * r + t * t) * 256 ≤ (p * p + q * q) * 257 + slack

-- ---- second degree
pub square_back : (a b : ℕ) → a * a ≤ b * b → a ≤ b
square_back a b h = elim (le_or_lt a b) [ inl l ↦ l | inr l ↦ absurd (let g = mul-le-mul l l in omega arith) ]

-- 2ab ≤ a² + b²
twice : (a b : ℕ) → 2 * (a * b) ≤ a * a + b * b
twice a b = elim (le_or_lt a b) [ inl l ↦ at a b (b - a) (omega arith) | inr l ↦ let g = at b a (a - b) (omega arith) in omega arith ]
  where
    at : (a b d : ℕ) → a + d ≡ b → 2 * (a * b) ≤ a * a + b * b
    at a b d e = subst (λ (z : ℕ). 2 * (a * z) ≤ a * a + z * z) e (omega arith)

-- (a + b)² ≤ (1 + 1 / k) a² + (1 + k) b²
young : (k a b : ℕ) → (a + b) * (a + b) * k ≤ a * a * (k + 1) + b * b * (k * (k + 1))
young k a b = let g = twice a (k * b) in omega arith

-- ---- c and s: z rounds t², w rounds z + 1, u is near the root of w, c rounds 1 / u, s rounds t c
module _ (l t z w u : ℕ) (big : 2 ^ 30 ≤ l) (cz : Close z (t * t) l) (cw : Close w (z + l) 1) (cu : l * w * 2 ^ 16 ≤ u * u * (2 ^ 16 + 1)) where
  -- 1 + t² is hardly more than u²
  about_u : (l * l + t * t) * 2 ^ 16 ≤ u * u * (2 ^ 16 + 8)
  about_u =
      let a : t * t * (2 ^ 20 - 1) ≤ z * l * 2 ^ 20 + l * 2 ^ 20 = cz.lo in
      let b : (z * l + l * l) * (2 ^ 20 - 1) ≤ l * w * 2 ^ 20 + l * 2 ^ 20 = (let m = mul-le-mul_left l cw.lo in omega arith) in
      let d : l * 2 ^ 30 ≤ l * l = mul-le-mul_left l big in
      step (l * l) (t * t) (z * l) (l * w) (u * u) l a b d cu
    where
      step : (ll tt zl lw uu l : ℕ) → tt * (2 ^ 20 - 1) ≤ zl * 2 ^ 20 + l * 2 ^ 20 → (zl + ll) * (2 ^ 20 - 1) ≤ lw * 2 ^ 20 + l * 2 ^ 20 → l * 2 ^ 30 ≤ ll → lw * 2 ^ 16 ≤ uu * (2 ^ 16 + 1) → (ll + tt) * 2 ^ 16 ≤ uu * (2 ^ 16 + 8)
      step ll tt zl lw uu l a b d e = omega arith

  pub half_u : l ≤ 2 * u
  half_u = square_back l (2 * u) (let a = about_u in omega arith)

  module _ (c : ℕ) (small : u * 2 ^ 20 ≤ l * l) (cc : Close c (l * l) u) where
    -- so c² (1 + t²) is hardly more than 1
    about_c : c * c * (l * l + t * t) * 2 ^ 11 ≤ l * l * (l * l) * (2 ^ 11 + 1)
    about_c =
        let h : c * u * 2 ^ 16 ≤ l * l * (2 ^ 16 + 1) = omega arith in
        let p : c * c * ((l * l + t * t) * 2 ^ 16) ≤ c * c * (u * u * (2 ^ 16 + 8)) = mul-le-mul_left (c * c) about_u in
        let q : c * u * 2 ^ 16 * (c * u * 2 ^ 16) ≤ l * l * (2 ^ 16 + 1) * (l * l * (2 ^ 16 + 1)) = mul-le-mul h h in
        step (c * c * (l * l + t * t)) (c * c * (u * u)) (l * l * (l * l)) (omega arith) (omega arith)
      where
        step : (x y z : ℕ) → x * 2 ^ 16 ≤ y * (2 ^ 16 + 8) → y * 2 ^ 32 ≤ z * ((2 ^ 16 + 1) * (2 ^ 16 + 1)) → x * 2 ^ 11 ≤ z * (2 ^ 11 + 1)
        step x y z p q = omega arith

    pub t_c : t * c ≤ 2 * (l * l)
    t_c = square_back (t * c) (2 * (l * l)) (let a = about_c in omega arith)

    pub circle : (s : ℕ) → Close s (t * c) l → InCircle l c s
    circle s cs =
        let n = l * l in
        let a : s * l * 2 ^ 20 ≤ t * c * (2 ^ 20 + 1) + l * 2 ^ 20 = cs.hi in
        let b = mul-le-mul a a in
        let y = young (2 ^ 16) (t * c * (2 ^ 20 + 1)) (l * 2 ^ 20) in
        let m : n * 2 ^ 60 ≤ n * n = mul-le-mul_left n (mul-le-mul big big) in
        let e = about_c in
        let r = step (c * c * (l * l)) (t * c * (t * c)) (s * l * (s * l)) n (n * n) (omega arith) (omega arith) m in
        le_of_mul-le-mul_right {m = (c * c + s * s) * 2 ^ 10} {n = l * l * (2 ^ 10 + 1)} {k = l * l} (omega arith) (mul-pos (omega arith) (omega arith))
      where
        step : (cl tc sl n nn : ℕ) → (cl + tc) * 2 ^ 11 ≤ nn * (2 ^ 11 + 1) → sl * 2 ^ 40 * 2 ^ 16 ≤ tc * ((2 ^ 20 + 1) * (2 ^ 20 + 1)) * (2 ^ 16 + 1) + n * 2 ^ 40 * (2 ^ 16 * (2 ^ 16 + 1)) → n * 2 ^ 60 ≤ nn → (cl + sl) * 2 ^ 10 ≤ nn * (2 ^ 10 + 1)
        step cl tc sl n nn a b m = omega arith

-- ---- two numbers of sizes p and q, turned: x, y, z, w round c p, s q, s p and c q; one result rounds the distance of x and y, and the other z + w
module _ (l c s p q x y z w r t : ℕ) (pos : 0 < l) (unit : InCircle l c s) (cx : Close x (c * p) l) (cy : Close y (s * q) l)
    (cz : Close z (s * p) l) (cw : Close w (c * q) l) (cr : Close r (distance x y) 1) (ct : Close t (z + w) 1) where
  -- a result that rounds d, which is m / l up to the errors of two products of size h together
  result : (r d m h : ℕ) → d * l * 2 ^ 20 ≤ m * 2 ^ 20 + h + 2 * (l * 2 ^ 20) → m ≤ h → Close r d 1 → r * l * 2 ^ 20 ≤ m * 2 ^ 20 + 4 * (h + l * 2 ^ 20)
  result r d m h e k n = let g = mul-le-mul_right l n.hi in omega arith

  -- squared: `young` multiplies the errors' square, which is at most 48 times the sum of three squares
  abbrev errors : ℕ
  errors = 48 * (2 ^ 10 * (2 ^ 10 + 1))

  square : (r m a b : ℕ) → r * l * 2 ^ 20 ≤ m * 2 ^ 20 + 4 * (a + b + l * 2 ^ 20)
      → r * l * 2 ^ 20 * (r * l * 2 ^ 20) * 2 ^ 10 ≤ m * 2 ^ 20 * (m * 2 ^ 20) * (2 ^ 10 + 1) + errors * (a * a + b * b + l * 2 ^ 20 * (l * 2 ^ 20))
  square r m a b h =
      let k = a + b + l * 2 ^ 20 in
      let u = mul-le-mul h h in
      let v = young (2 ^ 10) (m * 2 ^ 20) (4 * k) in
      three (r * l * 2 ^ 20 * (r * l * 2 ^ 20)) (m * 2 ^ 20) a b (l * 2 ^ 20) (omega arith)
    where
      three : (r m a b d : ℕ) → r * 2 ^ 10 ≤ m * m * (2 ^ 10 + 1) + 4 * (a + b + d) * (4 * (a + b + d)) * (2 ^ 10 * (2 ^ 10 + 1)) → r * 2 ^ 10 ≤ m * m * (2 ^ 10 + 1) + errors * (a * a + b * b + d * d)
      three r m a b d h = let f = twice a b in let g = twice b d in let k = twice a d in omega arith

  -- the distance and the sum, exact and rounded
  far : distance x y * l * 2 ^ 20 ≤ distance (c * p) (s * q) * 2 ^ 20 + (c * p + s * q) + 2 * (l * 2 ^ 20)
  far = elim (le_or_lt x y) [ inl h ↦ below (omega arith) | inr h ↦ above (omega arith) ]
    where
      below : x + distance x y ≡ y → distance x y * l * 2 ^ 20 ≤ distance (c * p) (s * q) * 2 ^ 20 + (c * p + s * q) + 2 * (l * 2 ^ 20)
      below e = let f = ap (λ (v : ℕ). v * l) e in let m : s * q ≤ c * p + distance (c * p) (s * q) = omega arith in omega arith

      above : y + distance x y ≡ x → distance x y * l * 2 ^ 20 ≤ distance (c * p) (s * q) * 2 ^ 20 + (c * p + s * q) + 2 * (l * 2 ^ 20)
      above e = let f = ap (λ (v : ℕ). v * l) e in let m : c * p ≤ s * q + distance (c * p) (s * q) = omega arith in omega arith

  -- (cp - sq)² + (sp + cq)² = (c² + s²) (p² + q²)
  exact : distance (c * p) (s * q) * distance (c * p) (s * q) + (s * p + c * q) * (s * p + c * q) ≡ (c * c + s * s) * (p * p + q * q)
  exact = elim (le_or_lt (c * p) (s * q)) [
    | inl h ↦ (let e : c * p + distance (c * p) (s * q) ≡ s * q = omega arith in at (c * p) (distance (c * p) (s * q)) (ap (λ (v : ℕ). c * p * v) e) (ap (λ (v : ℕ). c * p * (c * p) + v * v) e))
    | inr h ↦ (let e : s * q + distance (c * p) (s * q) ≡ c * p = omega arith in at (s * q) (distance (c * p) (s * q)) (ap (λ (v : ℕ). s * q * v) e ∙ omega arith) (ap (λ (v : ℕ). s * q * (s * q) + v * v) e ∙ omega arith))
  ]
    where
      at : (a m : ℕ) → a * (a + m) ≡ c * p * (s * q) → a * a + (a + m) * (a + m) ≡ c * p * (c * p) + s * q * (s * q) → m * m + (s * p + c * q) * (s * p + c * q) ≡ (c * c + s * s) * (p * p + q * q)
      at a m f g = omega arith

  pub turned : Grows r t p q
  turned =
      let m = distance (c * p) (s * q) in
      let a = square r m (c * p) (s * q) (result r (distance x y) m (c * p + s * q) far (omega arith) cr) in
      let b = square t (s * p + c * q) (s * p) (c * q) (result t (z + w) (s * p + c * q) (s * p + c * q) (omega arith) (omega arith) ct) in
      let u = mul-le-mul_right (p * p + q * q) unit in
      cancel (r * r + t * t) (p * p + q * q) (l * l) (mul-pos pos pos)
      (collect (r * l * 2 ^ 20 * (r * l * 2 ^ 20)) (t * l * 2 ^ 20 * (t * l * 2 ^ 20)) (m * m) ((s * p + c * q) * (s * p + c * q)) (c * p * (c * p) + s * q * (s * q)) (s * p * (s * p) + c * q * (c * q)) ((c * c + s * s) * (p * p + q * q)) (l * l) (l * l * (p * p + q * q)) ((r * r + t * t) * (l * l)) (omega arith) (omega arith) exact (omega arith) (omega arith) (omega arith))
    where
      collect : (rr tt m n g h k l e v : ℕ) → rr * 2 ^ 10 ≤ m * 2 ^ 40 * (2 ^ 10 + 1) + errors * (g + l * 2 ^ 40) → tt * 2 ^ 10 ≤ n * 2 ^ 40 * (2 ^ 10 + 1) + errors * (h + l * 2 ^ 40)
          → m + n ≡ k → g + h ≡ k → k * 2 ^ 10 ≤ e * (2 ^ 10 + 1) → v * 2 ^ 40 ≡ rr + tt → v * 256 ≤ e * 257 + l * slack
      collect rr tt m n g h k l e v a b c d u w = omega arith

      cancel : (v k l : ℕ) → 0 < l → v * l * 256 ≤ l * k * 257 + l * slack → v * 256 ≤ k * 257 + slack
      cancel v k l pos h = le_of_mul-le-mul_right {m = v * 256} {n = k * 257 + slack} {k = l} (omega arith) pos
