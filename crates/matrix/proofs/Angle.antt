-- The cosine and the sine of a rotation, made of any t of the format: c² + s² is at most 1 + 2 ^ -10, or one of them is NaN. Nothing else is asked of t. Assumes nothing.
use mathlib.Core.Path.{◌≡◌, refl, sym, ap, ◌∙◌, subst}
use mathlib.Core.Logic.{◌⊎◌, inl, inr}
use mathlib.Core.Bool.{Bool, true, false}
use Prim.Native.Nat.{ℕ, ◌+◌, ◌-◌, ◌*◌, ◌^◌, ◌≤◌, ◌<◌}
use native.Mathlib.Nat.{le_trans, le_of_lt, lt_of_le_of_lt, mul-le-mul, mul-le-mul_left, mul-le-mul_right, le_of_mul-le-mul_right, lt_of_mul-lt-mul_right, mul-lt-mul_of_pos_right, mul-pos, mul-zero, mul-mul-mul_comm, le_of_eq}
use native.Mathlib.Omega.{arith}
use lib.Dec.{T, lit≤, lit<}
use lib.IntN.{pos}
use lib.Ieee.{Float, nan, inf, fin, binary64, unlike, add, mul, div, fits}
use lib.Ieee.Fits.{add-fits}
use lib.Ieee.Positive.{through}
use borrow.Author.Tests.{lt-ltb}
use Rattle.leaves.specs.Numbers.{◌⊕◌, ◌⊗◌, ◌⊘◌, zero⁺, one}
use Rattle.leaves.specs.Root.{sqrt}
use Rattle.leaves.proofs.Rounding.{near, near_error}
use Rattle.leaves.proofs.Units.{U, U_pos, Top, Val, one_val, rounded, sign, mag, val_mag, zero_val, val_finite, finite_fin, mag_val, lt_val, rounded_val, rounded_cases}
use Rattle.leaves.proofs.Arithmetic.{add_rounded, mul_rounded, div_rounded}
use Rattle.leaves.proofs.Signs.{same_signs}
use Rattle.leaves.proofs.SqrtNearest.{Nearest, nearest_of}
use Rattle.matrix.specs.Rotation.{cosine}
use Rattle.matrix.proofs.Squares.{Close, InCircle, square_back, half_u, t_c, circle}

-- ---- units
pub near_close : (n d : ℕ) → 0 < d → Close (near n d) n d
near_close n d D = let e = near_error n d D in record { hi = omega arith; lo = omega (arith, e.below) }

pub near_under : (n d b : ℕ) → 0 < d → 2 * n < b * d → near n d < b
near_under n d b D h = lt_of_mul-lt-mul_right d (lt_of_le_of_lt (near_error n d D).doubled h)

pub mul_val : (x y : Float) (s t : Bool) (a b : ℕ) → Val x s a → Val y t b → 2 * (a * b) < Top * U → Val (x ⊗ y) (unlike s t) (near (a * b) U)
mul_val x y s t a b v w h = rw (mul_rounded x y s t a b v w) (rounded_val (unlike s t) (a * b) U U_pos (near_under (a * b) U Top U_pos h))

pub U-big : 2 ^ 30 ≤ U
unfolding U
U-big = lit≤ tt

Top-big : U * 2 ^ 40 < Top
unfolding U Top
Top-big = lit< tt

Top-small : Top * U * 2 ^ 42 ≤ U * U * (U * U)
unfolding U Top
Top-small = lit≤ tt

-- ---- the cosine and the sine, finite
pub record Circle (c s : Float) : Type 0 where
  pub C : ℕ
  pub vc : Val c false C
  pub σ : Bool
  pub S : ℕ
  pub vs : Val s σ S
  pub unit : InCircle U C S

module _ (t : Float) (σ : Bool) (n : ℕ) (v : Val t σ n) where
  -- where t² + 1 overflows, both are zero
  flat : (w : Float) → w ≡ inf false → Circle (one ⊘ sqrt w) (t ⊗ (one ⊘ sqrt w))
  flat w e = subst (λ (c : Float). Circle c (t ⊗ c)) (sym (ap (λ (w : Float). one ⊘ sqrt w) e ∙ at_inf)) (record {
    C = 0;
    vc = zero_val false (pos 0);
    σ = unlike σ false;
    S = near (n * 0) U;
    vs = mul_val t zero⁺ σ false n 0 v (zero_val false (pos 0)) (rw (mul-zero n) (mul-pos (omega (arith, Top-big)) U_pos));
    unit = few (near (n * 0) U) (le_of_mul-le-mul_right {m = near (n * 0) U} {n = 1} {k = U} (let h = (near_close (n * 0) U U_pos).hi in let z = mul-zero n in omega arith) U_pos);
  })
    where
      at_inf : one ⊘ sqrt (inf false) ≡ zero⁺
      at_inf = unfold sqrt div in refl

      few : (s : ℕ) → s ≤ 1 → InCircle U 0 s
      few s h = let a = mul-le-mul h h in let b = mul-le-mul U-big U-big in omega arith

  -- where it does not: w is t² + 1, of W units
  module _ (w : Float) (Z W : ℕ) (cz : Close Z (n * n) U) (cw : Close W (Z + U) 1) (vw : Val w false W) (under : W < Top) (fw : T (fits binary64 w)) where
    root : Nearest w
    root = nearest_of w fw (val_finite w false W vw) (lt_val zero⁺ w false false 0 W (zero_val false (pos 0)) vw ∙ lt-ltb 0 W (omega (arith, U-big)))

    unfoldable R : ℕ
    R = mag (sqrt w)

    unfoldable C : ℕ
    C = near (U * U) R

    vu : Val (sqrt w) false R
    unfolding R
    vu = rw root.plus at (mag_val (sqrt w) root.fit root.finite)

    mag_w : mag w ≡ W
    mag_w = (val_mag w false W vw).1

    cu : U * W * 2 ^ 16 ≤ R * R * (2 ^ 16 + 1)
    unfolding R
    cu =
        let r = mag (sqrt w) in
        let a = through (U * W) ((2 ^ 53 + 1) * (2 ^ 53 + 1)) (2 ^ 16 + 1) (r * r) (2 ^ 106) (2 ^ 16) (lit< tt) (let b = le_trans (rw mag_w at root.at_least) (le_of_eq (mul-mul-mul_comm r (2 ^ 53 + 1) r (2 ^ 53 + 1))) in omega arith) (lit≤ tt) in
        omega arith

    small : R * 2 ^ 20 ≤ U * U
    unfolding R
    small =
        let r = mag (sqrt w) in
        let a = through (r * r) (2 ^ 106) 2 (W * U) ((2 ^ 53 - 1) * (2 ^ 53 - 1)) 1 (lit< tt) (let b = le_trans (le_of_eq (mul-mul-mul_comm r r (2 ^ 53 - 1) (2 ^ 53 - 1))) (rw mag_w at root.at_most) in omega arith) (lit≤ tt) in
        square_back (r * 2 ^ 20) (U * U) (let c = mul-le-mul_right U (le_of_lt under) in omega (arith, Top-small))

    half : U ≤ 2 * R
    half = half_u U n Z W R U-big cz cw cu

    cc : Close C (U * U) R
    unfolding C
    cc = near_close (U * U) R (omega (arith, half, U-big))

    vc : Val (one ⊘ sqrt w) false C
    unfolding C
    vc =
        let D : 0 < R = omega (arith, half, U-big) in
        let a = mul-le-mul_left Top half in
        let b = mul-lt-mul_of_pos_right Top-big U_pos in
        rw (div_rounded one (sqrt w) false false U R one_val vu D) (rounded_val false (U * U) R D (near_under (U * U) R Top D (omega arith)))

    curved : Circle (one ⊘ sqrt w) (t ⊗ (one ⊘ sqrt w))
    curved =
        let tc : n * C ≤ 2 * (U * U) = t_c U n Z W R U-big cz cw cu C small cc in
        let b = mul-lt-mul_of_pos_right Top-big U_pos in
        record {
          C = C;
          vc = vc;
          σ = unlike σ false;
          S = near (n * C) U;
          vs = mul_val t (one ⊘ sqrt w) σ false n C v vc (omega arith);
          unit = circle U n Z W R U-big cz cw cu C small cc (near (n * C) U) (near_close (n * C) U U_pos);
        }

  finite_angle : Circle (cosine t) (t ⊗ cosine t)
  finite_angle =
      let like = same_signs σ σ refl in
      let e : t ⊗ t ≡ rounded false (n * n) U = mul_rounded t t σ σ n n v v ∙ ap (λ (s : Bool). rounded s (n * n) U) like in
      elim (rounded_cases false (n * n) U U_pos) [
        | inr h ↦ flat (t ⊗ t ⊕ one) (ap (λ (z : Float). z ⊕ one) (e ∙ h.1) ∙ over)
        | inl h ↦ second (rw e (rounded_val false (n * n) U U_pos h))
      ]
    where
      over : inf false ⊕ one ≡ inf false
      over = unfold add in refl

      second : Val (t ⊗ t) false (near (n * n) U) → Circle (cosine t) (t ⊗ cosine t)
      second vz =
          let Z = near (n * n) U in
          let e = add_rounded (t ⊗ t) one false false Z U vz one_val in
          elim (rounded_cases false (Z + U) 1 (omega arith)) [
            | inr h ↦ flat (t ⊗ t ⊕ one) (e ∙ h.1)
            | inl h ↦ curved (t ⊗ t ⊕ one) Z (near (Z + U) 1) (near_close (n * n) U U_pos) (near_close (Z + U) 1 (omega arith)) (rw e (rounded_val false (Z + U) 1 (omega arith) h)) h (add-fits binary64 (t ⊗ t) one)
          ]

-- ---- of any t
abbrev pub Angle : Float → Float → Type 0
Angle c s = (c ≡ nan) ⊎ (s ≡ nan) ⊎ Circle c s

pub angle : (t : Float) → T (fits binary64 t) → Angle (cosine t) (t ⊗ cosine t)
angle nan h = inl (unfold mul add sqrt div in refl)
angle (inf true) h = inr (inl (unfold mul add sqrt div in refl))
angle (inf false) h = inr (inl (unfold mul add sqrt div in refl))
angle (fin s m e) h = inr (inr (finite_angle (fin s m e) (sign (fin s m e)) (mag (fin s m e)) (mag_val (fin s m e) h (finite_fin s m e))))
