-- `nearest a b` is the whole number nearest to a / b, and the larger one of two that are as near (`nearest_is`); no other number is both (`nearest_only`). It is a / b
-- to within a half (`nearest_within`), at a half the larger one (`nearest_half`), and not smaller for a larger a / b (`nearest_mono`). Document 02, "Paper 3. Screens
-- round". Assumes nothing.
use mathlib.Core.Path.{◌≡◌, sym, ap}
use mathlib.Core.Logic.{◌⊎◌, inl, inr}
use Prim.Native.Nat.{ℕ, suc, ◌+◌, ◌-◌, ◌*◌, ◌/◌, ◌%◌, ◌≤◌, ◌<◌}
use native.Mathlib.Nat.{le_antisymm, le_of_eq, le_of_lt, eq-or-lt_of_le, mul-le-mul_right, le_of_suc-le-suc, lt_of_mul-lt-mul_right, div-mul-le_self, lt-div-mul-add, div-add-mod', mod-lt}
use native.Mathlib.Omega.{arith}
use lib.Ieee.Nearest.{div_mono, div_same}
use Rattle.leaves.proofs.Whole.{le_or_lt}
use Rattle.paper.specs.Screen.{distance, IsNearest, nearest}

module _ (a b : ℕ) (B : 0 < b) where
  abbrev u : ℕ
  u = nearest a b

  -- a / b is u - 1 / 2 or more, and less than u + 1 / 2
  half_below : 2 * (u * b) ≤ 2 * a + b
  unfolding nearest
  half_below = let h = div-mul-le_self (2 * a + b) (2 * b) in omega arith

  half_above : 2 * a < 2 * (u * b) + b
  unfolding nearest
  half_above = let h : 2 * a + b < (2 * a + b) / (2 * b) * (2 * b) + 2 * b = lt-div-mul-add (omega arith) in omega arith

  pub nearest_within : 2 * distance a (u * b) ≤ b
  nearest_within = omega (arith, half_below, half_above)

  -- ---- no other whole number is nearer, and no larger one is as near

  not_nearer : (v : ℕ) → v < u → distance a (u * b) ≤ distance a (v * b)
  not_nearer v h = let k : suc v * b ≤ u * b = mul-le-mul_right b h in omega (arith, half_below, half_above)

  farther : (v : ℕ) → u < v → distance a (u * b) < distance a (v * b)
  farther v h = let k : suc u * b ≤ v * b = mul-le-mul_right b h in omega (arith, half_below, half_above)

  pub nearest_is : IsNearest a b u
  nearest_is = record { none_nearer = λ v. none v (le_or_lt v u); half_up = λ v e. up v e (le_or_lt v u) }
    where
      smaller : (v : ℕ) → (v ≡ u) ⊎ (v < u) → distance a (u * b) ≤ distance a (v * b)
      smaller v (inl e) = le_of_eq (ap (λ (w : ℕ). distance a (w * b)) (sym e))
      smaller v (inr h) = not_nearer v h

      none : (v : ℕ) → (v ≤ u) ⊎ (u < v) → distance a (u * b) ≤ distance a (v * b)
      none v (inl h) = smaller v (eq-or-lt_of_le h)
      none v (inr h) = le_of_lt (farther v h)

      up : (v : ℕ) → distance a (v * b) ≡ distance a (u * b) → (v ≤ u) ⊎ (u < v) → v ≤ u
      up v e (inl h) = h
      up v e (inr h) = absurd (omega (arith, farther v h))

  pub nearest_only : (v : ℕ) → IsNearest a b v → v ≡ u
  nearest_only v n = le_antisymm (nearest_is.half_up v (sym same)) (n.half_up u same)
    where
      same : distance a (u * b) ≡ distance a (v * b)
      same = le_antisymm (nearest_is.none_nearer v) (n.none_nearer u)

  -- ---- how to tell it

  pub nearest_between : (v : ℕ) → 2 * (v * b) ≤ 2 * a + b → 2 * a < 2 * (v * b) + b → v ≡ u
  nearest_between v l h = le_antisymm (under v u (omega (arith, half_above))) (under u v (omega (arith, half_below)))
    where
      under : (v w : ℕ) → v * b < suc w * b → v ≤ w
      under v w h = le_of_suc-le-suc (lt_of_mul-lt-mul_right b h)

  -- half-way between v and the next one
  pub nearest_half : (v : ℕ) → 2 * a ≡ (2 * v + 1) * b → u ≡ suc v
  nearest_half v e = sym (nearest_between (suc v) (omega arith) (omega arith))

  -- by the way from the one below, and the way to the next
  pub nearest_down : a % b < b - a % b → a / b ≡ u
  nearest_down h = nearest_between (a / b) (omega (arith, div-add-mod' a b)) (omega (arith, div-add-mod' a b))

  pub nearest_up : b - a % b ≤ a % b → a / b + 1 ≡ u
  nearest_up h = nearest_between (a / b + 1) (omega (arith, div-add-mod' a b)) (omega (arith, div-add-mod' a b, mod-lt a B))

-- ---- of two numbers a / b and c / d

module _ (a b c d : ℕ) (B : 0 < b) (D : 0 < d) where
  pub nearest_mono : a * d ≤ c * b → nearest a b ≤ nearest c d
  unfolding nearest
  nearest_mono h = div_mono (2 * a + b) (2 * b) (2 * c + d) (2 * d) (omega arith) (omega arith) (omega arith)

  pub nearest_same : a * d ≡ c * b → nearest a b ≡ nearest c d
  unfolding nearest
  nearest_same e = div_same (2 * a + b) (2 * b) (2 * c + d) (2 * d) (omega arith) (omega arith) (omega arith)
