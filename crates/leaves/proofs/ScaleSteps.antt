-- The scaling by powers of two as the code does it: its steps, of which the last (`scale_last`) is a power that is not cut and each other one (`scale_step`) a power that is, and what a product with a power of two
-- and a scaling make of a number m * 2 ^ e, by its room. Assumes nothing.
use Rattle.std.proofs.Common.{◌≡◌, ℕ, zero, suc, ◌-◌, ◌/◌, ◌%◌, ◌≤◌, min, Bool, true, false, cond, ltb, ℤ, pos, negsuc, ◌+ℤ◌, ◌-ℤ◌, sym, refl, ap, ◌∙◌, arith, ltb-false, ltb-true}
use lib.Ieee.{Float, fin}
use Rattle.leaves.specs.Numbers.{◌⊗◌}
use Rattle.leaves.specs.Shift.{shift}
use Rattle.leaves.specs.Scaling.{pow2, times, pow2_scaled, cut}
use Rattle.leaves.specs.Loops.{loop}
use Rattle.leaves.proofs.Whole.{pos_part, neg_part, minus, same}
use Rattle.leaves.proofs.Laws.{room→fits, Room, mul_pow2}
use Rattle.leaves.proofs.Scale.{scaled_once}

-- ---- k cut to -1022..1023
pub record Cut (k r : ℤ) : Type 0 where
  pub top : pos_part r ≡ min (pos_part k) 1023
  pub bottom : neg_part r ≡ min (neg_part k) 1022

pub cut_range : (k : ℤ) → Cut k (cut k)
unfolding cut pos_part neg_part
cut_range (pos n) = go (ltb 1023 n) refl
  where
    go : (t : Bool) → ltb 1023 n ≡ t → Cut (pos n) (cond t (pos 1023) (pos n))
    go true e = omega (arith, ltb-true 1023 n e)
    go false e = omega (arith, ltb-false 1023 n e)
cut_range (negsuc n) = go (ltb 1021 n) refl
  where
    go : (t : Bool) → ltb 1021 n ≡ t → Cut (negsuc n) (cond t (negsuc 1021) (negsuc n))
    go true e = omega (arith, ltb-true 1021 n e)
    go false e = omega (arith, ltb-false 1021 n e)

-- the last step
pub scale_last : (x : Float) (k : ℤ) → cut k ≡ k → x ⊗ pow2 k ≡ pow2_scaled x k
scale_last x k h = sym (scaled_once x k (omega (arith, (cut_range k).top, ap pos_part h)) (omega (arith, (cut_range k).bottom, ap neg_part h)))

-- one more in front
times_front : (n : ℕ) (y x : Float) → times (suc n) y x ≡ times n y (x ⊗ y)
unfolding times loop
times_front zero y x = refl
times_front (suc n) y x = ap (λ (z : Float). z ⊗ y) (times_front n y x)

-- a step that is not the last
up_step : (x : Float) (n : ℕ) → 1023 ≤ n → pow2_scaled (x ⊗ pow2 (pos 1023)) (pos (suc n) -ℤ pos 1023) ≡ pow2_scaled x (pos (suc n))
unfolding pow2_scaled pos_part neg_part
up_step x n l =
    let k : pos (suc n) -ℤ pos 1023 ≡ pos (suc (n - 1023)) = same (pos (suc n) -ℤ pos 1023) (pos (suc (n - 1023))) (omega (arith, minus (pos (suc n)) (pos 1023))) in
    let q : n / 1023 ≡ suc ((n - 1023) / 1023) = omega arith in
    let r : (n - 1023) % 1023 ≡ n % 1023 = omega arith in
    rw (k, q, r, times_front ((n - 1023) / 1023) (pow2 (pos 1023)) x)

down_step : (x : Float) (n : ℕ) → 1022 ≤ n → pow2_scaled (x ⊗ pow2 (negsuc 1021)) (negsuc n -ℤ negsuc 1021) ≡ pow2_scaled x (negsuc n)
unfolding pow2_scaled pos_part neg_part
down_step x n l =
    let k : negsuc n -ℤ negsuc 1021 ≡ negsuc (n - 1022) = same (negsuc n -ℤ negsuc 1021) (negsuc (n - 1022)) (omega (arith, minus (negsuc n) (negsuc 1021))) in
    let q : n / 1022 ≡ suc ((n - 1022) / 1022) = omega arith in
    let r : (n - 1022) % 1022 ≡ n % 1022 = omega arith in
    rw (k, q, r, times_front ((n - 1022) / 1022) (pow2 (negsuc 1021)) x)

pub scale_step : (x : Float) (k : ℤ) → (cut k ≡ k → ⊥) → pow2_scaled (x ⊗ pow2 (cut k)) (k -ℤ cut k) ≡ pow2_scaled x k
unfolding cut
scale_step x (pos zero) h = absurd (h refl)
scale_step x (pos (suc n)) h = go (ltb 1023 (suc n)) refl h
  where
    go : (t : Bool) → ltb 1023 (suc n) ≡ t → (cond t (pos 1023) (pos (suc n)) ≡ pos (suc n) → ⊥)
        → pow2_scaled (x ⊗ pow2 (cond t (pos 1023) (pos (suc n)))) (pos (suc n) -ℤ cond t (pos 1023) (pos (suc n))) ≡ pow2_scaled x (pos (suc n))
    go true e g = up_step x n (omega (arith, ltb-true 1023 (suc n) e))
    go false e g = absurd (g refl)
scale_step x (negsuc n) h = go (ltb 1021 n) refl h
  where
    go : (t : Bool) → ltb 1021 n ≡ t → (cond t (negsuc 1021) (negsuc n) ≡ negsuc n → ⊥)
        → pow2_scaled (x ⊗ pow2 (cond t (negsuc 1021) (negsuc n))) (negsuc n -ℤ cond t (negsuc 1021) (negsuc n)) ≡ pow2_scaled x (negsuc n)
    go true e g = down_step x n (omega (arith, ltb-true 1021 n e))
    go false e g = absurd (g refl)

-- ---- of a number m * 2 ^ e
pub mul_fin : (s : Bool) (m : ℕ) (e d g : ℤ) → Room (suc m) e → Room (suc m) g → g ≡ e +ℤ d → fin s (suc m) e ⊗ pow2 d ≡ fin s (suc m) g
unfolding shift
mul_fin s m e d g r q h = mul_pow2 (fin s (suc m) e) d (room→fits s m e r) (rw (← h) (room→fits s m g q)) ∙ ap (fin s (suc m)) (sym h)
