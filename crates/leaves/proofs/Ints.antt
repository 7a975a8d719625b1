-- Signed whole numbers as the code has them: the test a ≤ b, `lib.Ieee`'s difference of two naturals, and what an i32 holds, by the positive and the negative part of a number (`pos_part`, `neg_part` of Whole). Assumes nothing.
use Rattle.std.proofs.Common.{◌≡◌, ℕ, suc, ◌-◌, ◌^◌, ◌<◌, ◌≤◌, Bool, true, false, cond, T, leb, ℤ, pos, negsuc, refl, arith, le→leb, leb→le, to_z-of_z, w32, SFits, to_z, of_z, leb-false, leb-true}
use lib.Signed.{le_z, mag}
use lib.Ieee as Ieee
use Rattle.leaves.proofs.Whole.{pos_part, neg_part, LeZ, IsDifference}

pub le_yes : (a b : ℤ) → T (le_z a b) → LeZ a b
unfolding pos_part neg_part
le_yes (pos a) (pos b) h = omega (arith, leb→le a b h)
le_yes (pos a) (negsuc b) h = absurd h
le_yes (negsuc a) (pos b) h = omega arith
le_yes (negsuc a) (negsuc b) h = omega (arith, leb→le b a h)

pub yes_le : (a b : ℤ) → LeZ a b → T (le_z a b)
unfolding pos_part neg_part
yes_le (pos a) (pos b) h = le→leb a b (omega arith)
yes_le (pos a) (negsuc b) h = absurd (omega arith)
yes_le (negsuc a) (pos b) h = tt
yes_le (negsuc a) (negsuc b) h = le→leb b a (omega arith)

-- lib.Ieee's a - b
pub minus_is : (a b : ℕ) → IsDifference (Ieee.minus a b) a b
unfolding pos_part neg_part
minus_is a b = go (leb b a) refl
  where
    go : (t : Bool) → leb b a ≡ t → IsDifference (cond t (pos (a - b)) (negsuc (b - suc a))) a b
    go true e = omega (arith, leb-true b a e)
    go false e = omega (arith, leb-false b a e)

-- a number that is not negative
pub is_pos : (z : ℤ) → neg_part z ≡ 0 → z ≡ pos (pos_part z)
unfolding pos_part neg_part
is_pos (pos n) h = refl
is_pos (negsuc n) h = absurd (omega arith)

mag_lt : (z : ℤ) (n : ℕ) → pos_part z < n → neg_part z ≤ n → mag z < n
unfolding pos_part neg_part
mag_lt (pos a) n h k = h
mag_lt (negsuc a) n h k = k

mag_over : (z : ℤ) (n : ℕ) → mag z < n → (pos_part z < n) × (neg_part z ≤ n)
unfolding pos_part neg_part
mag_over (pos a) n h = omega arith
mag_over (negsuc a) n h = omega arith

-- in the range of an i32
pub fits_i32 : (z : ℤ) → (pos_part z < 2 ^ 31) × (neg_part z ≤ 2 ^ 31) → SFits w32 z
fits_i32 z h = record { sfits = mag_lt z (2 ^ 31) h.0 h.1 }

pub i32_fits : (z : ℤ) → SFits w32 z → (pos_part z < 2 ^ 31) × (neg_part z ≤ 2 ^ 31)
i32_fits z h = mag_over z (2 ^ 31) h.sfits

-- what the machine reads back from a number's 32 bits: the number, of an i32
abbrev pub read_back : ℤ → ℤ
read_back z = to_z w32 (of_z w32 z)

pub back_i32 : (z : ℤ) → mag z < 2 ^ 31 → read_back z ≡ z
back_i32 z h = to_z-of_z {w = w32} (record { sfits = h })
