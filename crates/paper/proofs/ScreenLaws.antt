-- What the screen shows of a number that is not big is within half a ten-thousandth of it, no ten-thousandth is nearer, and of two as near it is the one away from zero
-- (`screen_rounds`). It is 2147483648.0000 in size at most (`screen_bounded`). Document 02, "Paper 3. Screens round". Assumes nothing.
use mathlib.Core.Path.{◌≡◌, refl, sym, ap, ◌∙◌}
use mathlib.Core.Bool.{Bool, true, false, not, ◌&&◌, beq, cond, true≢false}
use Prim.Native.Nat.{ℕ, ◌+◌, ◌*◌, ◌^◌, ◌≤◌, ◌<◌}
use native.Mathlib.Nat.{le_trans, le_antisymm, le_of_eq}
use native.Mathlib.Omega.{arith}
use lib.Dec.{leb, eqb}
use lib.IntN.{ℤ}
use lib.Ieee.{Float, nan, inf, fin, up, down}
use lib.Ieee.Fits.{down_pos}
use borrow.Author.Tests.{eq-eqb, eqb-true, leb-false}
use Rattle.paper.specs.declared.screen.Shown.{Shown}
use Rattle.paper.specs.declared.screen.Shown.TheVariants.{Big, Number}
use Rattle.paper.specs.Screen.{distance, IsNearest, nearest, ten_thousandths, shown_as, shown}
use Rattle.paper.proofs.Nearest.{nearest_is, nearest_within, nearest_between, nearest_mono}

-- ---- what is said

-- ±a and ±b, how far apart
abbrev pub apart : Bool → ℕ → Bool → ℕ → ℕ
apart s a t b = cond (beq s t) (distance a b) (a + b)

-- The number of sign s and size a / b is shown as u ten-thousandths, with a minus or without. Counted in parts of which 10000 b make 1, that number is a * 10000,
-- its screen u * b, any ten-thousandths v * b, and one of them b.
pub record Rounded (s : Bool) (a b : ℕ) (minus : Bool) (u : ℕ) : Type 0 where
  pub within : 2 * apart s (a * 10000) minus (u * b) ≤ b
  pub none_nearer : (t : Bool) (v : ℕ) → apart s (a * 10000) minus (u * b) ≤ apart s (a * 10000) t (v * b)
  pub half_away : (t : Bool) (v : ℕ) → apart s (a * 10000) t (v * b) ≡ apart s (a * 10000) minus (u * b) → v ≤ u
  pub no_minus_at_zero : u ≡ 0 → minus ≡ false

-- ---- a screen that is not big

abbrev pub is_big : Shown → Bool
is_big Big = true
is_big (Number minus u) = false

abbrev minus_of : Shown → Bool
minus_of Big = false
minus_of (Number minus u) = minus

abbrev units_of : Shown → ℕ
units_of Big = 0
units_of (Number minus u) = u

-- what the definition says of such a screen
pub record Shows (s : Bool) (a b : ℕ) (minus : Bool) (u : ℕ) : Type 0 where
  pub not_big : a < 2 ^ 31 * b
  pub minus_is : minus ≡ not (eqb u 0) && s
  pub units_are : u ≡ ten_thousandths a b

pub shows : (s : Bool) (a b : ℕ) (minus : Bool) (u : ℕ) → shown_as s a b ≡ Number minus u → Shows s a b minus u
unfolding shown_as
shows s a b minus u = go (leb (2 ^ 31 * b) a) refl
  where
    v : ℕ
    v = ten_thousandths a b

    go : (t : Bool) → leb (2 ^ 31 * b) a ≡ t → cond t Big (Number (not (eqb v 0) && s) v) ≡ Number minus u → Shows s a b minus u
    go true h e = absurd (true≢false (ap is_big e))
    go false h e = record {
      not_big = leb-false (2 ^ 31 * b) a h;
      minus_is = sym (ap minus_of e) ∙ ap (λ (w : ℕ). not (eqb w 0) && s) (ap units_of e);
      units_are = sym (ap units_of e);
    }

-- ---- how far the screen is from the number

module _ (s : Bool) (a b : ℕ) (minus : Bool) (u : ℕ) (B : 0 < b) (h : Shows s a b minus u) where
  -- the sign is the number's own, or nothing is shown but zeros
  apart_is : (n : ℕ) → apart s n minus (u * b) ≡ distance n (u * b)
  apart_is n = rw h.minus_is (go (eqb u 0) refl s)
    where
      go : (t : Bool) → eqb u 0 ≡ t → (s : Bool) → apart s n (not t && s) (u * b) ≡ distance n (u * b)
      go true e true = rw (eqb-true u 0 e) (omega arith)
      go true e false = refl
      go false e true = refl
      go false e false = refl

  distance_least : (n : ℕ) (t : Bool) (v : ℕ) → distance n v ≤ apart s n t v
  distance_least n t v = go (beq s t)
    where
      go : (t : Bool) → distance n v ≤ cond t (distance n v) (n + v)
      go true = omega arith
      go false = omega arith

  -- of the numbers of ten-thousandths, u is the nearest
  among : IsNearest (a * 10000) b u
  among = rw h.units_are (nearest_is (a * 10000) b B)

  rounded : Rounded s a b minus u
  rounded = record {
    within = rw (apart_is (a * 10000), h.units_are) (nearest_within (a * 10000) b B);
    none_nearer = λ t v. rw (apart_is (a * 10000)) (le_trans (among.none_nearer v) (distance_least (a * 10000) t (v * b)));
    half_away = λ t v e. among.half_up v (le_antisymm (le_trans (distance_least (a * 10000) t (v * b)) (le_of_eq (e ∙ apart_is (a * 10000)))) (among.none_nearer v));
    no_minus_at_zero = λ e. h.minus_is ∙ rw (eq-eqb u 0 e);
  }

-- fin s m e is the number m * up e / down e with the sign s
pub screen_rounds : (s : Bool) (m : ℕ) (e : ℤ) (minus : Bool) (u : ℕ) → shown (fin s m e) ≡ Number minus u → Rounded s (m * up e) (down e) minus u
unfolding shown
screen_rounds s m e minus u h = rounded s (m * up e) (down e) minus u (down_pos e) (shows s (m * up e) (down e) minus u h)

-- ---- no screen number is beyond 2147483648.0000 in size

pub screen_bounded : (x : Float) (minus : Bool) (u : ℕ) → shown x ≡ Number minus u → u ≤ 2 ^ 31 * 10000
unfolding shown
screen_bounded nan minus u h = absurd (true≢false (ap is_big h))
screen_bounded (inf s) minus u h = absurd (true≢false (ap is_big h))
screen_bounded (fin s m e) minus u h = bounded (shows s (m * up e) (down e) minus u h)
  where
    at_most : nearest (2 ^ 31 * 10000) 1 ≡ 2 ^ 31 * 10000
    at_most = sym (nearest_between (2 ^ 31 * 10000) 1 (omega arith) (2 ^ 31 * 10000) (omega arith) (omega arith))

    bounded : Shows s (m * up e) (down e) minus u → u ≤ 2 ^ 31 * 10000
    bounded k =
        let l = k.not_big in
        le_trans (le_of_eq k.units_are) (le_trans (nearest_mono (m * up e * 10000) (down e) (2 ^ 31 * 10000) 1 (down_pos e) (omega arith) (omega arith)) (le_of_eq at_most))
