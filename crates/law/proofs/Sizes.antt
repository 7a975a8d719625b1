-- The sizes that document 01 grants, of a number and of all in a list, and numbers from 0 to 1, as ranges of units. Assumes nothing.
use mathlib.Core.Path.{◌≡◌, refl, sym, ◌∙◌, subst}
use mathlib.Core.Logic.{◌⊎◌, inl, inr}
use Prim.Native.Nat.{ℕ, zero, suc, ◌+◌, ◌-◌, ◌^◌, ◌≤◌, ◌<◌, zero-le}
use native.Mathlib.Nat.{le_of_eq, le_of_suc-le-suc, not-suc-le-zero, lt_irrefl, eq-zero-or-pos, le_trans}
use native.Mathlib.Omega.{arith}
use mathlib.Core.Bool.{Bool, true, false, not, ◌&&◌, ◌||◌, cond}
use mathlib.Core.List.{List, [], ◌∷◌}
use lib.Dec.{T}
use lib.IntN.{pos, neg_ℤ}
use lib.ListN.{length, get_or}
use lib.Pow.{pow_mono}
use lib.Ieee.{Float, nan, inf, fin, binary64, fits, eq, lt, le}
use lib.Ieee.Bits.{is_true}
use lib.Ieee.Fits.{and_l, and_r}
use mir.Facts.{or_yes}
use borrow.Author.Tests.{eqb-true}
use Rattle.leaves.specs.Numbers.{zero⁺, is_finite, abs, one, clamp01}
use Rattle.leaves.specs.Scaling.{pow2}
use Rattle.leaves.proofs.Whole.{pos_part, neg_part}
use Rattle.leaves.proofs.Units.{one_bits, fraction_bits, U, Val, abs_val, sign, mag, zero_val, mag_val, eq_zero, val_mag, zero_mag, finite_fin, one_val}
use Rattle.leaves.proofs.Range.{range_size, range_null}
use Rattle.leaves.proofs.PowersOfTwo.{pow2_val, pow2_minus_val}
use Rattle.leaves.proofs.Bounds.{Bounded, zero_bounded}
use Rattle.leaves.proofs.Zero.{no, is_below}
use Rattle.law.specs.Law.{All, Sized, AtLeast}
use Rattle.law.proofs.Ranges.{sized_bounds, fraction_bounds}
use Rattle.law.proofs.Comparisons.{lt_no, le_yes}

-- ---- all in a list
pub all_at : (P : Float → Type 0) (l : List Float) (i : ℕ) → All P l → i < length l → P (get_or l i nan)
all_at P [] i h l = absurd (not-suc-le-zero l)
all_at P (x ∷ xs) zero h l = h.0
all_at P (x ∷ xs) (suc i) h l = all_at P xs i h.1 (le_of_suc-le-suc l)

pub all_map : (P Q : Float → Type 0) → ((x : Float) → P x → Q x) → (l : List Float) → All P l → All Q l
all_map P Q f [] h = tt
all_map P Q f (x ∷ xs) h = (f x h.0, all_map P Q f xs h.1)

-- ---- 0, or of size 2 ^ -l to 2 ^ l
pub sized_fits : (l : ℕ) (x : Float) → Sized l x → T (fits binary64 x)
sized_fits l x t = and_l (fits binary64 x) (eq x zero⁺ || (le (pow2 (neg_ℤ (pos l))) (abs x) && le (abs x) (pow2 (pos l)))) t

pub sized_range : (l : ℕ) → fraction_bits + l ≤ one_bits → (x : Float) → Sized l x → Bounded (sized_bounds l) x
sized_range l h x t =
    let a : Bool = eq x zero⁺ in
    let b : Bool = le (pow2 (neg_ℤ (pos l))) (abs x) in
    let c : Bool = le (abs x) (pow2 (pos l)) in
    let u = and_r (fits binary64 x) (a || (b && c)) t in
    let f = finite x u in
    let v = mag_val x (sized_fits l x t) f in
    go v f (or_yes a (b && c) u)
  where
    finite : (x : Float) → T (eq x zero⁺ || (le (pow2 (neg_ℤ (pos l))) (abs x) && le (abs x) (pow2 (pos l)))) → T (is_finite x)
    finite nan t = unfold eq le lt abs in absurd t
    finite (inf s) t = unfold eq le lt abs in absurd (and_r (le (pow2 (neg_ℤ (pos l))) (inf false)) false t)
    finite (fin s m e) t = unfold is_finite in tt

    go : Val x (sign x) (mag x) → T (is_finite x) → T (eq x zero⁺) ⊎ T (le (pow2 (neg_ℤ (pos l))) (abs x) && le (abs x) (pow2 (pos l))) → Bounded (sized_bounds l) x
    go v f (inl z) = let n = eqb-true (mag x) 0 (sym (eq_zero x (sized_fits l x t) f) ∙ is_true (eq x zero⁺) z) in range_null x (sized_fits l x t) f n (sized_bounds l).grain (2 ^ (sized_bounds l).least) (2 ^ (sized_bounds l).most)
    go v f (inr q) =
        let b : Bool = le (pow2 (neg_ℤ (pos l))) (abs x) in
        let c : Bool = le (abs x) (pow2 (pos l)) in
        let w = abs_val x v in
        range_size (one_bits - l) (2 ^ (one_bits + l)) x (omega arith) (sized_fits l x t) f (inr (le_yes (pow2 (neg_ℤ (pos l))) (abs x) (pow2_minus_val l (omega arith)) w (is_true b (and_l b c q))))
        (le_yes (abs x) (pow2 (pos l)) w (pow2_val (pos l) (one_bits + l) (unfold pos_part neg_part in omega arith)) (is_true c (and_r b c q)))

-- ---- 0, or of size 2 ^ -l at least
pub at_least : (l : ℕ) → l ≤ one_bits → (x : Float) → Val x (sign x) (mag x) → AtLeast l x → (mag x ≡ 0) ⊎ (2 ^ (one_bits - l) ≤ mag x)
at_least l h x v t = elim (eq-zero-or-pos (mag x)) [ inl z ↦ inl z | inr p ↦ inr (go (lt zero⁺ (abs x)) refl (lt (abs x) (pow2 (neg_ℤ (pos l)))) refl t p) ]
  where
    go : (a : Bool) → lt zero⁺ (abs x) ≡ a → (b : Bool) → lt (abs x) (pow2 (neg_ℤ (pos l))) ≡ b → T (not (a && b)) → 0 < mag x → 2 ^ (one_bits - l) ≤ mag x
    go true i true j t p = absurd t
    go true i false j t p = lt_no (abs x) (pow2 (neg_ℤ (pos l))) (abs_val x v) (pow2_minus_val l h) j
    go false i b j t p = absurd (lt_irrefl 0 (native.Mathlib.Nat.lt_of_lt_of_le p (lt_no zero⁺ (abs x) (zero_val false (pos 0)) (abs_val x v) i)))

-- ---- NaN, or from 0 to 1
-- and 0 or at least 2 ^ -l
pub unit_range : (l : ℕ) → fraction_bits + l ≤ one_bits → (x : Float) → T (fits binary64 x) → AtLeast l x → lt x zero⁺ ≡ false → lt one x ≡ false → (x ≡ nan) ⊎ Bounded (fraction_bounds l) x
unit_range l h nan t a b c = inl refl
unit_range l h (inf true) t a b c = unfold lt in absurd (subst T b tt)
unit_range l h (inf false) t a b c = unfold lt in absurd (subst T c tt)
unit_range l h (fin s m e) t a b c =
    let x = fin s m e in
    let f = finite_fin s m e in
    let v = mag_val x t f in
    let most : mag x ≤ 2 ^ one_bits = sign_case s v b c in
    inr (range_size (one_bits - l) (2 ^ one_bits) x (omega arith) t f (at_least l (omega arith) x v a) most)
  where
    sign_case : (s : Bool) → Val (fin s m e) (sign (fin s m e)) (mag (fin s m e)) → lt (fin s m e) zero⁺ ≡ false → lt one (fin s m e) ≡ false → mag (fin s m e) ≤ 2 ^ one_bits
    sign_case false v b c = unfold U in lt_no one (fin false m e) one_val (unfold sign in v) c
    sign_case true v b c = zero_case m b
      where
        zero_case : (m : ℕ) → lt (fin true m e) zero⁺ ≡ false → mag (fin true m e) ≤ 2 ^ one_bits
        zero_case zero b = le_trans (le_of_eq (zero_mag true e)) zero-le
        zero_case (suc m) b = no (is_below m e) b

-- what holds of 0, of 1 and of what is neither below 0 nor above 1 holds of every number cut to that range
pub clamp_cases : (P : Float → Type 0) (x : Float) → P zero⁺ → P one → (lt x zero⁺ ≡ false → lt one x ≡ false → P x) → P (clamp01 x)
unfolding clamp01
clamp_cases P x none all part = go (lt x zero⁺) refl (lt one x) refl
  where
    go : (a : Bool) → lt x zero⁺ ≡ a → (b : Bool) → lt one x ≡ b → P (cond a zero⁺ (cond b one x))
    go true e b f = none
    go false e true f = all
    go false e false f = part e f

pub clamped_range : (l : ℕ) → fraction_bits + l ≤ one_bits → (x : Float) → T (fits binary64 x) → AtLeast l (clamp01 x) → (clamp01 x ≡ nan) ⊎ Bounded (fraction_bounds l) (clamp01 x)
clamped_range l h x t =
    let i = (val_mag one false (2 ^ one_bits) (unfold U in one_val)).1 in
    let all : Bounded (fraction_bounds l) one = range_size (one_bits - l) (2 ^ one_bits) one (omega arith) (unfold fits in tt) (unfold is_finite in tt) (inr (le_trans (pow_mono {i = one_bits - l} {j = one_bits} (omega arith)) (le_of_eq (sym i)))) (le_of_eq i) in
    clamp_cases (λ z. AtLeast l z → (z ≡ nan) ⊎ Bounded (fraction_bounds l) z) x (λ a. inr (zero_bounded (fraction_bounds l))) (λ a. inr all) (λ b c a. unit_range l h x t a b c)
