-- The largest size of values that may be infinite or NaN, by keys: it is the size whose key none of them exceeds and that exceeds no other bound (`amax_above`, `amax_least`), and
-- of sizes the key tells which one it is (`same_key`). Assumes nothing.
use Rattle.std.proofs.Common.{◌≡◌, ℕ, zero, suc, ◌+◌, ◌<◌, ◌≤◌, Bool, true, false, T, pos, sym, refl, ap, ◌∙◌, subst, zero-le, le_trans, le_of_eq, le_refl, arith}
use lib.Ieee.{Float, nan, inf, fin, binary64, lt, fits, is_nan}
use Rattle.leaves.specs.Numbers.{zero⁺, abs, larger}
use Rattle.leaves.specs.Loops.{amax_to}
use Rattle.leaves.proofs.Units.{Top, Val, sign, mag, fin_val, fin_under_Top, zero_mag, val_unique}
use Rattle.leaves.proofs.Signs.{sign_abs}
use Rattle.leaves.proofs.Keys.{key, Fine, lt_key, larger_by, picked}
use Rattle.leaves.proofs.Totals.{amax_one}
use Rattle.leaves.proofs.Zero.{no}

-- a value of the format that is neither below 0 nor NaN
abbrev pub Size : Float → Type 0
Size x = Fine x × (sign x ≡ false)

fits_abs : (x : Float) → T (fits binary64 x) → T (fits binary64 (abs x))
unfolding abs fits
fits_abs nan t = t
fits_abs (inf s) t = t
fits_abs (fin s zero e) t = t
fits_abs (fin s (suc m) e) t = t

pub same_key : (x y : Float) → Size x → Size y → key x ≡ key y → x ≡ y
unfolding key sign is_nan
same_key nan y a b h = absurd a.0.1
same_key (inf true) y a b h = no refl a.1
same_key (fin true m e) y a b h = no refl a.1
same_key (inf false) nan a b h = absurd b.0.1
same_key (inf false) (inf true) a b h = no refl b.1
same_key (inf false) (inf false) a b h = refl
same_key (inf false) (fin true n d) a b h = no refl b.1
same_key (inf false) (fin false n d) a b h = absurd (let l = fin_under_Top false n d b.0.0 in omega arith)
same_key (fin false m e) nan a b h = absurd b.0.1
same_key (fin false m e) (inf true) a b h = no refl b.1
same_key (fin false m e) (inf false) a b h = absurd (let l = fin_under_Top false m e a.0.0 in omega arith)
same_key (fin false m e) (fin true n d) a b h = no refl b.1
same_key (fin false m e) (fin false n d) a b h =
    let same : mag (fin false m e) ≡ mag (fin false n d) = omega arith in
    val_unique (fin false m e) (fin false n d) false (mag (fin false n d)) a.0.0 b.0.0 (subst (Val (fin false m e) false) same (fin_val false m e a.0.0)) (fin_val false n d b.0.0)

-- the larger of a size and the next; NaN is passed over
below_nan : (m : Float) → lt m nan ≡ false
unfolding lt
below_nan nan = refl
below_nan (inf s) = refl
below_nan (fin s m e) = refl

size_step : (m x : Float) → Size m → T (fits binary64 x) × (sign x ≡ false) → Size (larger m x) × (key m ≤ key (larger m x)) × (key x ≤ key (larger m x))
size_step m nan a b = unfold larger key in rw (below_nan m) (a, le_refl (key m), zero-le)
size_step m (inf s) a b = let f : Fine (inf s) = (b.0, unfold is_nan in tt) in larger_by key Size m (inf s) a (f, b.1) (lt_key m (inf s) a.0.0 f.0 a.0.1 f.1)
size_step m (fin s k e) a b = let f : Fine (fin s k e) = (b.0, unfold is_nan in tt) in larger_by key Size m (fin s k e) a (f, b.1) (lt_key m (fin s k e) a.0.0 f.0 a.0.1 f.1)

module _ (f : ℕ → Float) (fit : (k : ℕ) → T (fits binary64 (f k))) (n : ℕ) where
  run : Size (amax_to n f) × ((t : ℕ) → t < n → key (abs (f t)) ≤ key (amax_to n f))
  unfolding amax_to
  run = picked key Size (λ x. T (fits binary64 x) × (sign x ≡ false)) larger (λ a b. b ≤ a) (λ a b c p q. le_trans q p) size_step n (λ t. abs (f t)) zero⁺ (unfold fits is_nan sign in ((tt, tt), refl)) (λ t l. (fits_abs (f t) (fit t), sign_abs (f t)))

  pub amax_size : Size (amax_to n f)
  amax_size = run.0

  pub amax_above : (k : ℕ) → k < n → key (abs (f k)) ≤ key (amax_to n f)
  amax_above = run.1

  pub amax_least : (b : ℕ) → Top ≤ b → ((k : ℕ) → k < n → key (abs (f k)) ≤ b) → key (amax_to n f) ≤ b
  amax_least b t h = amax_one (λ (z : Float). key z ≤ b) n f (le_trans (le_of_eq zero_key) t) h
    where
      zero_key : key zero⁺ ≡ Top
      zero_key = unfold key in (ap (λ (m : ℕ). Top + m) (zero_mag false (pos 0)) ∙ omega arith)

-- a size has a key of Top at least
pub size_key : (x : Float) → Size x → Top ≤ key x
unfolding key is_nan sign
size_key nan a = absurd a.0.1
size_key (inf true) a = no refl a.1
size_key (inf false) a = omega arith
size_key (fin true m e) a = no refl a.1
size_key (fin false m e) a = omega arith

-- and is its own size
pub abs_size : (x : Float) → Size x → abs x ≡ x
unfolding abs sign
abs_size nan a = refl
abs_size (inf s) a = ap inf (sym a.1)
abs_size (fin s m e) a = ap (λ (s : Bool). fin s m e) (sym a.1)
