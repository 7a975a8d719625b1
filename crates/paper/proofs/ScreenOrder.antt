-- Of two numbers that are not big, the larger one's screen number is not the smaller (`screen_rises`). Document 02, "Paper 3. Screens round". Assumes nothing.
use mathlib.Core.Path.{◌≡◌, refl, sym, ap, ◌∙◌, subst}
use mathlib.Core.Bool.{Bool, true, false, not, ◌&&◌, ◌||◌, cond, true≢false}
use Prim.Native.Nat.{ℕ, zero, suc, ◌*◌, ◌≤◌, ◌<◌, zero-le}
use native.Mathlib.Nat.{le_of_eq, le_of_lt, le_of_suc-le-suc, not-suc-le-zero}
use native.Mathlib.Omega.{arith}
use lib.Dec.{T, ltb, eqb, le→leb, eqb→eq}
use lib.IntN.{ℤ, pos, neg_ℤ}
use lib.Signed.{◌≤ℤ◌, le_z_yes}
use lib.Ieee.{Float, nan, inf, fin, up, down, below, level, le}
use lib.Ieee.Fits.{and_l, and_r, down_pos}
use borrow.Author.Tests.{eqb-true, ltb-true}
use Rattle.paper.specs.declared.screen.Shown.TheVariants.{Number}
use Rattle.paper.specs.Screen.{ten_thousandths, shown}
use Rattle.paper.proofs.Nearest.{nearest_between, nearest_mono, nearest_same}
use Rattle.paper.proofs.ScreenLaws.{is_big, Shows, shows}

-- ---- ±p ≤ ±q

abbrev Ordered : Bool → ℕ → Bool → ℕ → Type 0
Ordered false p false q = p ≤ q
Ordered false p true q = (p ≡ 0) × (q ≡ 0)
Ordered true p false q = Unit {0}
Ordered true p true q = q ≤ p

ordered : (s : Bool) (p : ℕ) (t : Bool) (q : ℕ) → T (below s p t q || level s p t q) → Ordered s p t q
ordered false p false q h = go (ltb p q) refl h
  where
    go : (b : Bool) → ltb p q ≡ b → T (b || level false p false q) → p ≤ q
    go true e h = le_of_lt (ltb-true p q e)
    go false e h = le_of_eq (eqb→eq p q (and_l (eqb p q) true h))
ordered false p true q h =
    let z : p ≡ 0 = eqb→eq p 0 (and_r (eqb p q) (eqb p 0) h) in
    (z, sym (eqb→eq p q (and_l (eqb p q) (eqb p 0) h)) ∙ z)
ordered true p false q h = tt
ordered true p true q h = go (ltb q p) refl h
  where
    go : (b : Bool) → ltb q p ≡ b → T (b || level true p true q) → q ≤ p
    go true e h = le_of_lt (ltb-true q p e)
    go false e h = le_of_eq (sym (eqb→eq p q (and_l (eqb p q) true h)))

-- ---- two numbers ±a / b and ±c / d, rounded, stay in their order

zero_units : (a b d : ℕ) → 0 < b → 0 < d → a * d ≡ 0 → ten_thousandths a b ≡ 0
zero_units a b d B D e =
    nearest_same (a * 10000) b 0 d B D (omega arith) ∙ sym (nearest_between 0 d D 0 (omega arith) (omega arith))

rounding_ordered : (a b c d : ℕ) → 0 < b → 0 < d → (s t : Bool) → Ordered s (a * d) t (c * b) → Ordered s (ten_thousandths a b) t (ten_thousandths c d)
rounding_ordered a b c d B D false false h = nearest_mono (a * 10000) b (c * 10000) d B D (omega arith)
rounding_ordered a b c d B D false true h = (zero_units a b d B D h.0, zero_units c d b D B h.1)
rounding_ordered a b c d B D true false h = tt
rounding_ordered a b c d B D true true h = nearest_mono (c * 10000) d (a * 10000) b D B (omega arith)

-- ---- and so do their screens

-- ten-thousandths with their sign
abbrev pub signed : Bool → ℕ → ℤ
signed minus u = cond minus (neg_ℤ (pos u)) (pos u)

-- where nothing but zeros is shown, the sign makes no difference
signed_is : (s : Bool) (u : ℕ) → signed (not (eqb u 0) && s) u ≡ signed s u
signed_is s u = go (eqb u 0) refl s
  where
    go : (t : Bool) → eqb u 0 ≡ t → (s : Bool) → signed (not t && s) u ≡ signed s u
    go true e true = rw (eqb-true u 0 e)
    go true e false = refl
    go false e s = refl

signed_ordered : (s : Bool) (u : ℕ) (t : Bool) (v : ℕ) → Ordered s u t v → signed s u ≤ℤ signed t v
signed_ordered false u false v h = le_z_yes (le→leb u v h)
signed_ordered false u true v h = rw (h.0, h.1) (le_z_yes tt)
signed_ordered true zero false v h = le_z_yes (le→leb 0 v zero-le)
signed_ordered true (suc u) false v h = le_z_yes tt
signed_ordered true zero true zero h = le_z_yes tt
signed_ordered true zero true (suc v) h = absurd (not-suc-le-zero h)
signed_ordered true (suc u) true zero h = le_z_yes tt
signed_ordered true (suc u) true (suc v) h = le_z_yes (le→leb v u (le_of_suc-le-suc h))

signed_rises : (s t : Bool) (a b c d : ℕ) (m n : Bool) (u v : ℕ) → 0 < b → 0 < d → Ordered s (a * d) t (c * b) → Shows s a b m u → Shows t c d n v → signed m u ≤ℤ signed n v
signed_rises s t a b c d m n u v B D o h k =
    rw (h.minus_is, k.minus_is, signed_is s u, signed_is t v, h.units_are, k.units_are)
    (signed_ordered s (ten_thousandths a b) t (ten_thousandths c d) (rounding_ordered a b c d B D s t o))

pub screen_rises : (x y : Float) (m n : Bool) (u v : ℕ) → le x y ≡ true → shown x ≡ Number m u → shown y ≡ Number n v → signed m u ≤ℤ signed n v
unfolding shown le
screen_rises nan y m n u v l h k = absurd (true≢false (ap is_big h))
screen_rises (inf s) y m n u v l h k = absurd (true≢false (ap is_big h))
screen_rises (fin s a e) nan m n u v l h k = absurd (true≢false (ap is_big k))
screen_rises (fin s a e) (inf t) m n u v l h k = absurd (true≢false (ap is_big k))
screen_rises (fin s a e) (fin t c d) m n u v l h k =
    signed_rises s t (a * up e) (down e) (c * up d) (down d) m n u v (down_pos e) (down_pos d)
    (ordered s (a * up e * down d) t (c * up d * down e) (subst T (sym l) tt))
    (shows s (a * up e) (down e) m u h) (shows t (c * up d) (down d) n v k)
