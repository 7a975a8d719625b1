-- "Exactly 2 ^ k times" between two numbers of f64 is a shift by k, and back; for a power below 0 the two change places. Assumes nothing.
use mathlib.Core.Path.{◌≡◌, refl, sym, ap, ap₂, ◌∙◌, subst, subst₂}
use Prim.Native.Nat.{ℕ, zero, suc, ◌+◌, ◌*◌, ◌^◌, ◌<◌}
use native.Mathlib.Nat.{zero-mul}
use native.Mathlib.Omega.{arith}
use mathlib.Core.Bool.{Bool, true, false}
use mathlib.Core.List.{List, [], ◌∷◌, map}
use lib.Dec.{T}
use lib.IntN.{ℤ, pos, negsuc, neg_ℤ, nat_abs, ◌+ℤ◌, ◌*ℤ◌, *ℤ-one}
use lib.ListN.{take, drop}
use lib.Seq.{take_at}
use lib.Ieee.{Float, nan, inf, fin, binary64, fits}
use Rattle.leaves.specs.Numbers.{signum}
use Rattle.leaves.specs.Loops.{tab, fill}
use Rattle.leaves.specs.Shift.{shift}
use Rattle.leaves.proofs.Loops.{length_tab}
use Rattle.leaves.proofs.Shift.{shift_fin, expo}
use Rattle.leaves.proofs.Units.{U, Top, Val, mag, val_unique, val_shift, finite_fin, fin_val, fin_under_Top, mag_shift, fits_shift}
use Rattle.law.specs.Law.{units, TimesPower, Times, All, Each, Copy, AnswerParts, Alike}

-- ---- with signs
signed : Bool → ℕ → ℤ
signed false a = pos a
signed true a = neg_ℤ (pos a)

signed_times : (s : Bool) (a b : ℕ) → signed s a *ℤ pos b ≡ signed s (a * b)
unfolding signed
signed_times false a b = refl
signed_times true zero b = ap pos (zero-mul b) ∙ ap (λ (z : ℕ). neg_ℤ (pos z)) (sym (zero-mul b))
signed_times true (suc a) b = refl

signed_size : (s : Bool) (a : ℕ) → nat_abs (signed s a) ≡ a
unfolding signed
signed_size false a = refl
signed_size true zero = refl
signed_size true (suc a) = refl

units_are : (s : Bool) (m : ℕ) (e : ℤ) → units s m e ≡ signed s (mag (fin s m e))
unfolding signed mag U
units_are false m e = refl
units_are true m e = refl

-- ---- a number and its shift
pub times_shift : (k : ℕ) (x : Float) → T (fits binary64 x) → Times (pos k) x (shift (pos k) x)
unfolding shift
times_shift k nan t = tt
times_shift k (inf s) t = refl
times_shift k (fin s m e) t = rw (shift_fin (pos k) s m e)
    (ap (λ (z : ℤ). z *ℤ pos (2 ^ k)) (units_are s m e) ∙ signed_times s (mag (fin s m e)) (2 ^ k)
    ∙ ap (signed s) (sym (mag_shift k (fin s m e) t (finite_fin s m e)) ∙ ap mag (shift_fin (pos k) s m e)) ∙ sym (units_are s m (expo (pos k) m e)))

pub times_itself : (x : Float) → Times (pos 0) x x
unfolding lib.IntN.one
times_itself nan = tt
times_itself (inf s) = refl
times_itself (fin s m e) = *ℤ-one (units s m e)

pub copy-shift : (k : ℕ) (x y : Float) → T (fits binary64 x) → T (fits binary64 y) → Copy (pos k) x y → y ≡ shift (pos k) x
unfolding shift signum
copy-shift k nan nan t u c = refl
copy-shift k nan (inf s) t u c = absurd c.0
copy-shift k nan (fin s m e) t u c = absurd c.0
copy-shift k (inf s) nan t u c = absurd c.0
copy-shift k (inf s) (inf r) t u c = ap inf (sym c.0)
copy-shift k (inf s) (fin r m e) t u c = absurd c.0
copy-shift k (fin s m e) nan t u c = absurd c.0
copy-shift k (fin s m e) (inf r) t u c = absurd c.0
copy-shift k (fin s m e) (fin r n d) t u c =
    let x = fin s m e in
    let y = fin r n d in
    let i : s ≡ r = let q = c.1 in cc in
    let q : mag x * 2 ^ k ≡ mag y =
    sym (signed_size s (mag x * 2 ^ k)) ∙ ap nat_abs (sym (signed_times s (mag x) (2 ^ k)) ∙ ap (λ (z : ℤ). z *ℤ pos (2 ^ k)) (sym (units_are s m e)) ∙ c.0 ∙ units_are r n d) ∙ signed_size r (mag y) in
    let v = fin_val s m e t in
    let w = fin_val r n d u in
    val_unique y (shift (pos k) x) s (mag x * 2 ^ k) u (fits_shift k x s (mag x) t v (subst (λ (z : ℕ). z < Top) (sym q) (fin_under_Top r n d u))) (subst₂ (Val y) (sym i) (sym q) w) (val_shift k x s (mag x) v)

-- ---- lists
pub copies_shift : (k : ℕ) (l l' : List Float) → All (λ x. T (fits binary64 x)) l → All (λ x. T (fits binary64 x)) l' → Each (Copy (pos k)) l l' → l' ≡ map (shift (pos k)) l
copies_shift k [] [] t u c = refl
copies_shift k [] (y ∷ l') t u c = absurd c
copies_shift k (x ∷ l) [] t u c = absurd c
copies_shift k (x ∷ l) (y ∷ l') t u c = ap₂ (λ (z : Float) (zs : List Float). z ∷ zs) (copy-shift k x y t.0 u.0 c.0) (copies_shift k l l' t.1 u.1 c.1)

each_tab : (R : Float → Float → Type 0) (n : ℕ) (f f' : ℕ → Float) → ((i : ℕ) → i < n → R (f i) (f' i)) → Each R (tab n f) (tab n f')
unfolding tab
each_tab R zero f f' h = tt
each_tab R (suc n) f f' h = (h 0 (omega arith), each_tab R n (λ i. f (suc i)) (λ i. f' (suc i)) (λ i l. h (suc i) (omega arith)))

-- the answer's part of a slice
pub take_fill : (n : ℕ) (f : ℕ → Float) (slice : List Float) → take n (fill n f slice) ≡ tab n f
unfolding fill
take_fill n f slice = take_at (tab n f) (drop n slice) n (length_tab f n)

pub filled_alike : (k n : ℕ) (f f' : ℕ → Float) (slice slice' : List Float) → ((i : ℕ) → i < n → T (fits binary64 (f i)) × (f' i ≡ shift (pos k) (f i))) → Each (Times (pos k)) (take n (fill n f slice)) (take n (fill n f' slice'))
filled_alike k n f f' slice slice' h =
    subst₂ (Each (Times (pos k))) (sym (take_fill n f slice)) (sym (take_fill n f' slice')) (each_tab (Times (pos k)) n f f' (λ i l. rw (h i l).1 (times_shift k (f i) (h i l).0)))

-- ---- the other way round
pub each_back : (R S : Float → Float → Type 0) → ((x y : Float) → R x y → S y x) → (l l' : List Float) → Each R l l' → Each S l' l
each_back R S f [] [] h = tt
each_back R S f [] (y ∷ l') h = absurd h
each_back R S f (x ∷ l) [] h = absurd h
each_back R S f (x ∷ l) (y ∷ l') h = (f x y h.0, each_back R S f l l' h.1)

times_back : (j k : ℤ) → ((a b : ℤ) → TimesPower j a b → TimesPower k b a) → (x y : Float) → Times j x y → Times k y x
times_back j k f nan nan h = tt
times_back j k f nan (inf t) h = absurd h
times_back j k f nan (fin t n d) h = absurd h
times_back j k f (inf s) nan h = absurd h
times_back j k f (inf s) (inf t) h = sym h
times_back j k f (inf s) (fin t n d) h = absurd h
times_back j k f (fin s m e) nan h = absurd h
times_back j k f (fin s m e) (inf t) h = absurd h
times_back j k f (fin s m e) (fin t n d) h = f (units s m e) (units t n d) h

pub times_up : (k : ℕ) (x y : Float) → Times (negsuc k) x y → Times (pos (suc k)) y x
times_up k x y h = times_back (negsuc k) (pos (suc k)) (λ a b e. sym e) x y h

pub times_down : (k : ℕ) (x y : Float) → Times (pos (suc k)) x y → Times (negsuc k) y x
times_down k x y h = times_back (pos (suc k)) (negsuc k) (λ a b e. sym e) x y h

-- pos (suc k) twice, of which negsuc (suc (k + k)) is the opposite
pub twice : (k : ℕ) → pos (suc k) +ℤ pos (suc k) ≡ pos (suc (suc (k + k)))
twice k = ap pos (omega arith)

pub alike_down : (k : ℕ) (x y : AnswerParts) → Alike (pos (suc k)) x y → Alike (negsuc k) y x
unfolding lib.IntN.one
alike_down k x y a = record {
  refusal = sym a.refusal;
  entries = each_back (Times (pos (suc (suc (k + k))))) (Times (negsuc (suc (k + k)))) (times_down (suc (k + k))) x.entries y.entries (rw (twice k) at a.entries);
  means_and_target = each_back (Times (pos (suc k))) (Times (negsuc k)) (times_down k) x.means_and_target y.means_and_target a.means_and_target;
  intensity = each_back (Times (pos 0)) (Times (pos 0)) (times_back (pos 0) (pos 0) (λ a b e. *ℤ-one b ∙ sym e ∙ *ℤ-one a)) x.intensity y.intensity a.intensity;
  sweeps_and_rotations = sym a.sweeps_and_rotations;
}
