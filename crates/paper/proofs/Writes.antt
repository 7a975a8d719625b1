-- Laws of `specs/Text.antt`: a text written after a text, what a loop that writes has left, a single byte, a text in a buffer with room, and that the place stays within
-- the buffer. Assumes nothing.
use mathlib.Core.Path.{◌≡◌, refl, sym, ap, ◌∙◌, subst}
use mathlib.Core.Bool.{Bool, true, false, cond}
use mathlib.Core.List.{List, [], ◌∷◌, ◌++◌}
use Prim.Native.Nat.{ℕ, suc, ◌+◌, ◌≤◌, ◌<◌}
use native.Mathlib.Nat.{add-zero}
use native.Mathlib.Numerals.{add-one}
use native.Mathlib.Omega.{arith}
use lib.ListN.{length, set, take, drop, get_or, length-set}
use lib.Seq.{append_snoc, set_out, drop-cons, sets, sets-eq, length-take-le}
use lib.Dec.{ltb}
use borrow.Author.Tests.{lt-ltb, le-ltb, ltb-true}
use Rattle.paper.specs.Text.{Out, out, put, write, Counts}

-- ---- one text after another

pub write_none : (o : Out ℕ) → o ≡ write o []
unfolding write
write_none o = refl

write_append : (o : Out ℕ) (t u : List ℕ) → write o (t ++ u) ≡ write (write o t) u
unfolding write
write_append o [] u = refl
write_append o (b ∷ t) u = write_append (put o b) t u

-- what two calls leave behind, one after the other
pub then : (o : Out ℕ) {p q : Out ℕ} (t u : List ℕ) → p ≡ write o t → q ≡ write p u → q ≡ write o (t ++ u)
then o {p} {q} t u e f = f ∙ ap (λ (x : Out ℕ). write x u) e ∙ sym (write_append o t u)

-- the same, where the first ends in a byte of its own
pub then_after : (o : Out ℕ) {p q : Out ℕ} (t : List ℕ) (b : ℕ) (u : List ℕ) → p ≡ write o (t ++ (b ∷ [])) → q ≡ write p u → q ≡ write o (t ++ (b ∷ u))
then_after o t b u e f = then o (t ++ (b ∷ [])) u e f ∙ ap (write o) (append_snoc t b u)

-- a turn of a loop that writes: of the text w that was left, t is written and u is left
pub onward : (o : Out ℕ) {p : Out ℕ} (t u w : List ℕ) → p ≡ write o t → w ≡ t ++ u → write p u ≡ write o w
onward o {p} t u w e f = then o {q = write p u} t u e refl ∙ ap (write o) (sym f)

-- the end of such a loop: nothing is left
pub ended : (o p : Out ℕ) (w : List ℕ) → w ≡ [] → write p w ≡ o → p ≡ o
ended o p w e f = write_none p ∙ ap (write p) (sym e) ∙ f

-- what such a loop has left of a list before a turn, where it goes one by one
pub drop_next : {A : Type 0} (l : List A) (i : ℕ) (d : A) → i < length l → drop i l ≡ get_or l i d ∷ drop (i + 1) l
drop_next l i d h = rw add-one (drop-cons l i d h)

-- ---- one element

pub put_in : {A : Type 0} (s : List A) (i : ℕ) (b : A) → i < length s → out (set s i b) (i + 1) ≡ write (out s i) (b ∷ [])
unfolding write put
put_in s i b h = rw (lt-ltb i (length s) h)

pub put_full : {A : Type 0} (s : List A) (i : ℕ) (b : A) → length s ≤ i → out s i ≡ write (out s i) (b ∷ [])
unfolding write put
put_full s i b h = rw (le-ltb i (length s) h, set_out s i b h)

-- ---- a buffer with room for a text

write_sets : (t s : List ℕ) (i : ℕ) → i + length t ≤ length s → write (out s i) t ≡ out (sets s i t) (i + length t)
unfolding write put
write_sets [] s i h = rw add-zero
write_sets (b ∷ t) s i h =
    let l : i < length s = omega arith in
    rw (lt-ltb i (length s) l, add-one i) (write_sets t (set s i b) (suc i) (rw length-set (omega arith)) ∙ ap (out (sets s i (b ∷ t))) (shift i (length t)))
  where
    shift : (i n : ℕ) → suc i + n ≡ i + suc n
    shift i n = omega arith

-- the text stands at the place, and nothing else is changed
pub write_room : (t s : List ℕ) (i : ℕ) → i + length t ≤ length s → write (out s i) t ≡ out (take i s ++ t ++ drop (i + length t) s) (i + length t)
write_room t s i h = write_sets t s i h ∙ ap (λ (l : List ℕ). out l (i + length t)) (sets-eq t s i h)

-- ---- a place within the buffer stays within it

abbrev Within : Out ℕ → Type 0
Within (out s i) = i ≤ length s

put_within : (o : Out ℕ) (b : ℕ) → Within o → Within (put o b)
unfolding put
put_within (out s i) b h = rw length-set (go (ltb i (length s)) refl)
  where
    go : (t : Bool) → ltb i (length s) ≡ t → cond t (i + 1) i ≤ length s
    go true e = omega (arith, ltb-true i (length s) e)
    go false e = h

write_within : (o : Out ℕ) (t : List ℕ) → Within o → Within (write o t)
unfolding write
write_within o [] h = h
write_within o (b ∷ t) h = write_within (put o b) t (put_within o b h)

pub counts : (s t v : List ℕ) (n : ℕ) → out v n ≡ write (out s 0) t → Counts n v
counts s t v n e =
    let h : n ≤ length v = subst Within (sym e) (write_within (out s 0) t (omega arith)) in
    (h, sym (length-take-le n v h))
