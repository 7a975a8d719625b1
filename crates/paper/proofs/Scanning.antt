-- Laws of `sheet`: the kinds of a file, one after another, and how many numbers a file can have. Assumes nothing.
use mathlib.Core.Path.{◌≡◌, refl, sym, ap, ◌∙◌}
use mathlib.Core.Bool.{Bool, true, false, cond}
use mathlib.Core.List.{List, [], ◌∷◌, ◌++◌, map, flatten, sum, append_assoc, append-nil}
use Prim.Native.Nat.{ℕ, zero, suc, ◌+◌, ◌≤◌, ◌<◌}
use native.Mathlib.Nat.{add-le-add}
use native.Mathlib.Numerals.{add-one}
use native.Mathlib.Omega.{arith}
use lib.ListN.{length, take, drop, get_or, set, length-append, drop_of_length-le}
use lib.Seq.{take-suc-set, take_all}
use Rattle.paper.specs.declared.kinds.Kind.{Kind}
use Rattle.paper.specs.declared.reader.Took.{Took}
use Rattle.paper.specs.Text.{Out, out, write}
use Rattle.paper.specs.Grammar.{starts, body, none, more, taken, Sheet, sheet, kinds}
use Rattle.paper.specs.Rules.{first_of, outline}
use Rattle.paper.specs.Inner.{max_records, missing, TookIs, ScannedIs, buffer, total}
use Rattle.paper.proofs.Writes.{onward, ended, drop_next}

-- Of the file w, the kinds ks are left from a place on; o is written so far, of o₀ at first, and cs and fs are the counts and the first bodies so far.
pub record Going (s : List ℕ) (w : Sheet) (o₀ : Out ℕ) (ks : List Kind) (at : ℕ) (o : Out ℕ) (cs fs : List ℕ) : Type 0 where
  pub numbers : write o (flatten (sheet ks (drop at s)).lists) ≡ write o₀ (flatten w.lists)
  pub rest : (sheet ks (drop at s)).rest ≡ w.rest
  pub counts : cs ++ map length (sheet ks (drop at s)).lists ≡ map length w.lists
  pub firsts : fs ++ map first_of (sheet ks (drop at s)).lists ≡ map first_of w.lists

pub going_all : (s : List ℕ) (o : Out ℕ) → Going s (sheet kinds s) o kinds 0 o [] []
going_all s o = record { numbers = refl; rest = refl; counts = refl; firsts = refl }

going_more : (s : List ℕ) (w : Sheet) (o₀ : Out ℕ) (k : Kind) (ks : List Kind) (at : ℕ) (cs fs v : List ℕ) (i : ℕ) (v' : List ℕ) (r : Took) (f : ℕ)
    → Going s w o₀ (k ∷ ks) at (out v i) cs fs → TookIs s (taken k k.most (drop at s)) v i v' r → f ≡ first_of (taken k k.most (drop at s)).bodies
    → Going s w o₀ ks r.at (out v' r.next) (cs ++ (r.count ∷ [])) (fs ++ (f ∷ []))
unfolding sheet flatten
going_more s w o₀ k ks at cs fs v i v' r f g x e =
    let t = taken k k.most (drop at s) in
    record {
      numbers = rw x.rest (onward (out v i) t.bodies (flatten (sheet ks t.rest).lists) _ x.numbers refl ∙ g.numbers);
      rest = rw x.rest g.rest;
      counts = rw (x.rest, x.count) (append_assoc cs (length t.bodies ∷ []) _ ∙ g.counts);
      firsts = rw (x.rest, e) (append_assoc fs (first_of t.bodies ∷ []) _ ∙ g.firsts);
    }

-- a turn of the code's loop, which stores the count and the first body of kind i
pub going_turn : (s : List ℕ) (w : Sheet) (o₀ : Out ℕ) (i at : ℕ) (v : List ℕ) (n : ℕ) (v' : List ℕ) (r : Took) (counts firsts : List ℕ) (f : ℕ) (k : Kind)
    → i < length kinds → i < length counts → i < length firsts → Going s w o₀ (drop i kinds) at (out v n) (take i counts) (take i firsts)
    → k ≡ get_or kinds i missing → TookIs s (taken k k.most (drop at s)) v n v' r → f ≡ first_of (taken k k.most (drop at s)).bodies
    → Going s w o₀ (drop (i + 1) kinds) r.at (out v' r.next) (take (i + 1) (set counts i r.count)) (take (i + 1) (set firsts i f))
going_turn s w o₀ i at v n v' r counts firsts f k h hc hf g e x y =
    rw (add-one i, take-suc-set counts i r.count hc, take-suc-set firsts i f hf, ← add-one i)
    (going_more s w o₀ k (drop (i + 1) kinds) at (take i counts) (take i firsts) v n v' r f (rw (drop_next kinds i missing h, ← e) at g) x y)

pub going_end : (s : List ℕ) (w : Sheet) (v₀ : List ℕ) (i at : ℕ) (v : List ℕ) (n : ℕ) (counts firsts : List ℕ) → length kinds ≤ i → length counts ≤ i → length firsts ≤ i → at ≤ length s
    → Going s w (out v₀ 0) (drop i kinds) at (out v n) (take i counts) (take i firsts) → ScannedIs w s v₀ v (record { end = at; outline = record { counts = counts; firsts = firsts } })
unfolding sheet flatten outline
going_end s w v₀ i at v n counts firsts h hc hf l g =
    let g' = rw (drop_of_length-le kinds h, take_all i counts hc, take_all i firsts hf) at g in
    record {
      numbers = ap buffer (ended _ _ [] refl g'.numbers);
      within = l;
      rest = g'.rest;
      outline_is = rw (sym g'.counts ∙ append-nil counts, sym g'.firsts ∙ append-nil firsts);
    }

-- ---- how many numbers a file can have

taken_length : (k : Kind) (m : ℕ) (bs : List ℕ) → length (taken k m bs).bodies ≤ m
unfolding taken
taken_length k zero bs = omega arith
taken_length k (suc m) bs = go (starts k bs) (taken_length k m (drop (k.body + 1) bs))
  where
    go : (t : Bool) → length (taken k m (drop (k.body + 1) bs)).bodies ≤ m → length (cond t (more (body k bs) (taken k m (drop (k.body + 1) bs))) (none bs)).bodies ≤ suc m
    go true h = omega arith
    go false h = omega arith

flatten_length : (ks : List Kind) (bs : List ℕ) → length (flatten (sheet ks bs).lists) ≤ total (map (λ (k : Kind). k.most) ks)
unfolding sheet flatten sum
flatten_length [] bs = omega arith
flatten_length (k ∷ ks) bs = let t = taken k k.most bs in rw length-append (add-le-add (taken_length k k.most bs) (flatten_length ks t.rest))

pub numbers_fit : (s : List ℕ) → length (flatten (sheet kinds s).lists) ≤ max_records
unfolding kinds sum
numbers_fit s = flatten_length kinds s
