-- Laws of `taken`: the records of one kind, one by one. Assumes nothing.
use mathlib.Core.Path.{◌≡◌, refl, sym, ap, ◌∙◌}
use mathlib.Core.Bool.{true, false, and-eq-true_iff}
use mathlib.Core.List.{List, [], ◌∷◌}
use Prim.Native.Nat.{ℕ, zero, suc, ◌+◌, ◌-◌, ◌≤◌, ◌<◌}
use native.Mathlib.Nat.{add-zero, sub-zero, zero-add, sub-add-eq, not-suc-le-zero}
use native.Mathlib.Numerals.{sub-one}
use native.Mathlib.Omega.{arith}
use lib.ListN.{length, get_or, take, drop, length-drop}
use lib.Seq.{get_or-drop, drop-drop}
use lib.Dec.{ltb, eqb}
use borrow.Author.Tests.{lt-ltb, le-ltb, ltb-true}
use Rattle.paper.specs.declared.kinds.Kind.{Kind}
use Rattle.paper.specs.declared.reader.Took.{Took}
use Rattle.paper.specs.Text.{Out, out, write}
use Rattle.paper.specs.Grammar.{little, starts, Taken, none, more, taken}
use Rattle.paper.specs.Rules.{first_of}
use Rattle.paper.specs.Inner.{TookIs}
use Rattle.paper.proofs.Writes.{onward, ended}

-- ---- a record at a place of the file s

module _ (k : Kind) (at : ℕ) (s : List ℕ) where
  pub starts_yes : k.body < length s - at → eqb (get_or s at 0) k.byte ≡ starts k (drop at s)
  unfolding starts
  starts_yes h = rw (length-drop, lt-ltb _ _ h, get_or-drop, add-zero)

  pub starts_no : length s - at ≤ k.body → false ≡ starts k (drop at s)
  unfolding starts
  starts_no h = rw (length-drop, le-ltb _ _ h)

  -- it lies in the file
  pub fits_in : starts k (drop at s) ≡ true → at + 1 + k.body ≤ length s
  unfolding starts
  fits_in e = let h : k.body < length s - at = ltb-true _ _ (simp length-drop at ((and-eq-true_iff (ltb k.body (length (drop at s))) _).0 e).0) in omega arith

  -- the first body
  pub first_yes : (m : ℕ) → 0 < m → starts k (drop at s) ≡ true → little (take k.body (drop (at + 1) s)) ≡ first_of (taken k m (drop at s)).bodies
  unfolding taken
  first_yes zero h e = absurd (not-suc-le-zero h)
  first_yes (suc m) h e = rw (e, drop-drop)

-- ---- the records, one by one

taken_more : (k : Kind) (m at : ℕ) (s : List ℕ) → 0 < m → starts k (drop at s) ≡ true
    → taken k m (drop at s) ≡ more (little (take k.body (drop (at + 1) s))) (taken k (m - 1) (drop (at + (k.body + 1)) s))
unfolding taken
taken_more k zero at s h e = absurd (not-suc-le-zero h)
taken_more k (suc m) at s h e = rw (e, sub-one, drop-drop, drop-drop)

pub taken_stop : (k : Kind) (m : ℕ) (bs : List ℕ) → starts k bs ≡ false → taken k m bs ≡ none bs
unfolding taken
taken_stop k zero bs e = refl
taken_stop k (suc m) bs e = rw e

pub taken_full : (k : Kind) (m : ℕ) (bs : List ℕ) → m ≡ 0 → taken k m bs ≡ none bs
unfolding taken
taken_full k m bs e = rw e

pub first_no : (k : Kind) (m : ℕ) (bs : List ℕ) → starts k bs ≡ false → 0 ≡ first_of (taken k m bs).bodies
first_no k m bs e = rw (taken_stop k m bs e)

-- Of the records w, those from a place on are left, m at most; so many are taken, and o is written so far, of o₀ at first.
pub record Left (s : List ℕ) (w : Taken) (o₀ : Out ℕ) (k : Kind) (m at count : ℕ) (o : Out ℕ) : Type 0 where
  pub numbers : write o (taken k m (drop at s)).bodies ≡ write o₀ w.bodies
  pub rest : (taken k m (drop at s)).rest ≡ w.rest
  pub counted : count + length (taken k m (drop at s)).bodies ≡ length w.bodies

pub left_all : (s : List ℕ) (o : Out ℕ) (k : Kind) (m at : ℕ) → Left s (taken k m (drop at s)) o k (m - 0) at 0 o
left_all s o k m at = rw sub-zero (record { numbers = refl; rest = refl; counted = zero-add _ })

pub left_more : (s : List ℕ) (w : Taken) (o₀ : Out ℕ) (k : Kind) (m at count : ℕ) (o p : Out ℕ) → Left s w o₀ k (m - count) at count o → count < m → starts k (drop at s) ≡ true
    → (v : ℕ) → v ≡ little (take k.body (drop (at + 1) s)) → p ≡ write o (v ∷ []) → Left s w o₀ k (m - (count + 1)) (at + (k.body + 1)) (count + 1) p
left_more s w o₀ k m at count o p h l e v f g =
    let after = taken k (m - (count + 1)) (drop (at + (k.body + 1)) s) in
    let t : taken k (m - count) (drop at s) ≡ more v after = taken_more k (m - count) at s (omega arith) e ∙ rw (← sub-add-eq m count 1, ← f) in
    let one : length (taken k (m - count) (drop at s)).bodies ≡ suc (length after.bodies) = rw t in
    record {
      numbers = onward o (v ∷ []) after.bodies (taken k (m - count) (drop at s)).bodies g (ap (λ (x : Taken). x.bodies) t) ∙ h.numbers;
      rest = sym (ap (λ (x : Taken). x.rest) t) ∙ h.rest;
      counted = omega arith;
    }

pub left_none : (s : List ℕ) (w : Taken) (v₀ : List ℕ) (to : ℕ) (k : Kind) (m : ℕ) (r : Took) (v : List ℕ) → Left s w (out v₀ to) k m r.at r.count (out v r.next) → r.at ≤ length s
    → taken k m (drop r.at s) ≡ none (drop r.at s) → TookIs s w v₀ to v r
left_none s w v₀ to k m r v h l e = record {
  numbers = ended _ _ _ (ap (λ (x : Taken). x.bodies) e) h.numbers;
  within = l;
  rest = sym (ap (λ (x : Taken). x.rest) e) ∙ h.rest;
  count = sym (add-zero r.count) ∙ (rw e at h.counted);
}
