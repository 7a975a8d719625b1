-- Laws of the table of kinds: its length, what holds of each kind, the search for a byte. Assumes nothing.
use mathlib.Core.Path.{◌≡◌, refl, sym, ◌∙◌}
use mathlib.Core.Bool.{Bool, true, ◌&&◌}
use mathlib.Core.List.{List, [], ◌∷◌}
use Prim.Native.Nat.{ℕ, zero, suc, ◌+◌, ◌≤◌, ◌<◌}
use native.Mathlib.Nat.{add-zero, not-suc-le-zero, le_of_suc-le-suc}
use native.Mathlib.Omega.{arith}
use lib.ListN.{length, get_or, drop, drop_of_length-le}
use lib.Dec.{leb, ltb, T, leb→le, ltb→lt}
use lib.Ieee.Fits.{and_l, and_r}
use borrow.Author.Tests.{eq-eqb, ne_eqb}
use Rattle.paper.specs.declared.kinds.Kind.{Kind}
use Rattle.paper.specs.Grammar.{kinds, place_in}
use Rattle.paper.specs.Inner.{missing}
use Rattle.paper.proofs.Writes.{drop_next}

pub how_many : length kinds ≡ 12
unfolding kinds
how_many = refl

-- ---- what holds of each kind

-- the library's `all` cannot be computed outside its own file
abbrev all : (Kind → Bool) → List Kind → Bool
all p [] = true
all p (k ∷ ks) = p k && all p ks

every : (p : Kind → Bool) (ks : List Kind) → T (all p ks) → (i : ℕ) → i < length ks → T (p (get_or ks i missing))
every p [] a i h = absurd (not-suc-le-zero h)
every p (k ∷ ks) a zero h = and_l (p k) (all p ks) a
every p (k ∷ ks) a (suc i) h = every p ks (and_r (p k) (all p ks) a) i (le_of_suc-le-suc h)

pub small_body : (i : ℕ) → i < length kinds → (get_or kinds i missing).body ≤ 8
unfolding kinds
small_body i h = leb→le _ 8 (every (λ k. leb k.body 8) kinds tt i h)

pub some_most : (i : ℕ) → i < length kinds → 0 < (get_or kinds i missing).most
unfolding kinds
some_most i h = ltb→lt 0 _ (every (λ k. ltb 0 k.most) kinds tt i h)

-- ---- the search: i kinds are passed

module _ (b i : ℕ) (passed : place_in kinds b ≡ i + place_in (drop i kinds) b) where
  pub place_next : i < length kinds → ((get_or kinds i missing).byte ≡ b → ⊥) → place_in kinds b ≡ i + 1 + place_in (drop (i + 1) kinds) b
  unfolding place_in
  place_next h n = passed ∙ rw (drop_next kinds i missing h, ne_eqb (get_or kinds i missing).byte b n) (omega arith)

  pub place_here : i < length kinds → (get_or kinds i missing).byte ≡ b → i ≡ place_in kinds b
  unfolding place_in
  place_here h e = sym (passed ∙ rw (drop_next kinds i missing h, eq-eqb (get_or kinds i missing).byte b e) (add-zero i))

  pub place_none : length kinds ≤ i → i ≡ place_in kinds b
  unfolding place_in
  place_none h = sym (passed ∙ rw (drop_of_length-le kinds h) (add-zero i))
