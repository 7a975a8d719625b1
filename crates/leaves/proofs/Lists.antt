-- A list that holds f's numbers, `tab n f`: its numbers, its length, a list made of it, and one of which a number is replaced. Assumes nothing.
use Rattle.std.proofs.Common.{◌≡◌, ℕ, ◌<◌, Bool, true, false, cond, eqb, List, length, get_or, set, sym, refl, ap, ◌∙◌, arith, length-set, get_or-set_other, get_or-set_same, eqb-true}
use lib.Ieee.{Float, nan}
use borrow.Author.Tests.{eqb-false}
use Rattle.leaves.specs.Loops.{tab, nth}
use Rattle.leaves.proofs.Loops.{length_tab, get_or_tab, tab_ext, tab_is}

-- number k of a list that holds f's numbers
pub get_or_stored : {A : Type 0} (n : ℕ) (f : ℕ → A) {l : List A} (d : A) → l ≡ tab n f → (k : ℕ) → k < n → get_or l k d ≡ f k
get_or_stored {A} n f d e k h = ap (λ (l : List A). get_or l k d) e ∙ get_or_tab n f k d h

pub nth_stored : (n : ℕ) (f : ℕ → Float) {l : List Float} → l ≡ tab n f → (k : ℕ) → k < n → nth l k ≡ f k
nth_stored n f e k h = get_or_stored n f nan e k h

-- how long it is
pub tab_long : {A : Type 0} (n : ℕ) (f : ℕ → A) (l : List A) → l ≡ tab n f → length l ≡ n
tab_long n f l e = ap length e ∙ length_tab f n

-- a list made of a list, number by number
pub tab_then : (l : List Float) {m : ℕ} (n : ℕ) (f : ℕ → Float) (g : ℕ → Float → Float) → m ≡ n → l ≡ tab n f → tab m (λ k. g k (nth l k)) ≡ tab n (λ k. g k (f k))
tab_then l n f g em e = ap (λ (m : ℕ). tab m (λ k. g k (nth l k))) em ∙ tab_ext (λ k. g k (nth l k)) (λ k. g k (f k)) n (λ k b. ap (g k) (nth_stored n f e k b))

-- a list of which number i is replaced
pub set_tab : (f : ℕ → Float) (n i : ℕ) (v : Float) → i < n → set (tab n f) i v ≡ tab n (λ j. cond (eqb i j) v (f j))
set_tab f n i v h = tab_is nan (set (tab n f) i v) n (λ j. cond (eqb i j) v (f j)) (length-set (tab n f) i v ∙ length_tab f n) (λ k b. go k b (eqb i k) refl)
  where
    go : (k : ℕ) → k < n → (b : Bool) → eqb i k ≡ b → nth (set (tab n f) i v) k ≡ cond b v (f k)
    go k b true e = let same : i ≡ k = eqb-true i k e in ap (λ (j : ℕ). nth (set (tab n f) i v) j) (sym same) ∙ get_or-set_same (tab n f) i v nan (omega (arith, length_tab f n))
    go k b false e = get_or-set_other (tab n f) i k v nan (λ same. eqb-false i k e (sym same)) ∙ get_or_tab n f k nan b
