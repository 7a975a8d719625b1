-- Laws of `specs/Loops.antt`'s loops, sums and tables. Assumes nothing.
use Rattle.std.proofs.Common.{◌≡◌, ℕ, zero, suc, ◌+◌, ◌<◌, List, [], ◌∷◌, ◌++◌, length, get_or, sym, refl, ap, ◌∙◌, append-nil, suc-le-suc, zero-le, lt_trans, le_of_suc-le-suc, not-suc-le-zero, lt-suc_self, add-one, arith, ext_get_or}
use lib.Ieee.{Float}
use Rattle.leaves.specs.Numbers.{◌⊕◌, zero⁺, abs, larger}
use Rattle.leaves.specs.Loops.{loop, sum_to, amax_to, tab}

-- one step more
pub loop_more : {S : Type 0} (step : ℕ → S → S) (n : ℕ) (s : S) → loop (n + 1) step s ≡ step n (loop n step s)
unfolding loop
loop_more step n s = ap (λ (k : ℕ). loop k step s) (add-one n)

pub loop_ext : {S : Type 0} (n : ℕ) (f g : ℕ → S → S) (s : S) → ((k : ℕ) → k < n → (s : S) → f k s ≡ g k s) → loop n f s ≡ loop n g s
unfolding loop
loop_ext zero f g s h = refl
loop_ext (suc n) f g s h = h n (lt-suc_self n) (loop n f s) ∙ ap (g n) (loop_ext n f g s (λ k l. h k (lt_trans l (lt-suc_self n))))

-- what each step keeps, the loop keeps
pub kept_loop : {S : Type 0} (P : S → Type 0) (n : ℕ) (f : ℕ → S → S) (s : S) → P s → ((i : ℕ) → i < n → (s : S) → P s → P (f i s)) → P (loop n f s)
unfolding loop
kept_loop P zero f s p h = p
kept_loop P (suc n) f s p h = h n (lt-suc_self n) (loop n f s) (kept_loop P n f s p (λ i l. h i (lt_trans l (lt-suc_self n))))

-- steps that do nothing
pub loop_still : {S : Type 0} (f : ℕ → S → S) (n : ℕ) (s : S) → ((k : ℕ) → k < n → (x : S) → f k x ≡ x) → loop n f s ≡ s
loop_still f n s h = kept_loop (λ x. x ≡ s) n f s refl (λ k l x e. h k l x ∙ e)

module _ {A : Type 0} where
  pub length_tab : (f : ℕ → A) (n : ℕ) → length (tab n f) ≡ n
  unfolding tab
  length_tab f zero = refl
  length_tab f (suc n) = ap suc (length_tab (λ k. f (suc k)) n)

  pub tab_at : (f : ℕ → A) (n : ℕ) (l : List A) (k : ℕ) (d : A) → k < n → get_or (tab n f ++ l) k d ≡ f k
  unfolding tab
  tab_at f zero l k d h = absurd (not-suc-le-zero h)
  tab_at f (suc n) l zero d h = refl
  tab_at f (suc n) l (suc k) d h = tab_at (λ k. f (suc k)) n l k d (le_of_suc-le-suc h)

  pub get_or_tab : (n : ℕ) (f : ℕ → A) (k : ℕ) (d : A) → k < n → get_or (tab n f) k d ≡ f k
  get_or_tab n f k d h = rw append-nil at (tab_at f n [] k d h)

  -- a list is f's where its numbers are
  pub tab_is : (d : A) (l : List A) (n : ℕ) (f : ℕ → A) → length l ≡ n → ((k : ℕ) → k < n → get_or l k d ≡ f k) → l ≡ tab n f
  tab_is d l n f e h = ext_get_or d l (tab n f) (e ∙ sym (length_tab f n)) (λ k b. let b' : k < n = omega arith in h k b' ∙ sym (get_or_tab n f k d b'))

  pub tab_ext : (f g : ℕ → A) (n : ℕ) → ((k : ℕ) → k < n → f k ≡ g k) → tab n f ≡ tab n g
  unfolding tab
  tab_ext f g zero h = refl
  tab_ext f g (suc n) h = λ i. h 0 (suc-le-suc zero-le) i ∷ tab_ext (λ k. f (suc k)) (λ k. g (suc k)) n (λ k l. h (suc k) (suc-le-suc l)) i

-- of the same numbers
pub sum_ext : (n : ℕ) (f g : ℕ → Float) → ((k : ℕ) → k < n → f k ≡ g k) → sum_to n f ≡ sum_to n g
unfolding sum_to
sum_ext n f g h = loop_ext n (λ k s. s ⊕ f k) (λ k s. s ⊕ g k) zero⁺ (λ k l s. ap (λ (z : Float). s ⊕ z) (h k l))

pub amax_ext : (n : ℕ) (f g : ℕ → Float) → ((k : ℕ) → k < n → f k ≡ g k) → amax_to n f ≡ amax_to n g
unfolding amax_to
amax_ext n f g h = loop_ext n (λ k m. larger m (abs (f k))) (λ k m. larger m (abs (g k))) zero⁺ (λ k l s. ap (λ (z : Float). larger s (abs z)) (h k l))
