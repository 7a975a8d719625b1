-- The invariants of the code's loops: a loop by its steps, in two parts and row by row, a table that is filled cell by cell, and sums and largest sizes that grow by one number. Assumes nothing.
use Rattle.std.proofs.Common.{◌≡◌, ℕ, zero, suc, ◌+◌, ◌*◌, ◌/◌, ◌%◌, ◌<◌, ◌≤◌, List, [], ◌∷◌, length, get_or, set, sym, refl, ap, ◌∙◌, zero-le, le_of_eq, le_of_suc-le-suc, not-suc-le-zero, suc-mul, le_antisymm, zero-mul, add-one, arith, length-set}
use lib.Ieee.{Float}
use Rattle.leaves.specs.Numbers.{◌⊕◌, zero⁺, abs, larger}
use Rattle.leaves.specs.Loops.{loop, sum_to, amax_to, tab, fill}
use Rattle.leaves.proofs.Loops.{loop_more, loop_ext}
use Rattle.leaves.proofs.Fill.{fill_whole}
use Rattle.leaves.proofs.Cells.{at_cell}

-- what is kept of i, at the end
pub at_end : {A : Type 0} (g : ℕ → A) (i n : ℕ) (s : A) → s ≡ g i → i ≤ n → n ≤ i → s ≡ g n
at_end g i n s e h k = e ∙ ap g (le_antisymm h k)

-- a loop's invariant s ≡ loop i step s₀, after a turn and at the end
pub loop_turn : {S : Type 0} (step : ℕ → S → S) (i : ℕ) (s₀ s s' : S) → s ≡ loop i step s₀ → s' ≡ step i s → s' ≡ loop (i + 1) step s₀
loop_turn step i s₀ s s' e e' = e' ∙ ap (step i) e ∙ sym (loop_more step i s₀)

pub loop_end : {S : Type 0} (step : ℕ → S → S) (i n : ℕ) (s₀ s : S) → s ≡ loop i step s₀ → i ≡ n → s ≡ loop n step s₀
loop_end step i n s₀ s e h = at_end (λ k. loop k step s₀) i n s e (le_of_eq h) (le_of_eq (sym h))

pub loop_start : {S : Type 0} (step : ℕ → S → S) (s : S) → s ≡ loop 0 step s
unfolding loop
loop_start step s = refl

loop_both : {S : Type 0} (f : ℕ → S → S) (a b : ℕ) (s : S) → loop (a + b) f s ≡ loop b (λ k. f (a + k)) (loop a f s)
unfolding loop
loop_both f a zero s = let e : a + 0 ≡ a = omega arith in ap (λ (j : ℕ). loop j f s) e
loop_both f a (suc b) s = let e : a + suc b ≡ suc (a + b) = omega arith in ap (λ (j : ℕ). loop j f s) e ∙ ap (f (a + b)) (loop_both f a b s)

-- m rows of n steps are m * n steps
pub loop_rows : {S : Type 0} (f : ℕ → ℕ → S → S) (m n : ℕ) (s : S) → loop m (λ i. loop n (f i)) s ≡ loop (m * n) (λ k. f (k / n) (k % n)) s
unfolding loop
loop_rows f zero n s = ap (λ (j : ℕ). loop j (λ k. f (k / n) (k % n)) s) (sym (zero-mul n))
loop_rows f (suc m) n s =
    ap (loop n (f m)) (loop_rows f m n s)
    ∙ loop_ext n (f m) (λ j. f ((m * n + j) / n) ((m * n + j) % n)) (loop (m * n) (λ k. f (k / n) (k % n)) s) (λ j h x i. sym (at_cell f m n j h) i x)
    ∙ sym (loop_both (λ k. f (k / n) (k % n)) (m * n) n s)
    ∙ ap (λ (j : ℕ). loop j (λ k. f (k / n) (k % n)) s) (sym (suc-mul m n))

module _ {A : Type 0} where
  fill_suc : (f : ℕ → A) (n : ℕ) (old : List A) → n < length old → set (fill n f old) n (f n) ≡ fill (suc n) f old
  unfolding fill tab
  fill_suc f n [] h = absurd (not-suc-le-zero h)
  fill_suc f zero (x ∷ old) h = refl
  fill_suc f (suc n) (x ∷ old) h = ap (λ (l : List A). f 0 ∷ l) (fill_suc (λ k. f (suc k)) n old (le_of_suc-le-suc h))

  -- none filled
  fill_none : (f : ℕ → A) (old : List A) → old ≡ fill 0 f old
  unfolding fill tab
  fill_none f old = refl

  -- a store of f n at n fills one more
  fill_more : (f : ℕ → A) (n : ℕ) (old : List A) → n < length old → set (fill n f old) n (f n) ≡ fill (n + 1) f old
  fill_more f n old h = fill_suc f n old h ∙ ap (λ (k : ℕ). fill k f old) (sym (add-one n))

  -- past n the elements are old's
  fill_past : (f : ℕ → A) (n : ℕ) (old : List A) (k : ℕ) (d : A) → n ≤ length old → n ≤ k → get_or (fill n f old) k d ≡ get_or old k d
  unfolding fill tab
  fill_past f zero old k d g h = refl
  fill_past f (suc n) old zero d g h = absurd (not-suc-le-zero h)
  fill_past f (suc n) [] (suc k) d g h = absurd (not-suc-le-zero g)
  fill_past f (suc n) (x ∷ old) (suc k) d g h = fill_past (λ k. f (suc k)) n old k d (le_of_suc-le-suc g) (le_of_suc-le-suc h)

-- A loop that goes over the first n cells of a table, storing f k at cell k: what it has reached before cell i, where it began with old and has out.
pub record Filled {A : Type 0} (f : ℕ → A) (i n : ℕ) (old out : List A) : Type 0 where
  pub low : i ≤ n
  pub is : out ≡ fill i f old
  pub len : length out ≡ length old

module _ {A : Type 0} {f : ℕ → A} {n : ℕ} {old out : List A} where
  -- where it stands, the cell is old's
  pub filled_here : {i : ℕ} (d : A) → Filled f i n old out → i < n → n ≤ length old → get_or out i d ≡ get_or old i d
  filled_here {i} d F h l = ap (λ (o : List A). get_or o i d) F.is ∙ fill_past f i old i d (omega arith) (omega arith)

  -- a turn
  pub filled_more : {i : ℕ} {v : A} → Filled f i n old out → i < n → n ≤ length old → v ≡ f i → Filled f (i + 1) n old (set out i v)
  filled_more {i} {v} F h l e = record {
    low = omega arith;
    is = (λ k. set (F.is k) i (e k)) ∙ fill_more f i old (omega arith);
    len = length-set out i v ∙ F.len;
  }

  -- at the end
  pub filled_all : {i : ℕ} → Filled f i n old out → n ≤ i → out ≡ fill n f old
  filled_all {i} F h = let e : i ≡ n = omega arith in F.is ∙ ap (λ (k : ℕ). fill k f old) e

  -- at the end, where the slice is no longer than that
  pub filled_whole : {i : ℕ} → Filled f i n old out → n ≤ i → length old ≡ n → out ≡ tab n f
  filled_whole F h l = filled_all F h ∙ fill_whole f n old (omega arith)

-- at the start
pub filled_none : {A : Type 0} (f : ℕ → A) (n : ℕ) (old : List A) → Filled f 0 n old old
filled_none f n old = record { low = zero-le; is = fill_none f old; len = refl }

-- ---- sums and the largest size, as invariants
pub sum_none : (f : ℕ → Float) → zero⁺ ≡ sum_to 0 f
unfolding sum_to loop
sum_none f = refl

pub sum_turn : (f : ℕ → Float) (i : ℕ) (s s' : Float) → s ≡ sum_to i f → s' ≡ s ⊕ f i → s' ≡ sum_to (i + 1) f
unfolding sum_to
sum_turn f i s s' e e' = loop_turn (λ k s. s ⊕ f k) i zero⁺ s s' e e'

pub amax_none : (f : ℕ → Float) → zero⁺ ≡ amax_to 0 f
unfolding amax_to loop
amax_none f = refl

pub amax_turn : (f : ℕ → Float) (i : ℕ) (m x m' : Float) → m ≡ amax_to i f → x ≡ abs (f i) → m' ≡ larger m x → m' ≡ amax_to (i + 1) f
unfolding amax_to
amax_turn f i m x m' e h e' = loop_turn (λ k m. larger m (abs (f k))) i zero⁺ m m' e (e' ∙ ap (larger m) h)
