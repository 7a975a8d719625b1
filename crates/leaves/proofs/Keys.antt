-- The order of the format's values as an order of natural numbers: of values that are not NaN `lt` goes by their keys (`lt_key`). And by keys, or by any other measure that orders values, what a
-- run of `larger` or `smaller` has picked stands to each as it should (`picked`). Assumes nothing.
use Rattle.std.proofs.Common.{◌≡◌, ℕ, zero, suc, ◌+◌, ◌-◌, ◌<◌, ◌≤◌, Bool, true, false, cond, not, T, ltb, sym, refl, ◌∙◌, subst, inl, inr, zero-le, lt_trans, le_refl, le_of_suc-le-suc, not-suc-le-zero, le_of_lt, lt-suc_self, eq-or-lt_of_le, arith, lit≤, ltb→lt, lt→ltb, ltb-false, ltb-true, le-ltb, lt-ltb}
use lib.Ieee.{Float, nan, inf, fin, binary64, fits, is_nan, lt, below}
use Rattle.leaves.specs.Numbers.{is_finite, larger, smaller}
use Rattle.leaves.specs.Loops.{loop}
use Rattle.leaves.proofs.Shift.{iff_same}
use Rattle.leaves.proofs.Units.{Top, pow_under_Top, mag, fin_val, fin_under_Top, lt_val}

abbrev pub number : Float → Bool
number x = not (is_nan x)

pub finite_number : (x : Float) → T (is_finite x) → T (number x)
unfolding is_finite is_nan
finite_number nan f = f
finite_number (inf s) f = tt
finite_number (fin s m e) f = tt

-- a value's size in units above Top or below it; an infinity's is at an end, NaN's is 0
unfoldable pub key : Float → ℕ
key nan = 0
key (inf s) = cond s 0 (Top + Top)
key (fin s m e) = cond s (Top - mag (fin s m e)) (Top + mag (fin s m e))

ltb_same : (a b c d : ℕ) → (a < b → c < d) → (c < d → a < b) → ltb a b ≡ ltb c d
ltb_same a b c d f g = iff_same (ltb a b) (ltb c d) (λ t. lt→ltb c d (f (ltb→lt a b t))) (λ t. lt→ltb a b (g (ltb→lt c d t)))

-- a finite number's key lies between those of the infinities
inside : (t : Bool) (b : ℕ) → b < Top → (0 < cond t (Top - b) (Top + b)) × (cond t (Top - b) (Top + b) < Top + Top)
inside true b l = (omega arith, omega arith)
inside false b l = (omega arith, omega arith)

below_key : (s t : Bool) (a b : ℕ) → a < Top → b < Top → below s a t b ≡ ltb (cond s (Top - a) (Top + a)) (cond t (Top - b) (Top + b))
below_key false false a b l k = ltb_same a b (Top + a) (Top + b) (λ h. omega arith) (λ h. omega arith)
below_key false true a b l k = sym (le-ltb (Top + a) (Top - b) (omega arith))
below_key true false a b l k = ltb_same 0 (a + b) (Top - a) (Top + b) (λ h. omega arith) (λ h. omega arith)
below_key true true a b l k = ltb_same b a (Top - a) (Top - b) (λ h. omega arith) (λ h. omega arith)

pub lt_key : (x y : Float) → T (fits binary64 x) → T (fits binary64 y) → T (number x) → T (number y) → lt x y ≡ ltb (key x) (key y)
unfolding lt key is_nan
lt_key nan y tx ty p q = absurd p
lt_key (inf s) nan tx ty p q = absurd q
lt_key (fin s m e) nan tx ty p q = absurd q
lt_key (inf true) (inf true) tx ty p q = sym (le-ltb 0 0 (lit≤ tt))
lt_key (inf true) (inf false) tx ty p q = sym (lt-ltb 0 (Top + Top) (let t = pow_under_Top 0 (lit≤ tt) in omega arith))
lt_key (inf false) (inf true) tx ty p q = sym (le-ltb (Top + Top) 0 zero-le)
lt_key (inf false) (inf false) tx ty p q = sym (le-ltb (Top + Top) (Top + Top) (le_refl (Top + Top)))
lt_key (inf true) (fin t n d) tx ty p q = sym (lt-ltb 0 (cond t (Top - mag (fin t n d)) (Top + mag (fin t n d))) (inside t (mag (fin t n d)) (fin_under_Top t n d ty)).0)
lt_key (inf false) (fin t n d) tx ty p q = sym (le-ltb (Top + Top) (cond t (Top - mag (fin t n d)) (Top + mag (fin t n d))) (le_of_lt (inside t (mag (fin t n d)) (fin_under_Top t n d ty)).1))
lt_key (fin s m e) (inf true) tx ty p q = sym (le-ltb (cond s (Top - mag (fin s m e)) (Top + mag (fin s m e))) 0 zero-le)
lt_key (fin s m e) (inf false) tx ty p q = sym (lt-ltb (cond s (Top - mag (fin s m e)) (Top + mag (fin s m e))) (Top + Top) (inside s (mag (fin s m e)) (fin_under_Top s m e tx)).1)
lt_key (fin s m e) (fin t n d) tx ty p q =
    lt_val (fin s m e) (fin t n d) s t (mag (fin s m e)) (mag (fin t n d)) (fin_val s m e tx) (fin_val t n d ty)
    ∙ below_key s t (mag (fin s m e)) (mag (fin t n d)) (fin_under_Top s m e tx) (fin_under_Top t n d ty)

-- a value of the format that is not NaN
abbrev pub Fine : Float → Type 0
Fine x = T (fits binary64 x) × T (number x)

-- ---- the larger and the smaller of two, and of many, by a measure that orders them
module _ (μ : Float → ℕ) where
  -- of two, the one that a test takes stands to both as the test says
  chosen : (S : Float → Type 0) (R : ℕ → ℕ → Type 0) → ((a : ℕ) → R a a) → (m x : Float) → S m → S x → (c : Bool) → (c ≡ true → R (μ x) (μ m)) → (c ≡ false → R (μ m) (μ x))
      → S (cond c x m) × R (μ (cond c x m)) (μ m) × R (μ (cond c x m)) (μ x)
  chosen S R itself m x a b true f g = (b, f refl, itself (μ x))
  chosen S R itself m x a b false f g = (a, itself (μ m), g refl)

  pub larger_by : (S : Float → Type 0) (m x : Float) → S m → S x → lt m x ≡ ltb (μ m) (μ x) → S (larger m x) × (μ m ≤ μ (larger m x)) × (μ x ≤ μ (larger m x))
  unfolding larger
  larger_by S m x a b e = chosen S (λ k l. l ≤ k) le_refl m x a b (lt m x) (λ t. le_of_lt (ltb-true (μ m) (μ x) (sym e ∙ t))) (λ t. ltb-false (μ m) (μ x) (sym e ∙ t))

  pub smaller_by : (S : Float → Type 0) (m x : Float) → S m → S x → lt x m ≡ ltb (μ x) (μ m) → S (smaller m x) × (μ (smaller m x) ≤ μ m) × (μ (smaller m x) ≤ μ x)
  unfolding smaller
  smaller_by S m x a b e = chosen S (λ k l. k ≤ l) le_refl m x a b (lt x m) (λ t. le_of_lt (ltb-true (μ x) (μ m) (sym e ∙ t))) (λ t. ltb-false (μ x) (μ m) (sym e ∙ t))

  -- a run that holds what is S and is given what is E stands to each value as a step does to both
  pub picked : (S E : Float → Type 0) (pick : Float → Float → Float) (R : ℕ → ℕ → Type 0) → ((a b c : ℕ) → R a b → R b c → R a c)
      → ((m x : Float) → S m → E x → S (pick m x) × R (μ (pick m x)) (μ m) × R (μ (pick m x)) (μ x)) → (n : ℕ) (f : ℕ → Float) (z : Float) → S z → ((t : ℕ) → t < n → E (f t))
      → S (loop n (λ k m. pick m (f k)) z) × ((t : ℕ) → t < n → R (μ (loop n (λ k m. pick m (f k)) z)) (μ (f t)))
  unfolding loop
  picked S E pick R trans step zero f z s each = (s, λ t l. absurd (not-suc-le-zero l))
  picked S E pick R trans step (suc n) f z s each =
      let r = picked S E pick R trans step n f z s (λ t l. each t (lt_trans l (lt-suc_self n))) in
      let m = loop n (λ k m. pick m (f k)) z in
      let q = step m (f n) r.0 (each n (lt-suc_self n)) in
      (q.0, λ t l. elim (eq-or-lt_of_le (le_of_suc-le-suc l)) [ inl e ↦ subst (λ (i : ℕ). R (μ (pick m (f n))) (μ (f i))) (sym e) q.2 | inr i ↦ trans (μ (pick m (f n))) (μ m) (μ (f t)) q.1 (r.1 t i) ])
