-- Laws of `first_to`, the first index at which a test holds: it turns on the tests below the end alone, what is found is below the end, and nothing is found exactly
-- where no test holds. Assumes nothing.
use Rattle.std.proofs.Common.{◌≡◌, ℕ, zero, suc, ◌<◌, Bool, true, false, cond, ◌⊎◌, refl, ap, ◌∙◌, ap₂, inl, inr, lt_trans, le_of_suc-le-suc, not-suc-le-zero, lt-suc_self, eq-or-lt_of_le, arith}
use mathlib.Core.Option.{Option, none, some}
use native.Mathlib.Nat.{le_step}
use Rattle.leaves.specs.Loops.{first_to}

abbrev pick : ℕ → Bool → Option ℕ → Option ℕ
pick n t found = elim found [ none ↦ cond t (some n) none | some k ↦ some k ]

pub first_ext : (n : ℕ) (f g : ℕ → Bool) → ((k : ℕ) → k < n → f k ≡ g k) → first_to n f ≡ first_to n g
unfolding first_to
first_ext zero f g h = refl
first_ext (suc n) f g h = ap₂ (pick n) (h n (lt-suc_self n)) (first_ext n f g (λ k l. h k (lt_trans l (lt-suc_self n))))

module _ (test : ℕ → Bool) where
  -- what is found is below the end
  pub first_below : (n k : ℕ) → first_to n test ≡ some k → k < n
  unfolding first_to
  first_below zero k e = let z : ◌≡◌ {A = ℕ} 0 1 = cc in omega arith
  first_below (suc n) k e = go (first_to n test) (first_below n k) (test n) e
    where
      go : (o : Option ℕ) → (o ≡ some k → k < n) → (b : Bool) → pick n b o ≡ some k → k < suc n
      go none h true e = let q : n ≡ k = cc in omega arith
      go none h false e = let z : ◌≡◌ {A = ℕ} 0 1 = cc in omega arith
      go (some j) h b e = le_step (h e)

  -- where nothing is found, no test holds
  pub first_all : (n : ℕ) → first_to n test ≡ none → (k : ℕ) → k < n → test k ≡ false
  unfolding first_to
  first_all zero e k l = absurd (not-suc-le-zero l)
  first_all (suc n) e k l = go (first_to n test) refl (test n) refl e (eq-or-lt_of_le (le_of_suc-le-suc l)) (first_all n)
    where
      go : (o : Option ℕ) → first_to n test ≡ o → (b : Bool) → test n ≡ b → pick n b o ≡ none → (k ≡ n) ⊎ (k < n) → (first_to n test ≡ none → (k : ℕ) → k < n → test k ≡ false) → test k ≡ false
      go (some j) p b q e d before = let z : ◌≡◌ {A = ℕ} 0 1 = cc in absurd (omega arith)
      go none p true q e d before = let z : ◌≡◌ {A = ℕ} 0 1 = cc in absurd (omega arith)
      go none p false q e (inl d) before = ap test d ∙ q
      go none p false q e (inr d) before = before p k d

  -- where no test holds, nothing is found
  pub none_first : (n : ℕ) → ((k : ℕ) → k < n → test k ≡ false) → first_to n test ≡ none
  unfolding first_to
  none_first zero h = refl
  none_first (suc n) h = rw (none_first n (λ k l. h k (lt_trans l (lt-suc_self n))), h n (lt-suc_self n))
