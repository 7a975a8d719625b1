-- A search for the first index at which a test holds, as it goes on: nothing found so far, one test more, and found it stays. Assumes nothing.
use Rattle.std.proofs.Common.{◌≡◌, ℕ, zero, suc, ◌+◌, ◌-◌, ◌<◌, ◌≤◌, Bool, true, false, refl, ap, ◌∙◌, add-one, arith}
use mathlib.Core.Option.{none, some}
use Rattle.leaves.specs.Loops.{first_to}

module _ (test : ℕ → Bool) where
  pub first_none : first_to 0 test ≡ none
  unfolding first_to
  first_none = refl

  pub first_more : (k : ℕ) → first_to k test ≡ none → test k ≡ false → first_to (k + 1) test ≡ none
  unfolding first_to
  first_more k e t = ap (λ (j : ℕ). first_to j test) (add-one k) ∙ rw (e, t)

  -- once found, it stays
  first_stays : (n d k : ℕ) → first_to n test ≡ some k → first_to (n + d) test ≡ some k
  unfolding first_to
  first_stays n zero k e = let q : n + 0 ≡ n = omega arith in ap (λ (j : ℕ). first_to j test) q ∙ e
  first_stays n (suc d) k e = let q : n + suc d ≡ suc (n + d) = omega arith in ap (λ (j : ℕ). first_to j test) q ∙ rw (first_to, first_stays n d k e)

  pub first_later : (n m k : ℕ) → n ≤ m → first_to n test ≡ some k → first_to m test ≡ some k
  first_later n m k h e = let q : m ≡ n + (m - n) = omega arith in ap (λ (j : ℕ). first_to j test) q ∙ first_stays n (m - n) k e

  first_is : (k : ℕ) → first_to k test ≡ none → test k ≡ true → first_to (suc k) test ≡ some k
  unfolding first_to
  first_is k e t = rw (e, t)

  pub first_at : (k n : ℕ) → first_to k test ≡ none → test k ≡ true → k < n → first_to n test ≡ some k
  first_at k n e t h = first_later (suc k) n k h (first_is k e t)
