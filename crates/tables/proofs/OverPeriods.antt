-- Laws of what a loop over the periods makes of the columns: each period changes every column's number. Assumes nothing.
use Rattle.std.proofs.Common.{◌≡◌, ℕ, ◌+◌, List, sym, refl, ap, ◌∙◌}
use lib.Ieee.{Float}
use Rattle.leaves.specs.Numbers.{zero⁺}
use Rattle.leaves.specs.Loops.{loop, tab, nth}
use Rattle.leaves.proofs.Loops.{tab_ext, loop_more}
use Rattle.leaves.proofs.Lists.{tab_then}

-- after t periods, of which period t changes column i's number by F t i
abbrev pub after : ℕ → (ℕ → ℕ → Float → Float) → ℕ → List Float
after n F t = tab n (λ i. loop t (λ t. F t i) zero⁺)

module _ (n : ℕ) (F : ℕ → ℕ → Float → Float) where
  pub after_none : (m : ℕ) (out : List Float) → m ≡ n → out ≡ tab m (λ k. zero⁺) → out ≡ after n F 0
  unfolding loop
  after_none m out em e = e ∙ ap (λ (m : ℕ). tab m (λ k. zero⁺)) em

  pub after_more : (t : ℕ) (out next : List Float) → out ≡ after n F t → next ≡ tab n (λ i. F t i (nth out i)) → next ≡ after n F (t + 1)
  after_more t out next e e' =
      e' ∙ tab_then out n (λ i. loop t (λ t. F t i) zero⁺) (F t) refl e
      ∙ tab_ext _ (λ i. loop (t + 1) (λ t. F t i) zero⁺) n (λ i h. sym (loop_more (λ t. F t i) t zero⁺))
