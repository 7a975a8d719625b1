-- Laws of the tables of which half is summed up and mirrored, as products commute, and of tables over a count. Assumes nothing.
use Rattle.std.proofs.Common.{◌≡◌, ℕ, ◌<◌, ◌≤◌, Bool, true, false, cond, ltb, List, [], length, refl, ap, ◌∙◌, le_trans, arith, ltb-false, ltb-true}
use lib.Ieee.{Float}
use Rattle.leaves.specs.Numbers.{◌⊘◌, zero⁺, count}
use Rattle.leaves.specs.Loops.{loop, sum_to, tab, nth}
use Rattle.leaves.proofs.Loops.{sum_ext}
use Rattle.leaves.proofs.Commutative.{⊗-comm}
use Rattle.matrix.specs.Matrix.{Matrix, at, rows, divided}
use Rattle.matrix.specs.Inner.{Symmetric}
use Rattle.matrix.proofs.Stored.{rows_ext}
use Rattle.matrix.proofs.OfStored.{at_stored, entrywise}
use Rattle.rules.specs.Sample.{gram}
use Rattle.rules.specs.LedoitWolf.{variation, covariation, distance²}
use Rattle.tables.specs.Rows.{factor, joined, summand, first_column, plus, summed, mirrored}
use Rattle.tables.specs.declared.tables.Term.{Term}
use Rattle.tables.specs.declared.tables.Term.TheVariants.{Product, Variation, Covariation}
use Rattle.tables.proofs.Sums.{first_column_low, whole_sum}

-- ---- half of a table

module _ (term : Term) (s : Matrix) (n T : ℕ) (z : Matrix) where
  abbrev sums : Matrix
  sums i j = sum_to T (λ t. summand term s (z t) i j)

  half_mirrored : ((t i j : ℕ) → i < n → j < n → summand term s (z t) i j ≡ summand term s (z t) j i) → (out : List Float) → out ≡ summed n (λ t. plus term s (z t)) T
      → rows n n (mirrored n out) ≡ rows n n sums
  half_mirrored same out e = rows_ext n n (mirrored n out) sums (λ i j hi hj. entry i j hi hj (ltb j i) refl)
    where
      kept : (i j : ℕ) → i < n → j < n → i ≤ j → at out n i j ≡ sums i j
      kept i j hi hj h =
          at_stored n (λ i j. loop T (λ t. plus term s (z t) i j) zero⁺) e i j hi hj
          ∙ whole_sum term s z T i j (le_trans (first_column_low term i) h)

      entry : (i j : ℕ) → i < n → j < n → (b : Bool) → ltb j i ≡ b → cond b (at out n j i) (at out n i j) ≡ sums i j
      entry i j hi hj true h = kept j i hj hi (omega (arith, ltb-true j i h)) ∙ sum_ext T _ _ (λ t l. same t j i hj hi)
      entry i j hi hj false h = kept i j hi hj (ltb-false j i h)

-- the Gram matrix
pub gram_mirrored : (s z : Matrix) (n T : ℕ) (out : List Float) → out ≡ summed n (λ t. plus Product s (z t)) T → rows n n (mirrored n out) ≡ rows n n (gram T z)
unfolding gram joined factor
gram_mirrored s z n T out e = half_mirrored Product s n T z (λ t i j hi hj. ⊗-comm (z t i) (z t j)) out e

-- ---- over the count of periods

module _ (s : List Float) (z : Matrix) (n T : ℕ) (table : List Float) {out : List Float} {x : Float} (ex : x ≡ count T) where
  pub variation_over : {l : List Float} → Symmetric n s → table ≡ summed n (λ t. plus Variation (at s n) (z t)) T → l ≡ rows n n (mirrored n table) → out ≡ tab (length l) (λ k. nth l k ⊘ x) → out ≡ rows n n (variation T z (at s n))
  unfolding variation joined factor
  variation_over symmetric e e' eo =
      entrywise n (sums Variation (at s n) n T z) (λ a y. y ⊘ x) []
      (e' ∙ half_mirrored Variation (at s n) n T z (λ t i j hi hj k. distance² (⊗-comm (z t i) (z t j) k) (symmetric i j hi hj k)) table e) eo
      ∙ ap (λ (c : Float). rows n n (divided (sums Variation (at s n) n T z) c)) ex

  pub covariation_over : table ≡ summed n (λ t. plus Covariation (at s n) (z t)) T → out ≡ tab (length table) (λ k. nth table k ⊘ x) → out ≡ rows n n (covariation T z (at s n))
  unfolding covariation joined factor first_column
  covariation_over e eo =
      entrywise n (sums Covariation (at s n) n T z) (λ a y. y ⊘ x) []
      (e ∙ rows_ext n n _ (sums Covariation (at s n) n T z) (λ i j hi hj. whole_sum Covariation (at s n) z T i j (omega arith))) eo
      ∙ ap (λ (c : Float). rows n n (divided (sums Covariation (at s n) n T z) c)) ex
