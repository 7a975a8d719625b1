-- A fold over a list is the loop that takes its numbers in rising index. Assumes nothing.
use Rattle.std.proofs.Common.{◌≡◌, ℕ, zero, suc, ◌≤◌, List, length, take, refl, sym, ap, ◌∙◌, le_refl, add-one, arith}
use Rattle.std.proofs.Math.Seq.{take-length}
use Rattle.std.proofs.lemmas.List.Sums.{fold_more}
use Rattle.std.specs.List.{fold}
use lib.Ieee.{Float}
use Rattle.leaves.specs.Loops.{loop, nth}

module _ (f : Float → Float → Float) (a : Float) (l : List Float) where
  abbrev step : ℕ → Float → Float
  step k m = f m (nth l k)

  so_far : (n : ℕ) → n ≤ length l → fold f a (take n l) ≡ loop n step a
  unfolding loop
  so_far zero h = refl
  so_far (suc n) h =
      ap (λ (k : ℕ). fold f a (take k l)) (sym (add-one n))
      ∙ fold_more f a l n _ (omega arith)
      ∙ ap (step n) (so_far n (omega arith))

  pub fold_is : fold f a l ≡ loop (length l) step a
  fold_is = ap (fold f a) (sym (take-length l)) ∙ so_far (length l) (le_refl (length l))
