-- `tables::vectors::fill` meets its contract: std's `fill` leaves x everywhere.
use Rattle.std.proofs.Common.{◌≡◌, ℕ, zero, suc, List, ◌∷◌, replicate, refl, ap, ◌∙◌}
use lib.Ieee.{Float}
use Rattle.leaves.specs.Loops.{tab}
use Rattle.tables.proofs.vectors.fill.Goals as goal

filled : (x : Float) (n : ℕ) → replicate n x ≡ tab n (λ k. x)
unfolding tab
filled x zero = refl
filled x (suc n) = ap (λ (l : List Float). x ∷ l) (filled x n)

pub returns : goal.returns
returns c = c.fill.ensures.after (λ y h. h) ∙ filled c.args.x _
