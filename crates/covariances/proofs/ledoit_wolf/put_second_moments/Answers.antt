-- `covariances::ledoit_wolf::put_second_moments` meets its contract: the sums of the products over the count of periods, and products commute.
use Rattle.std.proofs.Common.{◌≡◌, ℕ, List, [], length, ap, ◌∙◌}
use lib.Ieee.{Float}
use Rattle.leaves.specs.Numbers.{◌⊘◌, count}
use Rattle.leaves.specs.Loops.{tab, nth}
use Rattle.matrix.specs.Matrix.{Matrix, rows, divided}
use Rattle.matrix.specs.Inner.{Symmetric}
use Rattle.matrix.proofs.OfStored.{entrywise}
use Rattle.rules.specs.Sample.{gram}
use Rattle.rules.specs.LedoitWolf.{second_moments}
use Rattle.tables.specs.Rows.{matrix_of}
use Rattle.covariances.proofs.Centered.{second_moments_symmetric}
use Rattle.covariances.proofs.ledoit_wolf.put_second_moments.Goals as goal

second-moments-are : (T n : ℕ) (z : Matrix) {x : Float} {l s : List Float} → l ≡ rows n n (gram T z) → x ≡ count T → s ≡ tab (length l) (λ k. nth l k ⊘ x) → (s ≡ second_moments T n z) × Symmetric n s
second-moments-are T n z {x} {l} el ex es =
    let e = entrywise n (gram T z) (λ a y. y ⊘ x) [] el es ∙ ap (λ (x : Float). rows n n (divided (gram T z) x)) ex in
    (e, second_moments_symmetric T n z e)

pub returns : goal.returns
returns c =
    let g = c in
    let z = g.args.z.now in
    second-moments-are z.returns.periods z.returns.assets (matrix_of z) g.gram.ensures c.nearest_u64_to_f64.ensures c.divide.ensures
