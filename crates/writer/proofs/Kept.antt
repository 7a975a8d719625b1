-- How large a record is that passes the writer's tests. Assumes nothing.
use mathlib.Core.Path.{◌≡◌, sym, subst}
use mathlib.Core.Bool.{true, ◌&&◌, and-eq-true_iff}
use mathlib.Core.List.{List}
use Prim.Native.Nat.{ℕ, ◌≤◌}
use lib.Dec.{leb, T, leb→le}
use lib.Ieee.Fits.{and_l, and_r}
use Rattle.paper.specs.declared.question.Question.{Question}
use Rattle.paper.specs.Grammar.{file_assets, file_periods}
use Rattle.writer.specs.Writer.{shape_kept, limit_kept, given_kept, record_kept}

module _ (q : Question) (e : shape_kept q ≡ true) where
  pub assets_kept : q.assets ≤ file_assets
  unfolding shape_kept
  assets_kept = leb→le _ _ (and_l (leb q.assets file_assets) (leb q.periods file_periods) (subst T (sym e) tt))

  pub periods_kept : q.periods ≤ file_periods
  unfolding shape_kept
  periods_kept = leb→le _ _ (and_r (leb q.assets file_assets) (leb q.periods file_periods) (subst T (sym e) tt))

pub record_sizes : (q : Question) (given : List ℕ) → record_kept q given ≡ true → (q.assets ≤ file_assets) × (q.periods ≤ file_periods)
record_sizes q given e =
    let shape = ((and-eq-true_iff (shape_kept q) (limit_kept q.limit)).0 ((and-eq-true_iff (shape_kept q && limit_kept q.limit) (given_kept q given)).0 e).0).0 in
    (assets_kept q shape, periods_kept q shape)
