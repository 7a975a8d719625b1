-- The second moments of the rows that the code forms below a floor and with weights: they are the definitions'. Assumes nothing.
use Rattle.std.proofs.Common.{◌≡◌, ℕ, ◌<◌, List, [], length, ap, ◌∙◌, arith}
use lib.Ieee.{Float}
use Rattle.leaves.specs.Numbers.{◌⊖◌, ◌⊗◌, ◌⊘◌, count, min0}
use Rattle.leaves.specs.Loops.{tab, nth}
use Rattle.leaves.specs.Root.{sqrt}
use Rattle.leaves.proofs.Lists.{nth_stored}
use Rattle.matrix.specs.Matrix.{Matrix, rows, divided}
use Rattle.matrix.proofs.Stored.{rows_ext}
use Rattle.matrix.proofs.OfStored.{entrywise}
use Rattle.rules.specs.Sample.{gram}
use Rattle.rules.specs.Semi.{shortfall, below}
use Rattle.rules.specs.Weighted.{weights, denominator, weighted_mean, weighted_covariance}
use Rattle.rules.proofs.SameReturns.{gram_ext}
use Rattle.tables.specs.Rows.{formed, rows_of}
use Rattle.tables.specs.declared.rows.Row.TheVariants as Row
use Rattle.tables.proofs.Formed.{row_bare}

-- below the floors f, over d
pub below_over : (T n d : ℕ) (x : Matrix) (f : ℕ → Float) {floors l out : List Float} {y : Float} → y ≡ count d → floors ≡ tab n f → l ≡ rows n n (gram T (rows_of Row.Shortfall n [] floors [] x)) → out ≡ tab (length l) (λ k. nth l k ⊘ y)
    → out ≡ rows n n (below f d T x)
unfolding formed shortfall
below_over T n d x f {floors} {y = y} ey ef e eo =
    entrywise n (gram T (shortfall f x)) (λ a z. z ⊘ y) [] (e ∙ rows_ext n n _ _ (gram_ext T n _ (shortfall f x) alike)) eo ∙ ap (λ (c : Float). rows n n (divided (gram T (shortfall f x)) c)) ey
  where
    alike : (t i : ℕ) → t < T → i < n → rows_of Row.Shortfall n [] floors [] x t i ≡ shortfall f x t i
    alike t i ht hi = row_bare Row.Shortfall n floors [] x t i hi ∙ ap (λ (c : Float). min0 (x t i ⊖ c)) (nth_stored n f ef i hi)

-- with the weights of l
pub weighted_alike : (T n m : ℕ) (l : Float) (x : Matrix) {w centers roots out : List Float} {d : Float} → m ≡ T → w ≡ weights T l → d ≡ denominator T l → centers ≡ tab n (weighted_mean T w x)
    → roots ≡ tab m (λ t. sqrt (nth w t ⊘ d)) → out ≡ rows n n (gram T (rows_of Row.WeightedDeviation n [] centers roots x)) → out ≡ rows n n (weighted_covariance T l x)
unfolding weighted_covariance formed
weighted_alike T n m l x {w} {centers} {roots} {out} {d} em ew ed ec er e =
    e ∙ rows_ext n n _ _ (gram_ext T n _ (λ t a. (x t a ⊖ weighted_mean T (weights T l) x a) ⊗ sqrt (nth (weights T l) t ⊘ denominator T l)) alike)
  where
    center : (i : ℕ) → i < n → nth centers i ≡ weighted_mean T (weights T l) x i
    center i h = nth_stored n (weighted_mean T w x) ec i h ∙ ap (λ (w : List Float). weighted_mean T w x i) ew

    root : (t : ℕ) → t < T → nth roots t ≡ sqrt (nth (weights T l) t ⊘ denominator T l)
    root t h = nth_stored m (λ t. sqrt (nth w t ⊘ d)) er t (omega arith) ∙ (λ k. sqrt (nth (ew k) t ⊘ ed k))

    alike : (t i : ℕ) → t < T → i < n → rows_of Row.WeightedDeviation n [] centers roots x t i ≡ (x t i ⊖ weighted_mean T (weights T l) x i) ⊗ sqrt (nth (weights T l) t ⊘ denominator T l)
    alike t i ht hi = row_bare Row.WeightedDeviation n centers roots x t i hi ∙ (λ k. (x t i ⊖ center i hi k) ⊗ root t ht k)
