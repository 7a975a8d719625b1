-- Laws of the sample moments: they are the code's sums over its counts, of the returns in their units; and of correlations, by stored volatilities. Assumes nothing.
use Rattle.std.proofs.Common.{◌≡◌, ℕ, ◌-◌, ◌*◌, ◌<◌, List, [], ◌++◌, length, take, ap, ◌∙◌, take_at}
use lib.Ieee.{Float}
use Rattle.leaves.specs.Numbers.{◌⊖◌, ◌⊘◌, count}
use Rattle.leaves.specs.Loops.{sum_to, amax_to, tab, nth}
use Rattle.leaves.proofs.Lists.{nth_stored, tab_long, tab_then}
use Rattle.matrix.specs.Matrix.{Matrix, rows}
use Rattle.matrix.proofs.Stored.{rows_ext}
use Rattle.matrix.proofs.OfStored.{rows_long, entrywise}
use Rattle.rules.specs.Sample.{mean, deviation, gram, covariance, largest, volatility, correlation_by, correlation}
use Rattle.rules.specs.Moments.{moments, moments_of}
use Rattle.rules.proofs.SameReturns.{gram_ext, largest_same}
use Rattle.tables.specs.Rows.{formed, rows_of, in_units}
use Rattle.tables.specs.declared.rows.Row.TheVariants.{Plain, Deviation}
use Rattle.tables.proofs.Formed.{unit_none}

-- ---- sums over a count

pub means_of : (m n T : ℕ) (units centers weights : List Float) (x : Matrix) (l : List Float) (c : Float) → m ≡ n → c ≡ count T
    → l ≡ tab n (λ i. sum_to T (λ t. rows_of Plain n units centers weights x t i)) → tab m (λ k. nth l k ⊘ c) ≡ tab n (mean T (in_units n units x))
unfolding mean rows_of formed
means_of m n T units centers weights x l c em ec e =
    ap (λ (c : Float). tab m (λ i. nth l i ⊘ c)) ec ∙ tab_then l n (λ i. sum_to T (λ t. in_units n units x t i)) (λ i v. v ⊘ count T) em e

deviation_row : (n T : ℕ) (units means weights : List Float) (x : Matrix) → means ≡ tab n (mean T (in_units n units x)) → (t i : ℕ) → i < n
    → rows_of Deviation n units means weights x t i ≡ deviation T (in_units n units x) t i
unfolding rows_of formed deviation
deviation_row n T units means weights x e t i h = ap (λ (c : Float). in_units n units x t i ⊖ c) (nth_stored n (mean T (in_units n units x)) e i h)

pub covariance_of_lem : (n T : ℕ) (units means weights : List Float) (x : Matrix) {l out : List Float} {c : Float} → c ≡ count (T - 1) → l ≡ rows n n (gram T (rows_of Deviation n units means weights x))
    → means ≡ tab n (mean T (in_units n units x)) → out ≡ tab (length l) (λ k. nth l k ⊘ c) → out ≡ rows n n (covariance T (in_units n units x))
unfolding covariance
covariance_of_lem n T units means weights x {c = c} ec e e' eo =
    entrywise n (gram T (rows_of Deviation n units means weights x)) (λ a y. y ⊘ c) [] e eo
    ∙ rows_ext n n _ (covariance T (in_units n units x))
    (λ i j hi hj k. gram_ext T n _ _ (λ t i ht hi. deviation_row n T units means weights x e' t i hi) i j hi hj k ⊘ ec k)

-- the largest, of rows that are the returns
pub largest_of_lem : (n T : ℕ) (centers : List Float) (x : Matrix) → tab n (λ i. amax_to T (λ t. rows_of Plain n [] centers [] x t i)) ≡ tab n (largest T x)
unfolding rows_of formed largest
largest_of_lem n T centers x = largest_same n T (in_units n [] x) x (λ t i ht. unit_none n x t i)

-- ---- the moments, as the first numbers of two arrays

pub moments_held : (n T : ℕ) (y : Matrix) (μ rest Σ others : List Float) (k : Float) → μ ≡ tab n (mean T y) → Σ ≡ rows n n (covariance T y) → k ≡ count T
    → moments_of (take n (μ ++ rest)) (take (n * n) (Σ ++ others)) k ≡ moments T n y
unfolding moments
moments_held n T y μ rest Σ others k e e' e'' =
    let m = take_at μ rest n (tab_long n (mean T y) μ e) ∙ e in
    let s = take_at Σ others (n * n) (rows_long n (covariance T y) Σ e') ∙ e' in
    λ i. moments_of (m i) (s i) (e'' i)

-- ---- correlations by volatilities that are stored

pub correlation_stored : (n : ℕ) (s : Matrix) {v : List Float} → v ≡ tab n (volatility s) → (i j : ℕ) → i < n → j < n → correlation_by (nth v) s i j ≡ correlation s i j
correlation_stored n s e i j hi hj t = s i j ⊘ nth_stored n (volatility s) e i hi t ⊘ nth_stored n (volatility s) e j hj t
