-- The rule for a constant asset looks at the first n volatilities and largest returns alone. Assumes nothing.
use mathlib.Core.Path.{◌≡◌, refl, ap}
use mathlib.Core.List.{List}
use Prim.Native.Nat.{ℕ, ◌<◌}
use lib.Ieee.{Float}
use Rattle.leaves.specs.Loops.{first_to, tab, nth}
use Rattle.leaves.specs.Root.{sqrt}
use Rattle.leaves.proofs.First.{first_ext}
use Rattle.leaves.proofs.Lists.{nth_stored}
use Rattle.matrix.specs.Matrix.{Matrix, at, rows}
use Rattle.matrix.proofs.OfStored.{at_stored}
use Rattle.rules.specs.Sample.{volatility, is_constant, constant_asset}

pub constant_ext : (n : ℕ) (v w x y : ℕ → Float) → ((i : ℕ) → i < n → v i ≡ w i) → ((i : ℕ) → i < n → x i ≡ y i)
    → first_to n (λ i. is_constant (v i) (x i)) ≡ first_to n (λ i. is_constant (w i) (y i))
constant_ext n v w x y h l = first_ext n (λ i. is_constant (v i) (x i)) (λ i. is_constant (w i) (y i)) (λ i b t. is_constant (h i b t) (l i b t))

-- largest returns that are stored, and a stored covariance
pub constant_sizes : (n : ℕ) (s : Matrix) (f : ℕ → Float) (sizes : List Float) → sizes ≡ tab n f → constant_asset n s (nth sizes) ≡ constant_asset n s f
unfolding constant_asset
constant_sizes n s f sizes e =
    constant_ext n (volatility s) (volatility s) (nth sizes) f (λ i h. refl) (nth_stored n f e)

pub constant_stored : (n : ℕ) (s : Matrix) (f : ℕ → Float) (table : List Float) → table ≡ rows n n s → constant_asset n (at table n) f ≡ constant_asset n s f
unfolding constant_asset
constant_stored n s f table e =
    constant_ext n (volatility (at table n)) (volatility s) f f
    (λ i h. ap sqrt (at_stored n s e i i h h)) (λ i h. refl)
