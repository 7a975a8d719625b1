-- Document 01, "Jacobi": sweeps ≤ limit; and a decomposition's vectors and count are those of the state after its sweeps. Assumes nothing.
use mathlib.Core.Path.{◌≡◌, refl}
use mathlib.Core.Bool.{Bool, true, false}
use mathlib.Core.Option.{Option, none, some}
use Prim.Native.Nat.{ℕ, ◌≤◌, ◌<◌, zero-le}
use native.Mathlib.Nat.{le_refl, le_of_lt}
use lib.Ieee.{Float, eq}
use Rattle.leaves.specs.Numbers.{zero⁺}
use Rattle.leaves.specs.Loops.{loop, first_to}
use Rattle.leaves.proofs.First.{first_below}
use Rattle.matrix.specs.Matrix.{Matrix, amax, all_finite}
use Rattle.matrix.specs.Rotation.{State}
use Rattle.matrix.specs.Jacobi.{Decomposition, after_sweeps, stopping, swept_by, sweeping, start, tolerance, initial, swept, scaled_back, unturned, decomposed_by, decompose}

-- ---- sweeping, by what the search for the first sweep that the test forbids finds
module _ (n : ℕ) (tolerance : Float) (st : State) where
  pub sweeping_is : (limit : ℕ) → sweeping limit n tolerance st ≡ swept_by n tolerance st limit (first_to limit (stopping n tolerance st))
  unfolding sweeping
  sweeping_is limit = refl

  sweeping_reached : (limit : ℕ) → (sweeping limit n tolerance st).reached ≡ after_sweeps (sweeping limit n tolerance st).sweeps n st
  unfolding sweeping
  sweeping_reached limit = go (first_to limit (stopping n tolerance st))
    where
      go : (o : Option ℕ) → (swept_by n tolerance st limit o).reached ≡ after_sweeps (swept_by n tolerance st limit o).sweeps n st
      go none = refl
      go (some k) = refl

  sweeping_limit : (limit : ℕ) → (sweeping limit n tolerance st).sweeps ≤ limit
  unfolding sweeping
  sweeping_limit limit = go (first_to limit (stopping n tolerance st)) (first_below (stopping n tolerance st) limit)
    where
      go : (o : Option ℕ) → ((k : ℕ) → o ≡ some k → k < limit) → (swept_by n tolerance st limit o).sweeps ≤ limit
      go none h = le_refl limit
      go (some k) h = le_of_lt (h k refl)

-- ---- the decomposition
-- by its two tests
pub decompose_is : (limit n : ℕ) (a : Matrix) → decompose limit n a ≡ decomposed_by limit n (all_finite n n a) (eq (amax n n a) zero⁺) (amax n n a) (start n (amax n n a) a)
unfolding decompose
decompose_is limit n a = refl

-- what nothing turned has, and what the sweeps leave, every decomposition has
pub decompose_cases : (P : Decomposition → Type 0) (limit n : ℕ) (a : Matrix) → ((found : Bool) → P (unturned n found)) → P (scaled_back n (amax n n a) (swept limit n (start n (amax n n a) a))) → P (decompose limit n a)
unfolding decompose
decompose_cases P limit n a still turned = go (all_finite n n a) (eq (amax n n a) zero⁺)
  where
    go : (finite is_zero : Bool) → P (decomposed_by limit n finite is_zero (amax n n a) (start n (amax n n a) a))
    go false is_zero = still false
    go true true = still true
    go true false = turned

module _ (n : ℕ) (a : Matrix) where
  unfoldable pub begun : State
  begun = initial n (start n (amax n n a) a)

  -- V and the count of rotations are those of the state after as many sweeps as were made
  pub decompose_reached : (limit : ℕ) → let d = decompose limit n a in let st = after_sweeps d.sweeps n begun in (d.vectors ≡ st.vectors) × (d.rotations ≡ st.rotations)
  unfolding begun
  decompose_reached limit =
      decompose_cases (λ d. let st = after_sweeps d.sweeps n begun in (d.vectors ≡ st.vectors) × (d.rotations ≡ st.rotations)) limit n a (λ found. unfold unturned after_sweeps loop in (refl, refl))
      (unfold scaled_back swept in let e = sweeping_reached n (tolerance n begun.matrix) begun limit in ((λ i. (e i).vectors), (λ i. (e i).rotations)))

  pub sweeps_bound : (limit : ℕ) → (decompose limit n a).sweeps ≤ limit
  unfolding begun
  sweeps_bound limit = decompose_cases (λ d. d.sweeps ≤ limit) limit n a (λ found. unfold unturned in zero-le) (unfold scaled_back swept in sweeping_limit n (tolerance n begun.matrix) begun limit)
