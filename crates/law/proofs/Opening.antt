-- The checks that open every call, of returns in range and of the same returns times 2 ^ k: the shapes and lengths are equal, and returns in range, with their covariance, are finite. So both runs
-- refuse alike, or both go on with returns of the granted sizes, the second's each 2 ^ k times the first's: with the three covariances of such returns in one range, and each column over the power of two
-- of its largest. Assumes nothing.
use mathlib.Core.Path.{◌≡◌, refl, sym, ap, ap₂, ◌∙◌}
use Prim.Native.Nat.{ℕ, ◌+◌, ◌*◌, ◌≤◌, ◌<◌, zero-le}
use native.Mathlib.Nat.{le_of_eq, lt_of_lt_of_le}
use native.Mathlib.Omega.{arith}
use mathlib.Core.Bool.{true, not}
use mathlib.Core.List.{List, [], ◌++◌, map}
use mathlib.Core.Option.{Option}
use lib.Arith.{digits_lt}
use lib.Dec.{lit≤}
use lib.IntN.{ℤ, pos}
use lib.ListN.{length, get_or, length-map, get_or-map}
use lib.Ieee.{Float, nan}
use Rattle.leaves.specs.Numbers.{is_finite}
use Rattle.leaves.specs.Shift.{shift}
use Rattle.leaves.proofs.Shift.{is_finite_shift, shift_nan}
use Rattle.leaves.proofs.Units.{one_bits, fraction_bits}
use Rattle.leaves.proofs.Operations.{Moved}
use Rattle.matrix.specs.Matrix.{Matrix, at, all_finite}
use Rattle.matrix.proofs.Alike.{finite_same, first_entry_alike}
use Rattle.rules.specs.Refusals.{Check, passes, when_some, first}
use Rattle.rules.specs.Sample.{covariance, largest}
use Rattle.rules.specs.Semi.{semicovariance, semicovariance_below}
use Rattle.rules.specs.Order.{not_finite, by_shape, opening}
use Rattle.rules.specs.Shapes.{Shaped}
use Rattle.rules.specs.declared.Refusal.TheVariants.{NotFinite, CovarianceNotFinite}
use Rattle.rules.proofs.Shapes.{shape_passes, opened}
use Rattle.law.specs.Law.{All, Sized, max_power, return_range}
use Rattle.law.proofs.Ranges.{sized_bounds, return_bounds}
use Rattle.law.proofs.Chain.{Chain, chain_same, chain_must, chain_equal}
use Rattle.law.proofs.Sizes.{all_at, sized_range}
use Rattle.law.proofs.Sample.{Returns, Squares, covariance_moved, largest_moved, Sampled, semicovariance_moved, semicovariance_below_moved}
use Rattle.law.proofs.Scaled.{Scaling, Scalable, scaling}

-- ---- stored numbers and their copies
pub at_copy : (k : ℤ) (l : List Float) (n i j : ℕ) → at (map (shift k) l) n i j ≡ shift k (at l n i j)
at_copy k l n i j = ap (get_or (map (shift k) l) (i * n + j)) (sym (shift_nan k)) ∙ get_or-map (shift k) l (i * n + j) nan

pub sized_moved : (k l : ℕ) → fraction_bits + l ≤ one_bits → (x y : Float) → Sized l x → y ≡ shift (pos k) x → Moved k (sized_bounds l) x y
sized_moved k l h x y s e = record { range = sized_range l h x s; copy = e }

-- 5
pub entries_same : (k : ℕ) (l : List Float) (m n : ℕ) → not_finite m n (at (map (shift (pos k)) l) n) ≡ not_finite m n (at l n)
unfolding not_finite
entries_same k l m n = ap (λ (o : Option (ℕ × ℕ)). when_some o (λ p. NotFinite p.0 p.1))
    (first_entry_alike m n (λ i j. not (is_finite (at (map (shift (pos k)) l) n i j))) (λ i j. not (is_finite (at l n i j))) (λ i j a b. ap not (ap is_finite (at_copy (pos k) l n i j) ∙ is_finite_shift (pos k) (at l n i j))))

-- ---- a column over the power of two of its largest return
pub returns_scalable : Scalable return_bounds
returns_scalable = (lit≤ tt, lit≤ tt, lit≤ tt, lit≤ tt, lit≤ tt)

pub column : {k n P : ℕ} {x y : Matrix} → k ≤ max_power → Returns k n P return_bounds x y → (i : ℕ) → i < n → Scaling k return_bounds (largest P x i) (largest P y i)
column small r i a = scaling (largest_moved r i a) returns_scalable (omega arith)

-- ---- the shapes that are accepted
abbrev pub Shape : List Float → ℕ → ℕ → Type 0
Shape r n P = Shaped (length r) n P

module _ (k : ℕ) (small : k ≤ max_power) (r : List Float) (sizes : All (Sized return_range) r) (n P : ℕ) where
  abbrev r' : List Float
  r' = map (shift (pos k)) r

  pub returns : Shape r n P → Returns k n P return_bounds (at r n) (at r' n)
  returns (assets, few, periods, most, full) = record {
    assets = assets;
    few = few;
    periods = periods;
    most = most;
    entries = λ t i a b.
        let in-r : t * n + i < length r = lt_of_lt_of_le (digits_lt a b) (le_of_eq (sym full)) in
        sized_moved k return_range (lit≤ tt) (at r n t i) (at r' n t i) (all_at (Sized return_range) r (t * n + i) sizes in-r) (at_copy (pos k) r n t i);
  }

  squares : Squares k return_bounds
  squares = (lit≤ tt, lit≤ tt, omega arith, omega arith)

  pub sample_moved : Shape r n P → (i j : ℕ) → i < n → j < n → Sampled (k + k) (covariance P (at r n) i j) (covariance P (at r' n) i j)
  sample_moved s = covariance_moved (returns s) squares

  pub semi_moved : Shape r n P → (i j : ℕ) → i < n → j < n → Sampled (k + k) (semicovariance P (at r n) i j) (semicovariance P (at r' n) i j)
  semi_moved s = semicovariance_moved (returns s) squares

  pub semi_below_moved : (θ θ' : Float) → Sized return_range θ → θ' ≡ shift (pos k) θ → Shape r n P → (i j : ℕ) → i < n → j < n → Sampled (k + k) (semicovariance_below θ P (at r n) i j) (semicovariance_below θ' P (at r' n) i j)
  semi_below_moved θ θ' z e s = semicovariance_below_moved (returns s) squares (sized_moved k return_range (lit≤ tt) θ θ' z e)

  covariance_same : Shape r n P → all_finite n n (covariance P (at r' n)) ≡ all_finite n n (covariance P (at r n))
  covariance_same s = finite_same n n (covariance P (at (map (shift (pos k)) r) n)) (covariance P (at r n)) (λ i j a b. ap is_finite (sample_moved s i j a b).copy ∙ is_finite_shift (pos (k + k)) (covariance P (at r n) i j))

  -- for a slice of `needed` numbers
  pub opening_chain : {Q : Type 0} {cs cs' : List Check} (needed : ℕ) (slice slice' : List Float) → length slice' ≡ length slice
      → (Shape r n P → ((ds : List Check) → first (opening r n P 0 [] ++ ds) ≡ first ds) → Chain Q cs cs') → Chain Q (opening r n P needed slice ++ cs) (opening r' n P needed slice' ++ cs')
  unfolding opening first
  opening_chain needed slice slice' e then =
      let lengths = ap₂ (λ (l room : ℕ). by_shape l n P needed room) (length-map r (shift (pos k))) e in
      chain_equal (by_shape (length r) n P needed (length slice)) lengths (λ e₁.
      let s = (shape_passes (length r) n P needed (length slice) e₁ refl).0 in
      chain_same (not_finite P n (at r n)) (entries_same k r P n) (λ e₂.
      chain_must (all_finite n n (covariance P (at r n))) CovarianceNotFinite (covariance_same s) (λ e₃. then s (opens s e₂ e₃))))
    where
      -- it passes too where no slice is asked for
      opens : Shape r n P → not_finite P n (at r n) ≡ passes → all_finite n n (covariance P (at r n)) ≡ true → (ds : List Check) → first (opening r n P 0 [] ++ ds) ≡ first ds
      opens s e₂ e₃ ds = opened r n P 0 [] ds s zero-le ∙ rw (e₂, e₃)
