-- What is computed from the returns column by column, for returns x and their copies y, each 2 ^ k times x: means, deviations, largest sizes, the sample covariance, and the two semicovariances are
-- scaled exactly, because every sum, product and quotient on the way is a whole number of units and far from overflow. The same laws with k = 0 give the bounds of what is computed from
-- one run's numbers. Assumes nothing.
use mathlib.Core.Path.{ap, ◌∙◌}
use Prim.Native.Nat.{ℕ, ◌+◌, ◌-◌, ◌^◌, ◌≤◌, ◌<◌}
use native.Mathlib.Nat.{le_refl, le_trans}
use native.Mathlib.Omega.{arith}
use mathlib.Core.Bool.{Bool, true, false, cond}
use lib.Dec.{T, lit≤}
use lib.IntN.{pos}
use lib.Ieee.{Float, nan, lt}
use Rattle.leaves.specs.Numbers.{◌⊖◌, ◌⊗◌, ◌⊘◌, zero⁺, count, min0}
use Rattle.leaves.specs.Loops.{sum_to, nth}
use Rattle.leaves.proofs.Loops.{get_or_tab}
use Rattle.leaves.proofs.Shift.{min0_shift}
use Rattle.leaves.proofs.Units.{one_bits, top_bits, fraction_bits, mag}
use Rattle.leaves.proofs.Range.{range_count, count_pos}
use Rattle.leaves.proofs.Bounds.{Bounds, Bounded, zero_bounded, product_of, covers, is_covered}
use Rattle.leaves.proofs.Operations.{Moved, moved_sub, moved_mul, moved_over, still}
use Rattle.leaves.proofs.Totals.{moved_amax, moved_sum, amax_finite_most}
use Rattle.matrix.specs.Matrix.{Matrix}
use Rattle.matrix.specs.Limits.{max_side}
use Rattle.rules.specs.Sample.{mean, deviation, gram, second_moment, covariance, largest}
use Rattle.rules.specs.Moments.{moments}
use Rattle.rules.specs.Semi.{shortfall, semicovariance, semicovariance_below}
use Rattle.rules.specs.Order.{max_periods}
use Rattle.law.specs.Law.{max_power}
use Rattle.law.proofs.Bits.{period_bits, period_bits_lem}
use Rattle.law.proofs.Ranges.{unit_bounds, unit_mean_bounds, count_bounds, average_of, deviation_of, covariance_of, sample_bounds}

-- ---- counts
pub count_moved : (c n : ℕ) → c ≤ 53 → n ≤ 2 ^ c → Moved 0 (count_bounds c) (count n) (count n)
count_moved c n l h = still (count_bounds c) (range_count c n l h)

-- ---- columns
-- returns and their copies, of n assets in P periods, in the bounds b
pub record Returns (k n P : ℕ) (b : Bounds) (x y : Matrix) : Type 0 where
  pub assets : 0 < n
  pub few : n ≤ max_side
  pub periods : 2 ≤ P
  pub most : P ≤ max_periods
  pub entries : (t i : ℕ) → t < P → i < n → Moved k b (x t i) (y t i)

-- the same periods and assets, with other entries
pub entries_as : {k k' n P : ℕ} {b c : Bounds} {x x' y y' : Matrix} → Returns k n P b x y → ((t i : ℕ) → t < P → i < n → Moved k' c (x' t i) (y' t i)) → Returns k' n P c x' y'
entries_as r each = record { assets = r.assets; few = r.few; periods = r.periods; most = r.most; entries = each }

-- a sum of P terms over a count
average_moved : {k : ℕ} {b : Bounds} (P c : ℕ) (u u' : ℕ → Float) → P ≤ max_periods → 0 < c → c ≤ max_periods → ((t : ℕ) → t < P → Moved k b (u t) (u' t)) → fraction_bits + period_bits ≤ b.grain → (average_of b).most + k ≤ top_bits
    → Moved k (average_of b) (sum_to P u ⊘ count c) (sum_to P u' ⊘ count c)
average_moved {k} {b} P c u u' t p f each fine room =
    moved_over (moved_sum k b P period_bits (period_bits_lem t) (lit≤ tt) (omega arith) u u' each) (count_moved period_bits c (lit≤ tt) (period_bits_lem f)) (count_pos c p (le_trans f (lit≤ tt))) (omega arith) room

module _ {k n P : ℕ} {b : Bounds} {x y : Matrix} (r : Returns k n P b x y) (fine : fraction_bits + period_bits ≤ b.grain) (room : (deviation_of b).most + k ≤ top_bits) where
  mean_moved : (i : ℕ) → i < n → Moved k (average_of b) (mean P x i) (mean P y i)
  unfolding mean
  mean_moved i a = average_moved P P (λ t. x t i) (λ t. y t i) r.most (omega arith) r.most (λ t l. r.entries t i l a) fine (omega arith)

  -- the means' bounds cover the returns' and their own
  returns_covered : T (covers (average_of b) b)
  returns_covered = is_covered (average_of b) b (omega arith) (omega arith)

  means_covered : T (covers (average_of b) (average_of b))
  means_covered = is_covered (average_of b) (average_of b) (le_refl (average_of b).grain) (le_refl (average_of b).most)

  -- a return less a number that they cover
  less_moved : {c : Bounds} {m m' : Float} → T (covers (average_of b) c) → Moved k c m m' → (t i : ℕ) → t < P → i < n → Moved k (deviation_of b) (x t i ⊖ m) (y t i ⊖ m')
  less_moved s m t i l a = moved_sub (average_of b) returns_covered s (r.entries t i l a) m room

  pub deviation_moved : (t i : ℕ) → t < P → i < n → Moved k (deviation_of b) (deviation P x t i) (deviation P y t i)
  unfolding deviation
  deviation_moved t i l a = less_moved means_covered (mean_moved i a) t i l a

-- the means of returns below 2 in size, stored
pub means_moved : {k n P : ℕ} {u : Matrix} → Returns k n P unit_bounds u u → k ≤ max_power → (i : ℕ) → i < n → Moved k unit_mean_bounds (nth (moments P n u).mean i) (nth (moments P n u).mean i)
unfolding moments
means_moved {n = n} {P = P} {u = u} r small i a = rw (get_or_tab n (mean P u) i nan a) (mean_moved r (lit≤ tt) (omega arith) i a)

pub largest_moved : {k n P : ℕ} {b : Bounds} {x y : Matrix} → Returns k n P b x y → (i : ℕ) → i < n → Moved k b (largest P x i) (largest P y i)
unfolding largest
largest_moved {P = P} {x = x} {y = y} r i a = moved_amax P (λ t. x t i) (λ t. y t i) (λ t l. r.entries t i l a)

pub largest_above : {k n P : ℕ} {b : Bounds} {x y : Matrix} → Returns k n P b x y → (t i : ℕ) → t < P → i < n → mag (x t i) ≤ mag (largest P x i)
unfolding largest
largest_above {P = P} {x = x} r t i l a = amax_finite_most (λ t. x t i) P (λ t m. ((r.entries t i m a).range.fit, (r.entries t i m a).range.finite)) t l

-- ---- second moments
moment_moved : {k : ℕ} {b : Bounds} (P c : ℕ) → P ≤ max_periods → 0 < c → c ≤ max_periods → one_bits + fraction_bits + period_bits ≤ b.grain + b.grain → (average_of (product_of b b)).most + (k + k) ≤ top_bits
    → (z z' : Matrix) (i j : ℕ) → ((t : ℕ) → t < P → Moved k b (z t i) (z' t i)) → ((t : ℕ) → t < P → Moved k b (z t j) (z' t j)) → Moved (k + k) (average_of (product_of b b)) (second_moment c P z i j) (second_moment c P z' i j)
unfolding gram
moment_moved P c most some few fine room z z' i j u v = average_moved P c (λ t. z t i ⊗ z t j) (λ t. z' t i ⊗ z' t j) most some few (λ t l. moved_mul (u t l) (v t l) (omega arith) (omega arith)) (omega arith) room

-- the squares of deviations have a grain, and room for it
abbrev pub Squares : ℕ → Bounds → Type 0
Squares k b = (fraction_bits + period_bits ≤ b.grain) × (one_bits + fraction_bits + period_bits ≤ (deviation_of b).grain + (deviation_of b).grain) × ((deviation_of b).most + k ≤ top_bits) × ((covariance_of b).most + (k + k) ≤ top_bits)

module _ {k n P : ℕ} {b : Bounds} {x y : Matrix} (r : Returns k n P b x y) (q : Squares k b) where
  some : 0 < P - 1
  some = omega arith

  few : P - 1 ≤ max_periods
  few = omega arith

  pub covariance_moved : (i j : ℕ) → i < n → j < n → Moved (k + k) (covariance_of b) (covariance P x i j) (covariance P y i j)
  unfolding covariance
  covariance_moved i j a c = moment_moved P (P - 1) r.most some few q.1 q.3 (deviation P x) (deviation P y) i j (λ t l. deviation_moved r q.0 q.2 t i l a) (λ t l. deviation_moved r q.0 q.2 t j l c)

  min0_moved : {c : Bounds} {u v : Float} → Moved k c u v → Moved k c (min0 u) (min0 v)
  unfolding min0
  min0_moved {c} {u} v = record { range = go (lt u zero⁺); copy = ap min0 v.copy ∙ min0_shift (pos k) u }
    where
      go : (z : Bool) → Bounded c (cond z u zero⁺)
      go true = v.range
      go false = zero_bounded c

  shortfall_moved : {c : Bounds} (a a' : ℕ → Float) → T (covers (average_of b) c) → ((i : ℕ) → i < n → Moved k c (a i) (a' i)) → (t i : ℕ) → t < P → i < n → Moved k (deviation_of b) (shortfall a x t i) (shortfall a' y t i)
  unfolding shortfall
  shortfall_moved a a' s each t i l m = min0_moved (less_moved r q.0 q.2 s (each i m) t i l m)

  pub semicovariance_moved : (i j : ℕ) → i < n → j < n → Moved (k + k) (covariance_of b) (semicovariance P x i j) (semicovariance P y i j)
  unfolding semicovariance
  semicovariance_moved i j a c =
      let z = shortfall_moved (mean P x) (mean P y) (means_covered r q.0 q.2) (mean_moved r q.0 q.2) in
      moment_moved P (P - 1) r.most some few q.1 q.3 (shortfall (mean P x) x) (shortfall (mean P y) y) i j (λ t l. z t i l a) (λ t l. z t j l c)

  pub semicovariance_below_moved : {θ θ' : Float} → Moved k b θ θ' → (i j : ℕ) → i < n → j < n → Moved (k + k) (covariance_of b) (semicovariance_below θ P x i j) (semicovariance_below θ' P y i j)
  unfolding semicovariance_below
  semicovariance_below_moved {θ} {θ'} u i j a c =
      let z = shortfall_moved (λ i. θ) (λ i. θ') (returns_covered r q.0 q.2) (λ i a. u) in
      moment_moved P P r.most (omega arith) r.most q.1 q.3 (shortfall (λ a. θ) x) (shortfall (λ a. θ') y) i j (λ t l. z t i l a) (λ t l. z t j l c)

-- a covariance or semicovariance of returns in their range
abbrev pub Sampled : ℕ → Float → Float → Type 0
Sampled k x y = Moved k sample_bounds x y
