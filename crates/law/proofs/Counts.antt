-- Document 01, "Jacobi" and "How tight" c, of the counts that a call reports: sweeps ≤ limit and rotations ≤ sweeps × n(n - 1)/2. A finite matrix that passes the first test is taken as it is: at a
-- limit above 0 it is found, with 0 sweeps. Assumes nothing.
use mathlib.Core.Path.{◌≡◌, refl, ap}
use Prim.Native.Nat.{ℕ, ◌-◌, ◌*◌, ◌/◌, ◌≤◌, ◌<◌, zero-le}
use mathlib.Core.Bool.{Bool, true, false}
use mathlib.Core.List.{List}
use lib.Ieee.{Float, lt, eq}
use Rattle.leaves.specs.Numbers.{zero⁺}
use Rattle.leaves.specs.Loops.{loop}
use Rattle.leaves.proofs.Search.{first_none, first_at}
use Rattle.matrix.specs.Matrix.{Matrix, at, divided, amax, all_finite}
use Rattle.matrix.specs.Rotation.{State}
use Rattle.matrix.specs.Jacobi.{Decomposition, Test, test, converged, stops, is_converged, after_sweeps, stopping, sweeping, start, tolerance, initial, swept, scaled_back, decompose, unturned}
use Rattle.matrix.proofs.Sweeps.{sweeping_is, sweeps_bound, decompose_is}
use Rattle.matrix.proofs.Rotations.{rotations_bound}
use Rattle.rules.specs.Given.{average, decompose_given}
use Rattle.rules.specs.JamesStein.{decompose_unequal}
use Rattle.rules.specs.Adjusted.{is_given, decomposition_of}
use Rattle.rules.specs.Calls.{ledoit_wolf_intensity, exponentially_weighted_mean}
use Rattle.rules.specs.declared.Settings.{Settings}
use Rattle.rules.specs.declared.Answer.{Answer}
use Rattle.rules.specs.declared.Answer.TheVariants.{Covariance, Intensity, Mean, Shrunk}
use Rattle.rules.specs.declared.Refusal.{Refusal}
use Rattle.std.specs.Prelude.{Result, Ok, Err}
use Rattle.rules.specs.BayesStein.{correlations}
use Rattle.law.specs.Law as Law
use Rattle.law.specs.Law.{Question, ask}
use Rattle.law.proofs.Columns.{column_moments}
use Rattle.law.proofs.Passing.{settle_cases}
use Rattle.law.proofs.Calls.{covariance_is, james_is, bayes_is}

-- ---- the counts of a decomposition of n rows
abbrev pub Few : ℕ → ℕ → ℕ → ℕ → Type 0
Few n limit sweeps rotations = (sweeps ≤ limit) × (rotations ≤ sweeps * (n * (n - 1) / 2))

abbrev FewOf : ℕ → ℕ → Decomposition → Type 0
FewOf n limit d = Few n limit d.sweeps d.rotations

none_few : (n m limit : ℕ) (b : Bool) → FewOf n limit (unturned m b)
unfolding unturned
none_few n m limit b = (zero-le, zero-le)

decompose_few : (limit n : ℕ) (a : Matrix) → FewOf n limit (decompose limit n a)
decompose_few limit n a = (sweeps_bound n a limit, rotations_bound n a limit)

given_few : (limit n : ℕ) (a : Matrix) → FewOf n limit (decompose_given limit n a)
unfolding decompose_given
given_few limit n a = go (lt zero⁺ (amax n n a))
  where
    go : (b : Bool) → FewOf n limit (elim b [ true ↦ decompose limit n (divided a (amax n n a)) | false ↦ unturned n true ])
    go true = decompose_few limit n (divided a (amax n n a))
    go false = none_few n n limit true

unequal_few : (limit n : ℕ) (u : Float) (Σ : Matrix) → FewOf n limit (decompose_unequal limit n u Σ)
unfolding decompose_unequal
unequal_few limit n u Σ = go (eq u zero⁺)
  where
    go : (b : Bool) → FewOf n limit (elim b [ true ↦ unturned n true | false ↦ decompose limit n Σ ])
    go true = none_few n n limit true
    go false = decompose_few limit n Σ

settings_few : (s : Settings) (given : List Float) (side : ℕ) → FewOf side s.limit (decomposition_of s given side)
unfolding decomposition_of
settings_few s given side = go (is_given s.estimate)
  where
    go : (b : Bool) → FewOf side s.limit (elim b [ true ↦ decompose_given s.limit side (average given side) | false ↦ unturned 0 true ])
    go true = given_few s.limit side (average given side)
    go false = none_few side 0 s.limit true

-- ---- the counts that a call reports, of a matrix of n rows
abbrev pub Counted : ℕ → ℕ → Result Answer Refusal → Type 0
Counted n limit (Err c) = Unit {0}
Counted n limit (Ok (Covariance δ sweeps rotations)) = Few n limit sweeps rotations
Counted n limit (Ok (Intensity δ)) = Unit {0}
Counted n limit (Ok Mean) = Unit {0}
Counted n limit (Ok (Shrunk α μ₀ sweeps rotations)) = Few n limit sweeps rotations

-- what is decomposed has the given matrix's side, or a row for each asset
abbrev pub decomposed_side : ℕ → Question → ℕ
decomposed_side n (Law.adjusted s given side) = side
decomposed_side n (Law.intensity F) = 0
decomposed_side n (Law.weighted_mean decay) = 0
decomposed_side n (Law.james_stein limit) = n
decomposed_side n (Law.bayes_stein limit) = n

abbrev pub limit_of : Question → ℕ
limit_of (Law.adjusted s given side) = s.limit
limit_of (Law.intensity F) = 0
limit_of (Law.weighted_mean decay) = 0
limit_of (Law.james_stein limit) = limit
limit_of (Law.bayes_stein limit) = limit

pub counted : (r : List Float) (n P : ℕ) (q : Question) (slice : List Float) → Counted (decomposed_side n q) (limit_of q) (ask r n P q slice).answer
counted r n P (Law.adjusted s given side) slice = rw (covariance_is r n P s given side slice) (settle_cases (Counted side s.limit) (λ c. tt) _ slice _ (λ h. settings_few s given side))
counted r n P (Law.intensity F) slice = unfold ledoit_wolf_intensity in settle_cases (Counted 0 0) (λ c. tt) _ _ _ (λ h. tt)
counted r n P (Law.weighted_mean decay) slice = unfold exponentially_weighted_mean in settle_cases (Counted 0 0) (λ c. tt) _ slice _ (λ h. tt)
counted r n P (Law.james_stein limit) slice = rw (james_is r n P limit slice) (settle_cases (Counted n limit) (λ c. tt) _ slice _ (λ h. unequal_few limit n _ _))
counted r n P (Law.bayes_stein limit) slice = rw (bayes_is r n P limit slice) (settle_cases (Counted n limit) (λ c. tt) _ slice _ (λ h. decompose_few limit n (correlations n (column_moments P n (at r n)))))

-- ---- the first test
sweeping_first : (limit n : ℕ) (tolerance : Float) (st : State) → 0 < limit → test n tolerance st ≡ converged → ((sweeping limit n tolerance st).done ≡ true) × ((sweeping limit n tolerance st).sweeps ≡ 0)
unfolding after_sweeps loop
sweeping_first limit n tolerance st p e = rw (sweeping_is n tolerance st limit, first_at (stopping n tolerance st) 0 limit (first_none _) (ap stops e) p) (ap is_converged e, refl)

-- what the first test says of a matrix over its largest entry
abbrev pub first_test : ℕ → Matrix → Test
first_test n a = let b = start n (amax n n a) a in test n (tolerance n b) (initial n b)

pub found_at_once : (limit n : ℕ) (a : Matrix) → 0 < limit → all_finite n n a ≡ true → eq (amax n n a) zero⁺ ≡ false → first_test n a ≡ converged → ((decompose limit n a).found ≡ true) × ((decompose limit n a).sweeps ≡ 0)
unfolding scaled_back swept
found_at_once limit n a p f z e = let b = start n (amax n n a) a in rw (decompose_is limit n a, f, z) (sweeping_first limit n (tolerance n b) (initial n b) p e)
