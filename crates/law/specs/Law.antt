-- Demand 3, the power-of-two law, over the definitions of the five calls: its statement. Each field of the hypotheses is a sentence of the demand, of document 01, "Scaling
-- ranges", or of document 02, "Paper 1". Of the second only the sentence on two James-Stein decompositions that differ in bits is left out: none do.
use Rattle.std.specs.Prelude.{ℕ, suc, ◌-◌, ◌*◌, ◌/◌, ◌^◌, ◌≤◌, ◌≡◌, Bool, true, false, not, cond, ◌&&◌, ◌||◌, List, [], ◌∷◌, ◌++◌, ℤ, pos, negsuc, neg_ℤ, nat_abs, ◌+ℤ◌, ◌*ℤ◌, length, take, Float, Result, Ok, Err}
use Rattle.std.proofs.Math.Option.{Option, none, some}
use lib.Dec.{T, eqb}
use Rattle.std.specs.Float.{nan, inf, fin, binary64}
use Rattle.std.specs.Float.Ieee.{neg, lt, le, eq, fits, up, down}
use Rattle.leaves.specs.Numbers.{◌⊗◌, count, zero⁺, abs, signum}
use Rattle.leaves.specs.Scaling.{pow2}
use Rattle.rules.specs.Refusals.{number, detail}
use Rattle.rules.specs.declared.Detail.{Detail}
use Rattle.rules.specs.declared.Detail.TheVariants.{Nothing as nothing, Only as only, Entry as entry, Value as value}
use Rattle.rules.specs.Weighted.{log_decay, accepted_decay}
use Rattle.rules.specs.Adjusted.{is_sample, is_given}
use Rattle.rules.specs.Calls.{Answered, answered, adjusted_covariance, ledoit_wolf_intensity, exponentially_weighted_mean, james_stein_mean, bayes_stein_mean}
use Rattle.rules.specs.declared.Decay.{Decay}
use Rattle.rules.specs.declared.Decay.TheVariants.{HalfLife, Lambda}
use Rattle.rules.specs.declared.Estimate.{Estimate}
use Rattle.rules.specs.declared.Estimate.TheVariants.{Sample, Given, Weighted, Semi, SemiBelow}
use Rattle.rules.specs.declared.Target.{Target}
use Rattle.rules.specs.declared.Shrinkage.{Shrinkage}
use Rattle.rules.specs.declared.Shrinkage.TheVariants.{Unshrunk, Fixed, LedoitWolf}
use Rattle.rules.specs.declared.Regularization.{Regularization}
use Rattle.rules.specs.declared.Regularization.TheVariants.{Unregularized, Ridge}
use Rattle.rules.specs.declared.Settings.{Settings}
use Rattle.rules.specs.declared.Answer.{Answer}
use Rattle.rules.specs.declared.Answer.TheVariants.{Covariance, Intensity, Mean, Shrunk}
use Rattle.rules.specs.declared.Refusal.{Refusal}

-- ---- "Exactly 2^k times" speaks of the numbers themselves, with no rounding

-- a finite f64 stands for the number that it is, a whole multiple of 2^-1074: this one
abbrev pub units : Bool → ℕ → ℤ → ℤ
units false m e = pos (m * up e * 2 ^ 1074 / down e)
units true m e = neg_ℤ (pos (m * up e * 2 ^ 1074 / down e))

-- b is a times 2^k; a power below 0 multiplies the other side instead
abbrev pub TimesPower : ℤ → ℤ → ℤ → Type 0
TimesPower (pos k) a b = a *ℤ pos (2 ^ k) ≡ b
TimesPower (negsuc k) a b = a ≡ b *ℤ pos (2 ^ suc k)

-- y is exactly 2^k times x; an infinity answers to one of the same sign, and NaN to NaN
abbrev pub Times : ℤ → Float → Float → Type 0
Times k nan nan = Unit {0}
Times k nan (inf t) = ⊥
Times k nan (fin t n d) = ⊥
Times k (inf s) nan = ⊥
Times k (inf s) (inf t) = s ≡ t
Times k (inf s) (fin t n d) = ⊥
Times k (fin s m e) nan = ⊥
Times k (fin s m e) (inf t) = ⊥
Times k (fin s m e) (fin t n d) = TimesPower k (units s m e) (units t n d)

-- every number of a list, and every number of one list with the same of another
abbrev pub All : (Float → Type 0) → List Float → Type 0
All P [] = Unit {0}
All P (x ∷ xs) = P x × All P xs

abbrev pub Each : (Float → Float → Type 0) → List Float → List Float → Type 0
Each R [] [] = Unit {0}
Each R [] (y ∷ ys) = ⊥
Each R (x ∷ xs) [] = ⊥
Each R (x ∷ xs) (y ∷ ys) = R x y × Each R xs ys

-- ---- the five calls

pub data Question : Type 0 where
  adjusted : Settings → List Float → ℕ → Question
  intensity : Target → Question
  weighted_mean : Decay Float → Question
  james_stein bayes_stein : ℕ → Question

pub record Input : Type 0 where
  pub returns : List Float
  pub assets : ℕ
  pub periods : ℕ
  pub question : Question
  pub slice : List Float

abbrev pub ask : List Float → ℕ → ℕ → Question → List Float → Answered
ask r n T (adjusted s given side) slice = adjusted_covariance r n T s given side slice
ask r n T (intensity F) slice = answered (ledoit_wolf_intensity r n T F) slice
ask r n T (weighted_mean decay) slice = exponentially_weighted_mean r n T decay slice
ask r n T (james_stein limit) slice = james_stein_mean r n T limit slice
ask r n T (bayes_stein limit) slice = bayes_stein_mean r n T limit slice

-- ---- the numbers of an answer

-- "only refusal 12's eigenvalue is not compared"
abbrev pub compared : Detail → Detail
compared nothing = nothing
compared (only i) = only i
compared (entry i j) = entry i j
compared (value x) = nothing

pub record AnswerParts : Type 0 where
  pub refusal : Option (ℕ × Detail)
  pub entries : List Float
  pub means_and_target : List Float
  pub intensity : List Float
  pub sweeps_and_rotations : List ℕ

abbrev pub answer_parts : ℕ → Result Answer Refusal → List Float → AnswerParts
answer_parts n (Err c) x = record { refusal = some (number c, compared (detail c)); entries = []; means_and_target = []; intensity = []; sweeps_and_rotations = [] }
answer_parts n (Ok (Covariance δ s r)) x = record { refusal = none; entries = take (n * n) x; means_and_target = []; intensity = δ ∷ []; sweeps_and_rotations = s ∷ r ∷ [] }
answer_parts n (Ok (Intensity δ)) x = record { refusal = none; entries = []; means_and_target = []; intensity = δ ∷ []; sweeps_and_rotations = [] }
answer_parts n (Ok Mean) x = record { refusal = none; entries = []; means_and_target = take n x; intensity = []; sweeps_and_rotations = [] }
answer_parts n (Ok (Shrunk α μ₀ s r)) x = record { refusal = none; entries = []; means_and_target = μ₀ ∷ take n x; intensity = α ∷ []; sweeps_and_rotations = s ∷ r ∷ [] }

abbrev pub parts : ℕ → Answered → AnswerParts
parts n w = answer_parts n w.answer w.slice

abbrev pub answer : Input → AnswerParts
answer a = parts a.assets (ask a.returns a.assets a.periods a.question a.slice)

-- ---- the ranges of one input

-- a return or threshold is 0 or of size 2^-40 to 2^40; a given entry or regularization, 2^-80 to 2^80
abbrev pub return_range : ℕ
return_range = 40

abbrev pub covariance_range : ℕ
covariance_range = 80

-- an intensity of a covariance is 0 or at least 2^-40; a number of a mean answer is 0 or of size at least 2^-400
abbrev pub intensity_range : ℕ
intensity_range = 40

abbrev pub mean_range : ℕ
mean_range = 400

-- the first weight's age is at most 64 half-lives
abbrev pub max_half_lives : ℕ
max_half_lives = 64

-- by a decay factor, the log of the first weight is at least -44
abbrev pub max_aged_log : ℕ
max_aged_log = 44

-- k is from -80 to 80
abbrev pub max_power : ℕ
max_power = 80

-- a number of f64 that is 0, or of size 2^-l to 2^l
abbrev pub Sized : ℕ → Float → Type 0
Sized l x = T (fits binary64 x && (eq x zero⁺ || (le (pow2 (neg_ℤ (pos l))) (abs x) && le (abs x) (pow2 (pos l)))))

-- 0, or of size at least 2^-l: not strictly between
abbrev pub AtLeast : ℕ → Float → Type 0
AtLeast l x = T (not (lt zero⁺ (abs x) && lt (abs x) (pow2 (neg_ℤ (pos l)))))

-- "For a weighted estimate or mean, T − 1 ≤ 64 × half-life"
abbrev pub LongHalfLife : ℕ → Float → Type 0
LongHalfLife periods h = T (fits binary64 h && (eqb periods 0 || le (count (periods - 1)) (count max_half_lives ⊗ h)))

-- "The power-of-two law covers such papers where (T − 1) × log is at least −44", log being that of an accepted decay factor; where the exact product is at least -44,
-- so is the rounded one
abbrev pub SlowFactor : ℕ → Float → Type 0
SlowFactor periods f = T (not (accepted_decay (Lambda f)) || le (neg (count max_aged_log)) (count (periods - 1) ⊗ log_decay (Lambda f)))

abbrev pub DecayInRange : ℕ → Decay Float → Type 0
DecayInRange periods (HalfLife h) = LongHalfLife periods h
DecayInRange periods (Lambda f) = SlowFactor periods f

abbrev pub EstimateInRange : ℕ → Estimate Float → Type 0
EstimateInRange periods Sample = Unit {0}
EstimateInRange periods Given = Unit {0}
EstimateInRange periods (Weighted decay) = DecayInRange periods decay
EstimateInRange periods Semi = Unit {0}
EstimateInRange periods (SemiBelow threshold) = Sized return_range threshold

abbrev pub RegularizationInRange : Regularization Float → Type 0
RegularizationInRange Unregularized = Unit {0}
RegularizationInRange (Ridge x) = Sized covariance_range x

-- a fixed intensity, or Ledoit-Wolf's where one is found: for the sample, if the call for it does not refuse
abbrev pub ShrinkageInRange : Shrinkage Float → Bool → List Float → ℕ → ℕ → Type 0
ShrinkageInRange Unshrunk sample r n T = Unit {0}
ShrinkageInRange (Fixed δ) sample r n T = lib.Dec.T (fits binary64 δ) × AtLeast intensity_range δ
ShrinkageInRange (LedoitWolf F) sample r n T = All (AtLeast intensity_range) (cond sample (answer_parts n (ledoit_wolf_intensity r n T F) []).intensity [])

pub record SettingsInRange (a : Input) (s : Settings) (g : List Float) : Type 0 where
  -- "In both inputs every return and threshold is 0 or of size 2^−40 to 2^40"; the decay
  pub estimate : EstimateInRange a.periods s.estimate
  -- "Given entries and regularization are 0 or of size 2^−80 to 2^80"
  pub given : is_given s.estimate ≡ true → All (Sized covariance_range) g
  pub regularization : RegularizationInRange s.regularization
  -- "A fixed or Ledoit-Wolf intensity is 0 or at least 2^−40"
  pub shrinkage : ShrinkageInRange s.shrinkage (is_sample s.estimate) a.returns a.assets a.periods

-- "In mean answers, every nonzero number, intensity and target included, has size at least 2^−400"
abbrev pub Large : AnswerParts → Type 0
Large w = All (AtLeast mean_range) (w.means_and_target ++ w.intensity)

-- the settings, and of a mean the answer
abbrev pub QuestionInRange : Input → Question → Type 0
QuestionInRange a (adjusted s given side) = SettingsInRange a s given
QuestionInRange a (intensity F) = Unit {0}
QuestionInRange a (weighted_mean decay) = DecayInRange a.periods decay × All (AtLeast mean_range) (answer a).means_and_target
QuestionInRange a (james_stein limit) = Large (answer a)
QuestionInRange a (bayes_stein limit) = Large (answer a)

pub record InRange (a : Input) : Type 0 where
  pub returns : All (Sized return_range) a.returns
  pub question : QuestionInRange a a.question

-- ---- the law

-- 2^k times, and "A zero entry or setting keeps its sign from one to the other", as every other does
abbrev pub Copy : ℤ → Float → Float → Type 0
Copy k x y = Times k x y × (signum x ≡ signum y)

-- "the second's threshold is the first's times 2^k"; half-lives and decay factors are not scaled
pub data CopiedEstimate (k : ℤ) : Estimate Float → Estimate Float → Type 0 where
  sample : CopiedEstimate k Sample Sample
  given : CopiedEstimate k Given Given
  weighted : {decay : Decay Float} → CopiedEstimate k (Weighted decay) (Weighted decay)
  semi : CopiedEstimate k Semi Semi
  semi_below : {x y : Float} → Copy k x y → CopiedEstimate k (SemiBelow x) (SemiBelow y)

-- "its regularization and given covariance are the first's times 2^(2k)"
pub data CopiedRegularization (k : ℤ) : Regularization Float → Regularization Float → Type 0 where
  unregularized : CopiedRegularization k Unregularized Unregularized
  ridge : {x y : Float} → Copy (k +ℤ k) x y → CopiedRegularization k (Ridge x) (Ridge y)

-- "All settings not scaled .. are equal". A given slice that the estimate does not use may be any of its length
pub record CopiedSettings (k : ℤ) (s s' : Settings) (g g' : List Float) : Type 0 where
  pub estimate : CopiedEstimate k s.estimate s'.estimate
  pub shrinkage : s.shrinkage ≡ s'.shrinkage
  pub regularization : CopiedRegularization k s.regularization s'.regularization
  pub limit : s.limit ≡ s'.limit
  pub given_length : length g ≡ length g'
  pub given : is_given s.estimate ≡ true → Each (Copy (k +ℤ k)) g g'

pub data CopiedQuestion (k : ℤ) : Question → Question → Type 0 where
  covariance : {s s' : Settings} {g g' : List Float} {side : ℕ} → CopiedSettings k s s' g g' → CopiedQuestion k (adjusted s g side) (adjusted s' g' side)
  ledoit_wolf : {F : Target} → CopiedQuestion k (intensity F) (intensity F)
  weighted : {decay : Decay Float} → CopiedQuestion k (weighted_mean decay) (weighted_mean decay)
  james : {limit : ℕ} → CopiedQuestion k (james_stein limit) (james_stein limit)
  bayes : {limit : ℕ} → CopiedQuestion k (bayes_stein limit) (bayes_stein limit)

-- the second input is the first one, scaled
pub record Scaled (k : ℤ) (a b : Input) : Type 0 where
  -- "k is a whole number from −80 to 80"
  pub power : nat_abs k ≤ max_power
  -- "the second has the first's return matrix with each entry times 2^k"
  pub returns : Each (Copy k) a.returns b.returns
  pub question : CopiedQuestion k a.question b.question
  -- "the shapes and the lengths of all slices are equal"
  pub assets : a.assets ≡ b.assets
  pub periods : a.periods ≡ b.periods
  pub slice_length : length a.slice ≡ length b.slice
  -- "In both inputs"
  pub first : InRange a
  pub second : InRange b

-- the second answer is the first one, scaled
pub record Alike (k : ℤ) (x y : AnswerParts) : Type 0 where
  -- "refuses the second exactly when it refuses the first, with the same refusal at the same place"
  pub refusal : x.refusal ≡ y.refusal
  -- "every covariance entry is exactly 2^(2k) times the other's"
  pub entries : Each (Times (k +ℤ k)) x.entries y.entries
  -- "every mean and target exactly 2^k times"
  pub means_and_target : Each (Times k) x.means_and_target y.means_and_target
  -- "and intensities, sweeps and rotations are the same": "Intensities are the same as numbers, or both NaN"
  pub intensity : Each (Times (pos 0)) x.intensity y.intensity
  pub sweeps_and_rotations : x.sweeps_and_rotations ≡ y.sweeps_and_rotations

-- "one theorem, for every such k, every such pair of inputs and all five calls"
abbrev pub PowerOfTwoLaw : Type 0
PowerOfTwoLaw = (k : ℤ) (a b : Input) → Scaled k a b → Alike k (answer a) (answer b)
