-- Demand 3, the power-of-two law: one theorem, for every k from -80 to 80, every pair of inputs and all five calls. For a power not below 0 the second input is the first one shifted, call by
-- call; for one below 0 the two inputs change places. Assumes nothing.
use mathlib.Core.Path.{◌≡◌, sym, ap, ap₂, ◌∙◌, subst}
use Prim.Native.Nat.{ℕ, suc, ◌+◌, ◌≤◌}
use native.Mathlib.Omega.{arith}
use mathlib.Core.Bool.{true}
use mathlib.Core.List.{List, map}
use lib.Dec.{T, lit≤}
use lib.IntN.{ℤ, pos, negsuc, nat_abs, ◌+ℤ◌}
use lib.ListN.{length}
use lib.Ieee.{Float, binary64, fits}
use Rattle.leaves.specs.Shift.{shift}
use Rattle.rules.specs.Adjusted.{is_given}
use Rattle.rules.specs.Settings.{settings}
use Rattle.rules.specs.declared.Estimate.{Estimate}
use Rattle.rules.specs.declared.Shrinkage.{Shrinkage}
use Rattle.rules.specs.declared.Regularization.{Regularization}
use Rattle.rules.specs.declared.Settings.{Settings}
use Rattle.law.specs.Law as Law
use Rattle.law.specs.Law.{All, Question, Input, answer, Sized, QuestionInRange, RegularizationInRange, Copy, CopiedEstimate, sample, given, weighted, semi, semi_below, CopiedRegularization, unregularized, CopiedQuestion, covariance, ledoit_wolf, james, bayes, Scaled, Alike, PowerOfTwoLaw, max_power, return_range, covariance_range}
use Rattle.law.proofs.Numbers.{copy-shift, copies_shift, each_back, times_up, times_down, twice, alike_down}
use Rattle.law.proofs.Sizes.{all_map, sized_fits}
use Rattle.law.proofs.Opening.{sized_moved}
use Rattle.law.proofs.Shrinkage.{Regularized}
use Rattle.law.proofs.Shrinkage as Shrinkages
use Rattle.law.proofs.LedoitWolf.{intensity_law}
use Rattle.law.proofs.Weighted.{weighted_law}
use Rattle.law.proofs.JamesStein.{james_stein_law}
use Rattle.law.proofs.BayesStein.{bayes_stein_law}
use Rattle.law.proofs.Adjusted.{covariance_law}

-- ---- a power not below 0
fits_all : (l : ℕ) (xs : List Float) → All (Sized l) xs → All (λ x. T (fits binary64 x)) xs
fits_all l xs h = all_map (Sized l) (λ x. T (fits binary64 x)) (sized_fits l) xs h

regularized : (k : ℕ) → k ≤ max_power → (H H' : Regularization Float) → CopiedRegularization (pos k) H H' → RegularizationInRange H → RegularizationInRange H' → Regularized (k + k) H H'
regularized k small H H' unregularized q q' = Shrinkages.unregularized (k + k)
regularized k small H H' (Law.ridge {x = x} {y = y} c) q q' = Shrinkages.ridge (k + k) (omega arith) x y (sized_moved (k + k) covariance_range (lit≤ tt) x y q (copy-shift (k + k) x y (sized_fits covariance_range x q) (sized_fits covariance_range y q') c))

given_too : (k : ℤ) (E E' : Estimate Float) → CopiedEstimate k E E' → is_given E ≡ true → is_given E' ≡ true
given_too k E E' sample e = e
given_too k E E' given e = e
given_too k E E' weighted e = e
given_too k E E' semi e = e
given_too k E E' (semi_below c) e = e

-- one pair of inputs, by the first's parts and the second's returns and slice
module _ (k : ℕ) (small : k ≤ max_power) (n P : ℕ) (r : List Float) (sizes : All (Sized return_range) r) (sizes' : All (Sized return_range) (map (shift (pos k)) r)) (slice slice' : List Float) (long : length slice' ≡ length slice) where
  abbrev first : Question → Input
  first q = record { returns = r; assets = n; periods = P; question = q; slice = slice }

  abbrev second : Question → Input
  second q = record { returns = map (shift (pos k)) r; assets = n; periods = P; question = q; slice = slice' }

  by_question : (q q' : Question) → CopiedQuestion (pos k) q q' → QuestionInRange (first q) q → QuestionInRange (second q') q' → Alike (pos k) (answer (first q)) (answer (second q'))
  by_question q q' (covariance {s = s} {s' = s'} {g = g} {g' = g'} {side = side} c) a b =
      let same : s' ≡ settings s'.estimate s.shrinkage s'.regularization s.limit = ap₂ (λ (S : Shrinkage Float) (l : ℕ). settings s'.estimate S s'.regularization l) (sym c.shrinkage) (sym c.limit) in
      subst (λ (t : Settings). Alike (pos k) (answer (first (Law.adjusted s g side))) (answer (second (Law.adjusted t g' side)))) (sym same)
      (covariance_law k small r sizes n P side s.limit s.shrinkage s.regularization s'.regularization (regularized k small s.regularization s'.regularization c.regularization a.regularization b.regularization)
      s.estimate s'.estimate g g' c.estimate a.estimate b.estimate
      (λ e. (a.given e, copies_shift (k + k) g g' (fits_all covariance_range g (a.given e)) (fits_all covariance_range g' (b.given (given_too (pos k) s.estimate s'.estimate c.estimate e))) (c.given e))) a.shrinkage slice slice' long)
  by_question q q' (ledoit_wolf {F = F}) a b = intensity_law k small r sizes n P F slice slice'
  by_question q q' (Law.CopiedQuestion.weighted {decay = d}) a b = weighted_law k small r sizes n P d a.0 slice slice' long
  by_question q q' (james {limit = limit}) a b = james_stein_law k small r sizes n P limit slice slice' long a
  by_question q q' (bayes {limit = limit}) a b = bayes_stein_law k small r sizes sizes' n P limit slice slice' long a b

up : (k : ℕ) (a b : Input) → Scaled (pos k) a b → Alike (pos k) (answer a) (answer b)
up k a b s =
    let r = a.returns in
    let e : b.returns ≡ map (shift (pos k)) r = copies_shift k r b.returns (fits_all return_range r s.first.returns) (fits_all return_range b.returns s.second.returns) s.returns in
    let i : b ≡ second k s.power a.assets a.periods r s.first.returns (subst (All (Sized return_range)) e s.second.returns) a.slice b.slice (sym s.slice_length) b.question = renamed in
    subst (λ (z : Input). Alike (pos k) (answer a) (answer z)) (sym i)
    (by_question k s.power a.assets a.periods r s.first.returns (subst (All (Sized return_range)) e s.second.returns) a.slice b.slice (sym s.slice_length) a.question b.question s.question s.first.question (subst (λ (z : Input). QuestionInRange z z.question) i s.second.question))
  where
    named : ℕ → ℕ → List Float → Input
    named n P l = record { returns = l; assets = n; periods = P; question = b.question; slice = b.slice }

    renamed : named b.assets b.periods b.returns ≡ named a.assets a.periods (map (shift (pos k)) a.returns)
    renamed = ap (λ (n : ℕ). named n b.periods b.returns) (sym s.assets) ∙ ap (λ (P : ℕ). named a.assets P b.returns) (sym s.periods)
        ∙ ap (named a.assets a.periods) (copies_shift k a.returns b.returns (fits_all return_range a.returns s.first.returns) (fits_all return_range b.returns s.second.returns) s.returns)

-- ---- a power below 0: the two inputs change places
module _ (j k : ℤ) (same_size : nat_abs j ≤ max_power → nat_abs k ≤ max_power) (once : (x y : Float) → Copy j x y → Copy k y x) (both : (x y : Float) → Copy (j +ℤ j) x y → Copy (k +ℤ k) y x) where
  estimate_back : (E E' : Estimate Float) → CopiedEstimate j E E' → CopiedEstimate k E' E
  estimate_back E E' sample = sample
  estimate_back E E' given = given
  estimate_back E E' weighted = weighted
  estimate_back E E' semi = semi
  estimate_back E E' (semi_below {x = x} {y = y} c) = semi_below (once x y c)

  regularization_back : (H H' : Regularization Float) → CopiedRegularization j H H' → CopiedRegularization k H' H
  regularization_back H H' unregularized = unregularized
  regularization_back H H' (Law.ridge {x = x} {y = y} c) = Law.ridge (both x y c)

  question_back : (q q' : Question) → CopiedQuestion j q q' → CopiedQuestion k q' q
  question_back q q' (covariance {s = s} {s' = s'} {g = g} {g' = g'} c) = covariance (record {
    estimate = estimate_back s.estimate s'.estimate c.estimate;
    shrinkage = sym c.shrinkage;
    regularization = regularization_back s.regularization s'.regularization c.regularization;
    limit = sym c.limit;
    given_length = sym c.given_length;
    given = λ e. each_back (Copy (j +ℤ j)) (Copy (k +ℤ k)) both g g' (c.given (given_too k s'.estimate s.estimate (estimate_back s.estimate s'.estimate c.estimate) e));
  })
  question_back q q' ledoit_wolf = ledoit_wolf
  question_back q q' Law.CopiedQuestion.weighted = Law.CopiedQuestion.weighted
  question_back q q' james = james
  question_back q q' bayes = bayes

  turned : (a b : Input) → Scaled j a b → Scaled k b a
  turned a b s = record {
    power = same_size s.power;
    returns = each_back (Copy j) (Copy k) once a.returns b.returns s.returns;
    question = question_back a.question b.question s.question;
    assets = sym s.assets;
    periods = sym s.periods;
    slice_length = sym s.slice_length;
    first = s.second;
    second = s.first;
  }

copy-up : (k : ℕ) (x y : Float) → Copy (negsuc k) x y → Copy (pos (suc k)) y x
copy-up k x y c = (times_up k x y c.0, sym c.1)

copy-down : (k : ℕ) (x y : Float) → Copy (pos (suc k)) x y → Copy (negsuc k) y x
copy-down k x y c = (times_down k x y c.0, sym c.1)

turned_up : (k : ℕ) (a b : Input) → Scaled (negsuc k) a b → Scaled (pos (suc k)) b a
turned_up k = turned (negsuc k) (pos (suc k)) (λ h. h) (copy-up k) (λ x y c. rw (twice k) (copy-up (suc (k + k)) x y c))

pub turned_down : (k : ℕ) (a b : Input) → Scaled (pos (suc k)) a b → Scaled (negsuc k) b a
turned_down k = turned (pos (suc k)) (negsuc k) (λ h. h) (copy-down k) (λ x y c. copy-down (suc (k + k)) x y (rw (twice k) at c))

pub power_of_two_law : PowerOfTwoLaw
power_of_two_law (pos k) a b s = up k a b s
power_of_two_law (negsuc k) a b s = alike_down k (answer b) (answer a) (up (suc k) b a (turned_up k a b s))
