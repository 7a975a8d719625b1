-- Two lists of checks, one for each run, walked side by side. Each check is looked at only where those before it pass in both, and what they established is then at hand; so is it at the
-- end. The two runs then refuse alike, or both accept (`settled`). Assumes nothing.
use mathlib.Core.Path.{◌≡◌, refl, sym, ap, ap₂, subst}
use Prim.Native.Nat.{ℕ}
use mathlib.Core.Bool.{Bool, true, false, not}
use mathlib.Core.List.{List, [], ◌∷◌, ◌++◌}
use mathlib.Core.Option.{Option, none, some}
use lib.IntN.{ℤ}
use lib.Ieee.{Float}
use borrow.Author.Tests.{not-false}
use Rattle.rules.specs.declared.Detail.{Detail}
use Rattle.rules.specs.Refusals.{number, detail, Check, passes, refuses, when, when_some, first}
use Rattle.rules.specs.Calls.{Answered, settle}
use Rattle.rules.specs.declared.Refusal.{Refusal}
use Rattle.rules.proofs.Passed.{passes_not, pass_test}
use Rattle.law.specs.Law.{compared, Alike, parts}

-- both checks pass, and P holds; or both refuse with the same number and what is compared of its detail
pub data Both (P : Type 0) : Check → Check → Type 0 where
  accepted : P → Both P passes passes
  refused : {c c' : Refusal} → number c ≡ number c' → compared (detail c) ≡ compared (detail c') → Both P (refuses c) (refuses c')

pub data Chain (P : Type 0) : List Check → List Check → Type 0 where
  ends : P → Chain P [] []
  next : {c c' : Check} {cs cs' : List Check} → Both (Unit {0}) c c' → (c ≡ passes → Chain P cs cs') → Chain P (c ∷ cs) (c' ∷ cs')

-- ---- what a check that passes has found
pub pass_must : (b : Bool) (c : Refusal) → when (not b) c ≡ passes → b ≡ true
pass_must b c q = not-false b (pass_test (not b) c q)

pub pass_some : {A : Type 0} (o : Option A) (c : A → Refusal) → when_some o c ≡ passes → o ≡ none
pass_some none c q = refl
pass_some (some a) c q = let z : some a ≡ none = cc in z

-- ---- checks that are alike
module _ {P : Type 0} {cs cs' : List Check} where
  pub chain_same : (c : Check) {c' : Check} → c' ≡ c → (c ≡ passes → Chain P cs cs') → Chain P (c ∷ cs) (c' ∷ cs')
  chain_same c e h = next (subst (Both (Unit {0}) c) (sym e) (go c)) h
    where
      go : (c : Check) → Both (Unit {0}) c c
      go passes = accepted tt
      go (refuses c) = refused refl refl

  -- a test, with a refusal each of the same number and what is compared of its detail
  pub chain_when : (b : Bool) {b' : Bool} (c c' : Refusal) → b' ≡ b → number c ≡ number c' → compared (detail c) ≡ compared (detail c') → (b ≡ false → Chain P cs cs') → Chain P (when b c ∷ cs) (when b' c' ∷ cs')
  chain_when b c c' e i p h = next (subst (λ (z : Bool). Both (Unit {0}) (when b c) (when z c')) (sym e) (alike b)) (λ q. h (pass_test b c q))
    where
      alike : (b : Bool) → Both (Unit {0}) (when b c) (when b c')
      alike true = refused i p
      alike false = accepted tt

  pub chain_test : (b : Bool) {b' : Bool} (c : Refusal) → b' ≡ b → (b ≡ false → Chain P cs cs') → Chain P (when b c ∷ cs) (when b' c ∷ cs')
  chain_test b c e h = chain_when b c c e refl refl h

  -- a test that must hold
  pub chain_must : (b : Bool) {b' : Bool} (c : Refusal) → b' ≡ b → (b ≡ true → Chain P cs cs') → Chain P (when (not b) c ∷ cs) (when (not b') c ∷ cs')
  chain_must b c e h = chain_test (not b) c (ap not e) (λ q. h (not-false b q))

  pub chain_some : {A : Type 0} (o : Option A) {o' : Option A} (c : A → Refusal) → o' ≡ o → (o ≡ none → Chain P cs cs') → Chain P (when_some o c ∷ cs) (when_some o' c ∷ cs')
  chain_some {A} o c e h = chain_same (when_some o c) (ap (λ (z : Option A). when_some z c) e) (λ q. h (pass_some o c q))

-- ---- lists
pub chain_map : {P Q : Type 0} {cs cs' : List Check} → (P → Q) → Chain P cs cs' → Chain Q cs cs'
chain_map f (ends p) = ends (f p)
chain_map f (next b h) = next b (λ e. chain_map f (h e))

pub chain_append : {P : Type 0} {ds ds' cs cs' : List Check} → Chain (Chain P ds ds') cs cs' → Chain P (cs ++ ds) (cs' ++ ds')
chain_append (ends p) = p
chain_append (next b h) = next b (λ e. chain_append (h e))

-- checks that are the same in both runs
pub chain_equal : {P : Type 0} {ds ds' : List Check} (cs : List Check) {cs' : List Check} → cs' ≡ cs → (first cs ≡ passes → Chain P ds ds') → Chain P (cs ++ ds) (cs' ++ ds')
unfolding first
chain_equal {P} {ds} {ds'} cs e h = subst (λ (bs : List Check). Chain P (cs ++ ds) (bs ++ ds')) (sym e) (go cs h)
  where
    go : (cs : List Check) → (first cs ≡ passes → Chain P ds ds') → Chain P (cs ++ ds) (cs ++ ds')
    go [] h = h refl
    go (passes ∷ cs) h = chain_same passes refl (λ e. go cs h)
    go (refuses c ∷ cs) h = chain_same (refuses c) refl (λ e. absurd (passes_not (sym e)))

pub chained : {P : Type 0} {cs cs' : List Check} → Chain P cs cs' → Both P (first cs) (first cs')
unfolding first
chained (ends p) = accepted p
chained (next (accepted u) h) = chained (h refl)
chained (next (refused i p) h) = refused i p

-- ---- the answer
-- the two answers are alike if they are where both runs accept
pub settled : {P : Type 0} {c c' : Check} → Both P c c' → (k : ℤ) (n : ℕ) (slice slice' : List Float) (w w' : Answered)
    → (c ≡ passes → c' ≡ passes → P → Alike k (parts n w) (parts n w')) → Alike k (parts n (settle c slice w)) (parts n (settle c' slice' w'))
unfolding settle
settled (accepted p) k n slice slice' w w' h = h refl refl p
settled (refused i p) k n slice slice' w w' h = record { refusal = ap₂ (λ (i : ℕ) (p : Detail). some (i, p)) i p; entries = tt; means_and_target = tt; intensity = tt; sweeps_and_rotations = refl }
