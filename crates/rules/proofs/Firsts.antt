-- Laws of `first`, the first refusal of a list of checks. Assumes nothing.
use mathlib.Core.Path.{◌≡◌, refl, sym, ap, ◌∙◌}
use mathlib.Core.List.{List, [], ◌∷◌, ◌++◌}
use Rattle.rules.specs.Refusals.{Check, passes, refuses, first}
use Rattle.rules.specs.declared.Refusal.{Refusal}

pub first_alone : (x : Check) → x ≡ first (x ∷ [])
unfolding first
first_alone passes = refl
first_alone (refuses c) = refl

-- earlier checks as one
first_front : (xs ys : List Check) → first (xs ++ ys) ≡ first (first xs ∷ ys)
unfolding first
first_front [] ys = refl
first_front (passes ∷ xs) ys = first_front xs ys
first_front (refuses c ∷ xs) ys = refl

-- earlier checks, by the answer that the code has of them
pub first_then : (xs ys : List Check) {k : Check} → k ≡ first xs → first (k ∷ ys) ≡ first (xs ++ ys)
first_then xs ys e = ap (λ (k : Check). first (k ∷ ys)) e ∙ sym (first_front xs ys)

-- ---- checks one after another, the first that refuses returned at once

-- the next check, and the checks after it
pub head_refuses : (ys : List Check) {x : Check} {c : Refusal} → refuses c ≡ x → refuses c ≡ first (x ∷ ys)
unfolding first
head_refuses ys e = ap (λ (x : Check). first (x ∷ ys)) e

pub head_passes : (ys : List Check) {x : Check} → passes ≡ x → first ys ≡ first (x ∷ ys)
unfolding first
head_passes ys e = ap (λ (x : Check). first (x ∷ ys)) e

-- a list of checks that one call makes, and the checks after it
pub front_refuses : (xs ys : List Check) {c : Refusal} → refuses c ≡ first xs → refuses c ≡ first (xs ++ ys)
front_refuses xs ys e = head_refuses ys e ∙ sym (first_front xs ys)

pub front_passes : (xs ys : List Check) → passes ≡ first xs → first ys ≡ first (xs ++ ys)
front_passes xs ys e = head_passes ys e ∙ sym (first_front xs ys)
