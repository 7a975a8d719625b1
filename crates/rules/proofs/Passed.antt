-- What a check that passes has found, and a list of checks of which none refuses. Assumes nothing.
use mathlib.Core.Path.{◌≡◌, refl, sym}
use mathlib.Core.Bool.{Bool, true, false}
use Prim.Native.Nat.{ℕ}
use native.Mathlib.Omega.{arith}
use mathlib.Core.List.{List, ◌∷◌}
use Rattle.rules.specs.Refusals.{Check, passes, refuses, when, first}
use Rattle.rules.specs.declared.Refusal.{Refusal}

pub passes_not : {c : Refusal} → passes ≡ refuses c → ⊥
passes_not e = let z : ◌≡◌ {A = ℕ} 0 1 = cc in omega arith

pub pass_test : (b : Bool) (c : Refusal) → when b c ≡ passes → b ≡ false
pass_test false c e = refl
pass_test true c e = absurd (passes_not (sym e))

pub pass_cons : (x : Check) (ys : List Check) → first (x ∷ ys) ≡ passes → (x ≡ passes) × (first ys ≡ passes)
unfolding first
pass_cons passes ys e = (refl, e)
pass_cons (refuses c) ys e = absurd (passes_not (sym e))

-- a test that passes, with the checks after it
pub first_passes : (b : Bool) (c : Refusal) (ys : List Check) → first (when b c ∷ ys) ≡ passes → (b ≡ false) × (first ys ≡ passes)
first_passes b c ys e = let p = pass_cons (when b c) ys e in (pass_test b c p.0, p.1)
