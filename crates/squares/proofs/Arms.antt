-- A `match` with the arms 0 to 127 and one for the rest is right at every number, where each arm hands back what a rule makes of the nearest root.
use mathlib.Core.Path.{◌≡◌, refl, sym, ap, ◌∙◌}
use Prim.Native.Nat.{ℕ, zero, suc, ◌+◌, ◌≤◌, zero-le}
use native.Mathlib.Nat.{min-eq_right}
use native.Mathlib.Omega.{arith}
use Rattle.squares.specs.Squares.{number, near}

-- What is asked at i of n arms from k on and the one for the rest, where N is known and arm k hands back f k: that `right` holds of that. The two units
-- are what is asked of the parameter.
abbrev pub Asked : (ℕ → Type 0) → (ℕ → ℕ) → ℕ → ℕ → ℕ → Type 0 → Type 0
Asked right f i zero k N = N → (Unit {0} × Unit {0}) × right (f k)
Asked right f i (suc n) k N = (i ≡ k → (Unit {0} × Unit {0}) × right (f k)) × Asked right f i n (suc k) (N × (i ≡ k → ⊥))

past : (i : ℕ) → 128 ≤ i → near i ≡ near 128
unfolding number near
past i h =
    let l : 64 ≤ i = omega arith in
    rw (min-eq_right l, min-eq_right h)

from : (g : ℕ → ℕ) (i n k : ℕ) (N : Type 0) → n + k ≡ 128 → (N → k ≤ i) → Asked (λ v. v ≡ g (near i)) (λ j. g (near j)) i n k N
from g i zero k N e low = λ h.
    let l : k ≤ i = low h in
    ((tt, tt), ap g (past k (omega arith) ∙ sym (past i (omega arith))))
from g i (suc n) k N e low = (
  λ h. ((tt, tt), ap (λ (j : ℕ). g (near j)) (sym h)),
  from g i n (suc k) (N × (i ≡ k → ⊥)) (omega arith) (λ h. let l : k ≤ i = low h.0 in omega (arith, h.1)),
)

pub all : (g : ℕ → ℕ) (i : ℕ) → Asked (λ v. v ≡ g (near i)) (λ j. g (near j)) i 128 0 (Unit {0})
all g i = from g i 128 0 (Unit {0}) refl (λ h. zero-le)
