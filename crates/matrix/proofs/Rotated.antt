-- A rotation does nothing or turns (`rotate_cases`). Assumes nothing.
use mathlib.Core.Bool.{Bool, true, false}
use Prim.Native.Nat.{ℕ}
use lib.Ieee.{Float, eq}
use Rattle.leaves.specs.Numbers.{zero⁺}
use Rattle.matrix.specs.Matrix.{at}
use Rattle.matrix.specs.Rotation.{State, tangent, cotangent, rotate, rotate_by}

pub rotate_cases : (P : State → Type 0) (n p q : ℕ) (st : State) → P st → ((τ : Float) → P (rotate_by n p q (tangent τ) st)) → P (rotate n p q st)
unfolding rotate
rotate_cases P n p q st still turned = go (eq (at st.matrix n p q) zero⁺)
  where
    τ : Float
    τ = cotangent (at st.matrix n p p) (at st.matrix n p q) (at st.matrix n q q)

    go : (b : Bool) → P (elim b as (λ z. State) [ true ↦ st | false ↦ rotate_by n p q (tangent τ) st ])
    go true = still
    go false = turned τ
