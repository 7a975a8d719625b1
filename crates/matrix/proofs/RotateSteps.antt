-- A rotation by its angle: nothing at an entry 0, else A and V turned. Assumes nothing.
use Rattle.std.proofs.Common.{◌≡◌, Bool, true, false, ℕ, suc, List, refl, ap, Option, Some, None}
use lib.Ieee.{Float, eq}
use Rattle.leaves.specs.Numbers.{◌⊗◌, zero⁺}
use Rattle.matrix.specs.Matrix.{at}
use Rattle.matrix.specs.Rotation.{turn_columns, tangent_at, cosine, rotate, rotate_by, rotated, turned_both}
use Rattle.matrix.specs.Inner.{state, angle_at}

module _ (n p q : ℕ) (a v : List Float) where
  abbrev angle : Bool → Option (Float × Float)
  angle zero = elim zero [ true ↦ None | false ↦ let t = tangent_at n p q a in Some (cosine t, t ⊗ cosine t) ]

  pub still : None ≡ angle_at n p q a → (k : ℕ) → state a v k ≡ rotate n p q (state a v k)
  unfolding angle_at rotate
  still h k = go (eq (at a n p q) zero⁺) h
    where
      go : (b : Bool) → None ≡ angle b → state a v k ≡ elim b [ true ↦ state a v k | false ↦ rotate_by n p q (tangent_at n p q a) (state a v k) ]
      go true h = refl
      go false h = cc

  pub made : {c s : Float} → Some (c, s) ≡ angle_at n p q a → {a' v' : List Float} → a' ≡ turned_both n p q c s a → v' ≡ turn_columns n p q c s v
      → (k : ℕ) → state a' v' (suc k) ≡ rotate n p q (state a v k)
  unfolding angle_at rotate rotate_by rotated
  made {c} {s} h {a'} {v'} ea ev k = go (eq (at a n p q) zero⁺) h
    where
      turned : (t : Float) → ◌≡◌ {A = Option (Float × Float)} (Some (c, s)) (Some (cosine t, t ⊗ cosine t)) → state a' v' (suc k) ≡ rotate_by n p q t (state a v k)
      turned t h =
          let e : ◌≡◌ {A = Float × Float} (c, s) (cosine t, t ⊗ cosine t) = cc in
          rw (ea, ev) (ap (λ (x : Float × Float). state (turned_both n p q x.0 x.1 a) (turn_columns n p q x.0 x.1 v) (suc k)) e)

      go : (b : Bool) → Some (c, s) ≡ angle b → state a' v' (suc k) ≡ elim b [ true ↦ state a v k | false ↦ rotate_by n p q (tangent_at n p q a) (state a v k) ]
      go true h = cc
      go false h = turned (tangent_at n p q a) h
