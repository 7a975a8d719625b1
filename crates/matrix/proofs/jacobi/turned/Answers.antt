-- `matrix::jacobi::turned` meets its contract: what its calls ensure, put together.
use mathlib.Core.Path.{◌≡◌, sym, ap, ◌∙◌, subst}
use mathlib.Core.Bool.{Bool, true, false}
use mathlib.Core.List.{List}
use Prim.Native.Nat.{ℕ, ◌+◌, ◌*◌, ◌<◌}
use borrow.Author.Rules.{rules}
use lib.Dec.{T}
use lib.Ieee.{Float, binary64, fits, eq, of_bits}
use Rattle.leaves.specs.Numbers.{◌⊗◌, ◌⊘◌, zero⁺, ε, is_finite}
use Rattle.leaves.specs.Loops.{tab}
use Rattle.leaves.specs.Root.{sqrt}
use Rattle.matrix.specs.Matrix.{Matrix, at, rows, identity, amax, squares, all_finite}
use Rattle.matrix.specs.Jacobi.{start, sweeping, swept, scaled_back}
use Rattle.matrix.specs.Inner.{state, swept_to, decomposed, by_columns, Symmetric}
use Rattle.matrix.proofs.Quotients.{quotients_finite}
use Rattle.matrix.proofs.Flip.{flip_identity}
use Rattle.matrix.proofs.Symmetry.{start_symmetric}
use Rattle.matrix.proofs.jacobi.turned.Goals as goal

finished : (n limit : ℕ) (scale : Float) (a : Matrix) {w₁ v₁ w₂ u v₃ values : List Float} {q r : Float} {found : Bool} {k rotations : ℕ} → v₁ ≡ rows n n identity → w₁ ≡ start n scale a
    → q ≡ squares n (at w₁ n) → r ≡ sqrt q → swept_to found k (state w₂ u rotations) ≡ sweeping limit n (ε ⊗ r) (state w₁ (by_columns n v₁) 0)
    → values ≡ tab n (λ i. at w₂ n i i ⊗ scale) → v₃ ≡ u → decomposed found values v₃ k rotations ≡ scaled_back n scale (swept limit n (start n scale a))
unfolding swept scaled_back
finished n limit scale a {w₁} {v₁} {w₂} {u} {v₃} {values} {q} {r} {found} {k} {rotations} ev ew eq er es el ef =
    let root : r ≡ sqrt (squares n (at (start n scale a) n)) = er ∙ ap sqrt (eq ∙ ap (λ (w : List Float). squares n (at w n)) ew) in
    let begun : by_columns n v₁ ≡ rows n n identity = ap (by_columns n) ev ∙ flip_identity n in
    let d : swept_to found k (state w₂ u rotations) ≡ swept limit n (start n scale a) = es ∙ (λ i. sweeping limit n (ε ⊗ root i) (state (ew i) (begun i) 0)) in
    (λ i. decomposed found (el i) (ef i) k rotations) ∙ ap (scaled_back n scale) d

quotients : (n : ℕ) (scale : Float) (a : Matrix) → ((i j : ℕ) → i < n → j < n → T (fits binary64 (a i j))) → all_finite n n a ≡ true → scale ≡ amax n n a → eq scale zero⁺ ≡ false
    → (i j : ℕ) → i < n → j < n → T (is_finite (a i j ⊘ scale))
quotients n scale a fit all es nonzero i j hi hj = rw es (quotients_finite n a fit all (ap (λ (s : Float). eq s zero⁺) (sym es) ∙ nonzero) i j hi hj).1

begun-symmetric : (n : ℕ) (scale : Float) (a : Matrix) {w : List Float} → w ≡ start n scale a → Symmetric n w
begun-symmetric n scale a e = subst (Symmetric n) (sym e) (start_symmetric n scale a)

pub start-requires : goal.start-requires
start-requires c = let s = c in let n = s.args.n in (s.requires.2, search rules, quotients n s.args.scale (at s.args.a.now n) (λ i j hi hj. c.type_inv.a (i * n + j)) s.requires.6 s.requires.7 s.requires.8)

pub sweeping-w-requires : goal.sweeping-w-requires
sweeping-w-requires c =
    let s = c in
    let a = s in
    (a.requires.0, a.requires.1, search rules, search rules, begun-symmetric _ _ _ s.start.ensures)

pub returns : goal.returns
unfolding of_bits
returns c =
    let s = c in
    let i = s in
    let a = i.args in
    finished a.n a.limit a.scale (at a.a.now a.n) i.put_identity.ensures i.start.ensures s.squares.ensures s.sqrt-tolerance.ensures s.sweeping-w.ensures
    c.put_diagonal.ensures c.flip.ensures
