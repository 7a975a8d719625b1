-- `matrix::jacobi::decompose_in` meets its contract: each return is the case of `decompose` that the tests pick.
use mathlib.Core.Path.{◌≡◌, refl, sym, ap, ◌∙◌}
use mathlib.Core.Bool.{Bool}
use Prim.Native.Nat.{ℕ}
use lib.Ieee.{Float, of_bits, eq}
use Rattle.leaves.specs.Numbers.{zero⁺}
use Rattle.matrix.specs.Matrix.{Matrix, at, amax, all_finite}
use Rattle.matrix.specs.Jacobi.{Decomposition, start, decomposed_by, decompose}
use Rattle.matrix.proofs.Sweeps.{decompose_is}
use Rattle.matrix.proofs.jacobi.decompose_in.Goals as goal

-- a return, by what the code computed and what its tests found
by_tests : (n limit : ℕ) (a : Matrix) {scale : Float} → scale ≡ amax n n a → {finite f z : Bool} → finite ≡ all_finite n n a → finite ≡ f → eq scale zero⁺ ≡ z
    → {d : Decomposition} → d ≡ decomposed_by limit n f z scale (start n scale a) → d ≡ decompose limit n a
by_tests n limit a {scale} es ef h z e =
    e ∙ (λ i. decomposed_by limit n ((sym h ∙ ef) i) ((sym z ∙ ap (λ (s : Float). eq s zero⁺) es) i) (es i) (start n (es i) a)) ∙ sym (decompose_is limit n a)

pub returns-then-scale : goal.returns-then-scale
unfolding of_bits
returns-then-scale c =
    let t = c in
    let a = t.args in
    by_tests a.n a.limit (at a.a.now a.n) t.amax-scale.ensures t.all_finite.ensures t.if-all_finite.true t.if-scale.true c.unturned.ensures

pub turned-requires : goal.turned-requires
unfolding of_bits
turned-requires c =
    let t = c in
    let p = t.requires in
    (p.0, p.1, p.2, p.3, p.4, p.5, sym t.all_finite.ensures ∙ t.if-all_finite.true, t.amax-scale.ensures, t.if-scale.false)

pub returns-then-all_finite : goal.returns-then-all_finite
unfolding of_bits
returns-then-all_finite c =
    let t = c in
    let a = t.args in
    by_tests a.n a.limit (at a.a.now a.n) t.amax-scale.ensures t.all_finite.ensures t.if-all_finite.true t.if-scale.false c.turned.ensures

pub returns : goal.returns
returns c =
    let t = c in
    let a = t.args in
    by_tests a.n a.limit (at a.a.now a.n) t.amax-scale.ensures t.all_finite.ensures t.if-all_finite.false refl c.unturned-2.ensures
