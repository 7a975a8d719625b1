-- `inputs::given::decompose` meets its contract: each return is the case of `decompose_given` that the test picks.
use Rattle.std.proofs.Common.{◌≡◌, ℕ, ◌*◌, true, false, List, length, sym, refl, ap, ◌∙◌}
use lib.Ieee.{Float, lt, div, of_bits}
use Rattle.leaves.specs.Numbers.{◌⊘◌, zero⁺}
use Rattle.matrix.specs.Matrix.{at, rows, amax, divided}
use Rattle.matrix.specs.Jacobi.{Decomposition, decompose, unturned}
use Rattle.matrix.proofs.OfStored.{mapped_at}
use Rattle.rules.specs.Given.{decompose_given}
use Rattle.inputs.proofs.given.decompose.Goals as goal

-- by what the code computed
module _ (n limit : ℕ) (a : List Float) {scale : Float} (es : scale ≡ amax n n (at a n)) (d : Decomposition) where
  over-largest : {over : List Float} → length a ≡ n * n → over ≡ rows n n (divided (at a n) scale) → lt zero⁺ scale ≡ true → d ≡ decompose limit n (at over n) → d ≡ decompose_given limit n (at a n)
  unfolding decompose_given div
  over-largest l eo t e =
      e ∙ ap (decompose limit n) (ap (λ (o : List Float). at o n) eo ∙ mapped_at (λ x. x ⊘ scale) refl a n l)
      ∙ ap (λ (s : Float). decompose limit n (divided (at a n) s)) es
      ∙ rw (decompose_given, ap (lt zero⁺) (sym es) ∙ t)

  zero : lt zero⁺ scale ≡ false → d ≡ unturned n true → d ≡ decompose_given limit n (at a n)
  unfolding decompose_given
  zero t e = e ∙ rw (decompose_given, ap (lt zero⁺) (sym es) ∙ t)

pub returns-then-scale : goal.returns-then-scale
unfolding of_bits
returns-then-scale c =
    let o = c in
    let m = o in
    let s = m in
    let a = s.args in
    over-largest a.n a.limit a.a.now m.amax-scale.ensures _ s.requires.2 o.divide.ensures o.if-scale.true c.decompose.ensures

pub returns : goal.returns
unfolding of_bits
returns c =
    let m = c in
    let a = m.args in
    zero a.n a.limit a.a.now m.amax-scale.ensures _ c.if-scale.false c.unturned.ensures
