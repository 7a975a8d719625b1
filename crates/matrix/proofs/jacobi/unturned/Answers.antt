-- `matrix::jacobi::unturned` meets its contract: what its two calls ensure.
use Rattle.std.proofs.Common.{◌≡◌, ℕ, zero, suc, List, ◌∷◌, refl, ap, ◌∙◌, replicate}
use lib.Ieee.{Float, of_bits}
use Rattle.leaves.specs.Numbers.{zero⁺}
use Rattle.leaves.specs.Loops.{tab}
use Rattle.matrix.specs.Jacobi.{unturned}
use Rattle.matrix.specs.Inner.{decomposed}
use Rattle.matrix.proofs.jacobi.unturned.Goals as goal

zeros : (n : ℕ) → replicate n zero⁺ ≡ tab n (λ i. zero⁺)
unfolding tab
zeros zero = refl
zeros (suc n) = ap (λ (l : List Float). zero⁺ ∷ l) (zeros n)

pub returns : goal.returns
unfolding unturned of_bits
returns c =
    let filled = c.fill.ensures.after (λ y e. e) ∙ ap (λ (n : ℕ). replicate n zero⁺) c.requires.0 ∙ zeros c.args.n in
    λ i. decomposed c.args.found (filled i) (c.put_identity.ensures i) 0 0
