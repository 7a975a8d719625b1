-- `leaves::logarithm::ln_of` meets its contract: the operations of the definition, in its order.
use Rattle.std.proofs.Common.{◌≡◌, false, ℤ, pos, refl, to_z-of_z, w32, SFits}
use lib.Ieee.{Float, fin, binary64, of_int, of_bits}
use Rattle.leaves.specs.Numbers.{◌⊕◌, ◌⊖◌, ◌⊗◌, ◌⊘◌, count, one, two}
use Rattle.leaves.specs.Exp.{H, L}
use Rattle.leaves.specs.Log.{series, ln_of}
use Rattle.leaves.proofs.Ints.{read_back}
use Rattle.leaves.proofs.logarithm.ln_of.Goals as goal

-- the code's 25.0
literal : count 25 ≡ fin false 25 (pos 0)
unfolding of_int
literal = refl

answer : (m : Float) (e : ℤ) → SFits w32 e → (s q : Float) → s ≡ (m ⊖ one) ⊘ (m ⊕ one) → q ≡ series (s ⊗ s) 12 (one ⊘ fin false 25 (pos 0))
    → of_int binary64 (read_back e) ⊗ L ⊕ two ⊗ s ⊗ q ⊕ of_int binary64 (read_back e) ⊗ H ≡ ln_of m e
unfolding ln_of
answer m e fe s q is-s is-q = rw (is-q, is-s, literal, to_z-of_z fe)

pub returns : goal.returns
unfolding of_bits
returns c = let s = c in answer s.args.m s.args.e s.ranges.e _ s.series-q.result refl s.series-q.ensures
