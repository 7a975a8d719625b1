-- `means::bayes_stein::put_shrunk` meets its contract. The invariant: every mean passed is moved.
use Rattle.std.proofs.Common.{ℤ, refl, ap, ◌∙◌, arith}
use lib.Ieee.{Float, of_bits}
use Rattle.leaves.specs.Numbers.{◌⊕◌, ◌⊖◌, ◌⊗◌, one}
use Rattle.leaves.specs.Loops.{nth}
use Rattle.leaves.specs.Scaling.{pow2_scaled}
use Rattle.leaves.proofs.Invariants.{filled_more, filled_whole, filled_none}
use Rattle.rules.specs.BayesStein.{shrunk_mean, exponent_at}
use Rattle.tables.proofs.Exponents.{read}
use Rattle.means.proofs.bayes_stein.put_shrunk.Goals as goal

pub loop-i-init : goal.loop-i-init
loop-i-init c = filled_none _ _ _

pub loop-i-preserved : goal.loop-i-preserved
unfolding shrunk_mean of_bits
loop-i-preserved c =
    let s = c in
    let l = c.loop-i in
    let a = s.args in
    let k = read (exponent_at a.exponents.now l.i) (omega (arith, s.requires.2 l.i (omega arith))) in
    filled_more l.invariant (omega arith) (omega arith) (ap (λ (x : Float). x ⊕ a.intensity ⊗ a.target) (c.pow2_scaled.ensures ∙ ap (λ (z : ℤ). pow2_scaled ((one ⊖ a.intensity) ⊗ nth a.means.now l.i) z) k))

pub returns : goal.returns
returns c = filled_whole c.loop-i.invariant (omega arith) refl
