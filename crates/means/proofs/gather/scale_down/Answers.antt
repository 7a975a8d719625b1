-- `means::gather::scale_down` meets its contract. The invariant: every number passed is in its unit, over 2^e.
use Rattle.std.proofs.Common.{ℤ, ◌-ℤ◌, neg_ℤ, sym, refl, ap, ◌∙◌, arith}
use lib.Ieee.{nan}
use Rattle.leaves.specs.Scaling.{pow2_scaled}
use Rattle.leaves.proofs.Invariants.{filled_here, filled_more, filled_whole, filled_none}
use Rattle.rules.specs.BayesStein.{gathered, exponent_at}
use Rattle.tables.proofs.Exponents.{read, both_read}
use Rattle.means.proofs.gather.scale_down.Goals as goal

pub loop-i-init : goal.loop-i-init
loop-i-init c = filled_none _ _ _

pub loop-i-preserved : goal.loop-i-preserved
loop-i-preserved c =
    let s = c in
    let l = c.loop-i in
    let x = exponent_at s.args.exponents.now l.i in
    let e = s.args.e in
    let k = both_read x e (omega (arith, s.requires.1 l.i (omega arith))) ∙ ap (λ (z : ℤ). neg_ℤ x -ℤ z) (sym (read e (omega arith))) in
    filled_more l.invariant (omega arith) (omega arith) (c.pow2_scaled.ensures ∙ (λ t. pow2_scaled (filled_here nan l.invariant (omega arith) (omega arith) t) (k t)))

pub returns : goal.returns
unfolding gathered
returns c = rw (read c.args.e (omega arith)) at (filled_whole c.loop-i.invariant (omega arith) refl)
