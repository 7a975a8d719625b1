-- `tables::scales::scale_back` meets its contract. The invariant: every number passed is multiplied by its power of two.
use Rattle.std.proofs.Common.{refl, ◌∙◌, arith}
use lib.Ieee.{nan}
use Rattle.leaves.specs.Scaling.{pow2_scaled}
use Rattle.leaves.proofs.Invariants.{filled_here, filled_more, filled_whole, filled_none}
use Rattle.rules.specs.BayesStein.{exponent_at}
use Rattle.tables.proofs.Exponents.{read}
use Rattle.tables.proofs.scales.scale_back.Goals as goal

pub loop-k-init : goal.loop-k-init
loop-k-init c = filled_none _ _ _

pub loop-k-preserved : goal.loop-k-preserved
loop-k-preserved c =
    let s = c in
    let l = c.loop-k in
    filled_more l.invariant (omega arith) (omega arith) (c.pow2_scaled.ensures ∙ (λ t. pow2_scaled (filled_here nan l.invariant (omega arith) (omega arith) t) (read (exponent_at s.args.exponents.now l.k) (omega (arith, s.requires.1 l.k (omega arith))) t)))

pub returns : goal.returns
returns c = filled_whole c.loop-k.invariant (omega arith) refl
