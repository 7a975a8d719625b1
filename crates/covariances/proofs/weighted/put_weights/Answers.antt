-- `covariances::weighted::put_weights` meets its contract. The invariant: the numbers passed are the weights.
use Rattle.std.proofs.Common.{◌≡◌, ℕ, ◌-◌, ap, ◌∙◌, arith, rules}
use lib.Ieee.{Float}
use Rattle.leaves.specs.Numbers.{◌⊗◌, count}
use Rattle.leaves.specs.Exp.{exp}
use Rattle.leaves.proofs.Invariants.{filled_more, filled_whole, filled_none}
use Rattle.rules.specs.Weighted.{weights}
use Rattle.covariances.proofs.weighted.put_weights.Goals as goal

weight : (m t : ℕ) (l back x : Float) → back ≡ count (m - 1 - t) → x ≡ exp (back ⊗ l) → x ≡ exp (count (m - 1 - t) ⊗ l)
weight m t l back x b e = e ∙ ap (λ (c : Float). exp (c ⊗ l)) b

pub loop-t-init : goal.loop-t-init
loop-t-init c = filled_none _ _ _

pub loop-t-preserved : goal.loop-t-preserved
loop-t-preserved c =
    let inv = c.loop-t.invariant in
    filled_more inv (omega arith) (omega arith) (weight _ _ _ _ _ c.nearest_u64_to_f64-back.ensures c.exp.ensures)

pub returns : goal.returns
unfolding weights
returns c = filled_whole c.loop-t.invariant (omega arith) (search rules)
