-- `covariances::weighted::denominator` meets its contract: what its calls ensure, put together.
use Rattle.std.proofs.Common.{◌≡◌, ℕ, ◌-◌}
use lib.Ieee.{Float, neg, of_bits}
use Rattle.leaves.specs.Numbers.{◌⊗◌, ◌⊘◌, count, two}
use Rattle.leaves.specs.Exp.{exp, exp_m1}
use Rattle.rules.specs.Weighted as Weighted
use Rattle.covariances.proofs.weighted.denominator.Goals as goal

found : (T : ℕ) (l last above below decay : Float) → last ≡ count (T - 1) → above ≡ exp_m1 (last ⊗ l) → below ≡ exp_m1 (two ⊗ l) → decay ≡ exp l
    → two ⊗ decay ⊗ neg above ⊘ neg below ≡ Weighted.denominator T l
unfolding Weighted.denominator
found T l last above below decay e a b d = rw (d, a, b, e)

pub returns : goal.returns
unfolding of_bits
returns c =
    let a = c.args in
    found a.periods a.l _ _ _ _ c.nearest_u64_to_f64-last.ensures c.exp_m1-above.ensures c.exp_m1-below.ensures c.exp.ensures
