-- `means::moments::put_moments` meets its contract: the units are the powers of two.
use Rattle.std.proofs.Common.{◌∙◌}
use Rattle.rules.proofs.SameReturns.{means_same, covariance_same}
use Rattle.tables.specs.Rows.{return_at}
use Rattle.tables.proofs.Formed.{unit_scaled}
use Rattle.means.proofs.moments.put_moments.Goals as goal

pub returns : goal.returns
returns c =
    let a = c.args in
    let r = a.r.now in
    let u = c.put_units.ensures in
    let m = c.means_in_units.ensures in
    let same = unit_scaled r.assets a.exponents.now _ (return_at r) u.0 u.1 in
    (m ∙ means_same r.assets r.periods _ _ (λ t i ht. same t i), c.covariance_in_units.ensures m ∙ covariance_same r.assets r.periods _ _ (λ t i ht. same t i))
