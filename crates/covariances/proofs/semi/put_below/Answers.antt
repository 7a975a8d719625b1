-- `covariances::semi::put_below` meets its contract: the rows that are formed are the shortfalls.
use Rattle.tables.specs.Rows.{return_at}
use Rattle.covariances.proofs.Grams.{below_over}
use Rattle.covariances.proofs.semi.put_below.Goals as goal

pub returns : goal.returns
returns c =
    let g = c.gram in
    let a = c.args in
    let r = a.r.now in
    λ f e. below_over r.periods r.assets a.degrees (return_at r) f c.nearest_u64_to_f64.ensures e g.ensures c.divide.ensures
