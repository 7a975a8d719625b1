-- `tables::powers::put_units` meets its contract. The invariant: the columns passed have their factors.
use Rattle.std.proofs.Common.{arith, rules}
use Rattle.rules.specs.BayesStein.{exponent_at}
use Rattle.tables.proofs.Exponents.{neg_read}
use Rattle.tables.proofs.Factors.{units_more}
use Rattle.tables.proofs.powers.put_units.Goals as goal

pub loop-i-preserved : goal.loop-i-preserved
loop-i-preserved c =
    let f = c.factors-f in
    let l = c.loop-i in
    let s = c in
    let es = s.args.exponents.now in
    let e = exponent_at es l.i in
    let h = s.requires.1 l.i (omega arith) in (
      omega arith,
      search rules,
      units_more _ l.i es l.out _ _ (omega arith) l.invariant.1 l.invariant.2 (rw (neg_read e (omega arith)) at f.ensures),
    )
