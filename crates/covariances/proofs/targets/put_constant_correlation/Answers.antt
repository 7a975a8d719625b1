-- `covariances::targets::put_constant_correlation` meets its contract. The invariant: the rows passed are the target's.
use Rattle.std.proofs.Common.{◌≡◌, ℕ, ◌<◌, cond, eqb, List, sym, refl, ◌∙◌, arith, rules}
use lib.Ieee.{Float}
use Rattle.leaves.specs.Numbers.{◌⊗◌}
use Rattle.leaves.specs.Loops.{tab, nth}
use Rattle.leaves.proofs.Loops.{tab_ext}
use Rattle.leaves.proofs.Lists.{nth_stored, tab_long}
use Rattle.matrix.specs.Matrix.{Matrix, at}
use Rattle.matrix.proofs.ByRows.{passed_none, passed_all, row_long, passed_row}
use Rattle.matrix.proofs.OfStored.{rows_long}
use Rattle.rules.specs.Sample.{volatility}
use Rattle.rules.specs.LedoitWolf.{average_correlation, constant_correlation}
use Rattle.covariances.proofs.targets.put_constant_correlation.Goals as goal

-- a row, by the numbers that the code has
row_is : (n i m : ℕ) (s : Matrix) {r v : Float} {volatilities ys : List Float} → i < n → m ≡ n → r ≡ average_correlation n s → v ≡ s i i → volatilities ≡ tab n (volatility s)
    → ys ≡ tab m (λ j. cond (eqb i j) v (r ⊗ nth volatilities i ⊗ nth volatilities j)) → ys ≡ tab n (constant_correlation n s i)
unfolding constant_correlation
row_is n i m s {r} {v} {volatilities} hi em er ev ed e =
    e ∙ (λ t. tab (em t) (λ j. cond (eqb i j) (ev t) (er t ⊗ nth volatilities i ⊗ nth volatilities j)))
    ∙ tab_ext _ (constant_correlation n s i) n
    (λ j hj t. cond (eqb i j) (s i i) (average_correlation n s ⊗ nth_stored n (volatility s) ed i hi t ⊗ nth_stored n (volatility s) ed j hj t))

pub loop-i-init : goal.loop-i-init
loop-i-init c = (search rules, passed_none _ _ _ c.requires.3)

pub put_row-requires : goal.put_row-requires
put_row-requires c =
    let i = c.loop-i in
    let p = c.requires in
    let long = row_long _ _ i.out i.invariant.0 c.loop-i-test.true in
    (omega arith, tab_long _ _ _ p.2 ∙ sym long)

pub loop-i-preserved : goal.loop-i-preserved
loop-i-preserved c =
    let t = c in
    let i = t.loop-i in
    let s = t in
    let a = s.args in
    let below = t.loop-i-test.true in
    let long = row_long _ _ i.out i.invariant.0 below in
    let here = row_is a.n i.i _ (at a.s.now a.n) below long s.requires.1 refl s.requires.2 c.put_row.ensures in
    let e = passed_row _ _ a.out.now _ _ _ i.invariant.1 below here in
    (rows_long _ _ _ e, e)

pub returns : goal.returns
returns c = passed_all _ _ c.args.out.now _ _ c.loop-i-test.false c.loop-i.invariant.1
