-- `tables::columns::fold` meets its contract. The invariants: each column is folded over the periods passed, and the columns passed over this one too.
use Rattle.std.proofs.Common.{◌≡◌, ℕ, List, length, take, sym, refl, ap, ◌∙◌, arith}
use lib.Ieee.{Float, nan, of_bits}
use lib.Seq.{get_or-take}
use Rattle.leaves.specs.Loops.{tab, nth}
use Rattle.leaves.proofs.Loops.{tab_ext}
use Rattle.leaves.proofs.Invariants.{at_end, filled_here, filled_more, filled_whole, filled_none}
use Rattle.leaves.proofs.Lists.{nth_stored}
use Rattle.tables.specs.Rows.{matrix_of}
use Rattle.tables.proofs.OverPeriods.{after, after_none, after_more}
use Rattle.tables.proofs.columns.fold.Goals as goal
use Rattle.tables.proofs.columns.fold.Invariants.{step}

-- the row that is read is the period's
row_read : (n : ℕ) (h : Float → Float → Float) (out d : List Float) (y : ℕ → Float) → take n d ≡ tab n y → tab n (λ k. h (nth out k) (nth d k)) ≡ tab n (λ k. h (nth out k) (y k))
row_read n h out d y e = tab_ext _ _ n (λ k l. ap (h (nth out k)) (sym (get_or-take n d k nan l) ∙ nth_stored n y e k l))

pub loop-t-init : goal.loop-t-init
unfolding of_bits
loop-t-init g c h p = after_none _ _ _ _ c.requires.1 c.fill.ensures

pub loop-k-init : goal.loop-k-init
loop-k-init g c h p = filled_none _ _ _

pub loop-k-preserved : goal.loop-k-preserved
loop-k-preserved g c h p =
    let inv = c.loop-k.invariant h p in
    let d = c.form.new.out in
    let old = c.loop-t.out in
    filled_more {f = λ k. h (nth old k) (nth d k)} inv (omega arith) (omega arith) (p _ _ _ c.f.ensures ∙ ap (λ (v : Float). h v (nth d c.loop-k.k)) (filled_here {f = λ k. h (nth old k) (nth d k)} nan inv (omega arith) (omega arith)))

pub loop-t-preserved : goal.loop-t-preserved
loop-t-preserved g c h p =
    let z = c.args.z.now in
    let n = z.returns.assets in
    let d = c.form.new.out in
    let old = c.loop-t.out in
    let long : length old ≡ n = omega arith in
    after_more n (step z h) _ _ _ (c.loop-t.invariant h p)
    (filled_whole {f = λ k. h (nth old k) (nth d k)} (c.loop-k.invariant h p) (omega arith) refl ∙ ap (λ (m : ℕ). tab m (λ k. h (nth old k) (nth d k))) long ∙ row_read n h old d (matrix_of z c.loop-t.t) c.form.ensures)

pub returns : goal.returns
returns g c h p = at_end (after _ (step c.args.z.now h)) _ _ _ (c.loop-t.invariant h p) (omega arith) (omega arith)
