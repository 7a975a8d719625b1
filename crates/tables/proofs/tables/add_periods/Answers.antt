-- `tables::tables::add_periods` meets its contract: the rows that are added are the periods'. The invariant: those of the periods passed are formed.
use Rattle.std.proofs.Common.{◌≡◌, ℕ, ◌+◌, ◌<◌, ◌≤◌, List, [], length, take, set, sym, ◌∙◌, subst, ⊎_elim, arith, length-set, get_or-set_other, get_or-set_same}
use lib.Seq.{get_or-take}
use lib.Ieee.{Float, nan}
use Rattle.leaves.specs.Loops.{tab, nth}
use Rattle.leaves.proofs.Whole.{le_or_lt}
use Rattle.leaves.proofs.Lists.{nth_stored}
use Rattle.matrix.specs.Matrix.{Matrix, at}
use Rattle.tables.specs.Rows.{stored}
use Rattle.tables.proofs.Sums.{periods_added}
use Rattle.tables.proofs.tables.add_periods.Goals as goal

-- a row more
row_more : (j n : ℕ) (d : List (List Float)) (row : List Float) (y : Matrix) → j < length d → take n row ≡ tab n (y j) → ((i : ℕ) → i < j → (k : ℕ) → k < n → stored d i k ≡ y i k) → (i : ℕ) → i < j + 1 → (k : ℕ) → k < n → stored (set d j row) i k ≡ y i k
row_more j n d row y h e before i hi k hk =
    ⊎_elim
    (λ (l : j ≤ i). let same : j ≡ i = omega arith in subst (λ (i : ℕ). stored (set d j row) i k ≡ y i k) same ((λ t. nth (get_or-set_same d j row [] h t) k) ∙ sym (get_or-take n row k nan hk) ∙ nth_stored n (y j) e k hk))
    (λ (l : i < j). (λ t. nth (get_or-set_other d j i row [] (λ q. absurd (omega arith)) t) k) ∙ before i l k hk)
    (le_or_lt j i)

pub loop-j-preserved : goal.loop-j-preserved
loop-j-preserved g c =
    let i = c.loop-j.invariant in
    let z = c.args.z.now in
    (length-set c.loop-j.d c.loop-j.j _ ∙ i.0, row_more c.loop-j.j z.returns.assets c.loop-j.d _ _ (omega arith) c.form.ensures i.1)

pub returns : goal.returns
returns g c =
    let a = c.args in
    let r = a.z.now.returns in
    periods_added g.row.K a.term (at a.s.now r.assets) r.assets _ _ (λ j hj. c.loop-j.invariant.1 j (omega arith)) a.out.now c.add_rows.ensures
