-- `tables::scales::put_exponents` meets its contract. The invariant: the numbers passed have theirs, each of an f64's size.
use Rattle.std.proofs.Common.{◌≡◌, ℕ, ◌+◌, ◌<◌, ◌≤◌, List, ℤ, pos, nat_abs, sym, refl, ◌∙◌, subst, ⊎_elim, arith}
use Rattle.leaves.specs.Loops.{tab, nth}
use Rattle.leaves.specs.Scaling.{binary_exponent}
use Rattle.leaves.proofs.Invariants.{filled_more, filled_whole, filled_none}
use Rattle.leaves.proofs.Whole.{le_or_lt}
use Rattle.leaves.proofs.Ints.{back_i32}
use Rattle.leaves.proofs.Lists.{get_or_stored, tab_long}
use Rattle.tables.specs.Exponents.{max_exponent, Exponents}
use Rattle.tables.proofs.scales.put_exponents.Goals as goal
use Rattle.tables.proofs.scales.put_exponents.Invariants.{Sized}

sized-more : (f : ℕ → ℤ) (k : ℕ) → Sized f k → nat_abs (f k) ≤ max_exponent → Sized f (k + 1)
sized-more f k h e i l =
    ⊎_elim
    (λ (g : k ≤ i). let same : k ≡ i = omega arith in subst (λ (j : ℕ). nat_abs (f j) ≤ max_exponent) same e)
    (λ (g : i < k). h i g)
    (le_or_lt k i)

sized-all : (f : ℕ → ℤ) (n k : ℕ) (out : List ℤ) → out ≡ tab n f → n ≤ k → Sized f k → Exponents out
sized-all f n k out e h s i l =
    let b : i < n = omega (arith, tab_long n f out e) in
    subst (λ (z : ℤ). nat_abs z ≤ max_exponent) (sym (get_or_stored n f (pos 0) e i b)) (s i (omega arith))

pub loop-k-init : goal.loop-k-init
loop-k-init c = (filled_none _ _ _, λ i h. absurd (omega arith))

pub loop-k-preserved : goal.loop-k-preserved
loop-k-preserved c =
    let l = c.loop-k in
    let e = c.exponent in (
      filled_more l.invariant.0 (omega arith) (omega arith) (back_i32 e.result e.type_inv ∙ e.ensures.0),
      sized-more (λ k. binary_exponent (nth c.args.xs.now k)) _ l.invariant.1 (subst (λ (z : ℤ). nat_abs z ≤ max_exponent) e.ensures.0 e.ensures.1),
    )

pub returns : goal.returns
returns c =
    let i = c.loop-k.invariant in
    let w = filled_whole i.0 (omega arith) refl in
    (w, sized-all (λ k. binary_exponent (nth c.args.xs.now k)) _ _ _ w (omega arith) i.1)
