-- `prices::calls::returns_from_prices` meets its contract: what is refused leaves the slice alone, and what passes fills as much of it as there are returns.
use mathlib.Core.Path.{◌≡◌, refl, sym, ap, ◌∙◌}
use mathlib.Core.List.{List, ◌++◌}
use Prim.Native.Nat.{ℕ, ◌-◌, ◌*◌}
use native.Mathlib.Nat.{le_trans, sub-le, mul-le-mul}
use native.Mathlib.Omega.{arith}
use mir.Facts.{Fits-below}
use lib.Dec.{lit≤}
use lib.ListN.{length, drop}
use lib.Seq.{length-take-le}
use lib.Ieee.{Float}
use Rattle.leaves.specs.Loops.{tab}
use Rattle.matrix.specs.Matrix.{at, rows}
use Rattle.rules.specs.Refusals.{Check, passes, refuses, first}
use Rattle.rules.specs.Prices.{simple_returns, by_price_shape, by_prices, prices_order, converted, convert, returns_from_prices}
use Rattle.rules.specs.declared.Refusal.{Refusal}
use Rattle.inputs.specs.Checks.{checked}
use Rattle.inputs.proofs.Refused.{refusal}
use Rattle.prices.specs.Stored.{return_at}
use Rattle.prices.proofs.Stored.{but_one_row, returns_filled}
use Rattle.prices.proofs.Shapes.{all_pass}
use Rattle.prices.proofs.calls.returns_from_prices.Goals as goal

module _ (p : List Float) (n R : ℕ) (slice : List Float) where
  abbrev checks : Check
  checks = first (by_price_shape (length p) n R (length slice) ++ by_prices R n (at p n))

  abbrev returned : List Float
  returned = rows (R - 1) n (simple_returns (at p n))

  refuses_all : {c : Refusal} → refuses c ≡ checks → converted (refuses c) slice ≡ returns_from_prices p n R slice
  unfolding returns_from_prices convert prices_order
  refuses_all e = ap (λ (k : Check). convert k ((R - 1) * n) returned slice) e

  accepted : {written : List Float} → passes ≡ checks → written ≡ tab ((R - 1) * n) (return_at p n) → converted passes (written ++ drop ((R - 1) * n) slice) ≡ returns_from_prices p n R slice
  unfolding returns_from_prices convert prices_order
  accepted e w =
      ap (λ (l : List Float). converted passes (l ++ drop ((R - 1) * n) slice)) w ∙ ap (converted passes) (returns_filled p n (R - 1) slice)
      ∙ ap (λ (k : Check). convert k ((R - 1) * n) returned slice) e

pub returns-in_err-check : goal.returns-in_err-check
returns-in_err-check c =
    let a = c.args in
    ap (λ r. converted (checked r) a.returns.now) (refusal _ c.from_residual.ensures.1) ∙ refuses_all a.prices.now a.n a.rows a.returns.now c.in_err-check.ensures

pub overflow_sub-size : goal.overflow_sub-size
overflow_sub-size c = let s = all_pass _ _ _ _ _ refl c.in_ok-check.ensures in omega (arith, s.three)

pub overflow_mul-size : goal.overflow_mul-size
overflow_mul-size c = let s = all_pass _ _ _ _ _ refl c.in_ok-check.ensures in Fits-below tt (mul-le-mul (le_trans (sub-le _ 1) s.few) s.small)

pub slice_bounds-write_returns-end : goal.slice_bounds-write_returns-end
slice_bounds-write_returns-end c = (all_pass _ _ _ _ _ refl c.in_ok-check.ensures).fits

pub slice_bounds-write_returns-end-2 : goal.slice_bounds-write_returns-end-2
slice_bounds-write_returns-end-2 c = sym (length-take-le _ _ (all_pass _ _ _ _ _ refl c.in_ok-check.ensures).fits)

pub write_returns-requires : goal.write_returns-requires
write_returns-requires c =
    let a = c.args in
    let s = all_pass _ _ _ _ _ refl c.in_ok-check.ensures in
    omega (arith, s.long, but_one_row a.rows a.n (le_trans (lit≤ tt) s.three), length-take-le ((a.rows - 1) * a.n) a.returns.now s.fits)

pub returns : goal.returns
returns c =
    let a = c.args in
    let s = all_pass _ _ _ _ _ refl c.in_ok-check.ensures in
    accepted a.prices.now a.n a.rows a.returns.now c.in_ok-check.ensures
    (c.write_returns.ensures ∙ ap (λ (m : ℕ). tab m (return_at a.prices.now a.n)) (length-take-le ((a.rows - 1) * a.n) a.returns.now s.fits))
