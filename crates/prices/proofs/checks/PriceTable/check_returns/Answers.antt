-- `prices::checks::PriceTable::check_returns` meets its contract. The invariant: every return passed is finite.
use mathlib.Core.Path.{◌≡◌, sym, ap, ◌∙◌}
use mathlib.Core.Bool.{Bool, not}
use mathlib.Core.List.{List}
use Prim.Native.Nat.{ℕ, ◌-◌, ◌/◌, ◌%◌}
use native.Mathlib.Omega.{arith}
use lib.Ieee.{Float}
use Rattle.leaves.specs.Numbers.{is_finite}
use Rattle.leaves.proofs.Search.{first_none, first_more}
use Rattle.rules.specs.Order.{not_finite}
use Rattle.rules.specs.declared.Refusal.TheVariants.{NotFinite}
use Rattle.prices.specs.Stored.{return_at}
use Rattle.prices.proofs.Stored.{return_entry, but_one_fits}
use Rattle.prices.proofs.Searches.{refused_at, refused_nowhere}
use Rattle.prices.proofs.checks.PriceTable.check_returns.Goals as goal
use Rattle.prices.proofs.checks.PriceTable.check_returns.Invariants.{bad}

-- the test at return k, by what the code found
bad-at : (p : List Float) (n k : ℕ) {x : Float} {r b : Bool} → x ≡ return_at p n k → r ≡ is_finite x → not r ≡ b → bad p n (k / n) (k % n) ≡ b
bad-at p n k is e h = ap (λ (x : Float). not (is_finite x)) (return_entry p n k ∙ sym is) ∙ ap not (sym e) ∙ h

pub loop-k-init : goal.loop-k-init
loop-k-init c = (omega arith, (but_one_fits _ _ _ c.args.self.now.some c.args.self.now.whole).1, first_none _)

pub returns-then-not-is_finite : goal.returns-then-not-is_finite
unfolding not_finite
returns-then-not-is_finite c =
    let l = c in
    let a = l.args.self.now in
    refused_at (bad a.numbers.now a.assets) (a.rows - 1) a.assets l.loop-k.k NotFinite l.loop-k.invariant.2
    (bad-at a.numbers.now a.assets l.loop-k.k c.return_at.ensures c.is_finite.ensures (ap not c.if-not-is_finite.true))
    (omega (arith, c.loop-k-test.true, l.loop-k.invariant.1))

pub loop-k-preserved : goal.loop-k-preserved
loop-k-preserved c =
    let l = c in
    let a = l.args.self.now in (
      omega (arith, c.loop-k-test.true),
      l.loop-k.invariant.1,
      first_more _ _ l.loop-k.invariant.2 (bad-at a.numbers.now a.assets l.loop-k.k c.return_at.ensures c.is_finite.ensures (ap not c.if-not-is_finite.false)),
    )

pub returns : goal.returns
unfolding not_finite
returns c =
    let l = c in
    let a = l.args.self.now in
    refused_nowhere (bad a.numbers.now a.assets) (a.rows - 1) a.assets l.loop-k.k NotFinite l.loop-k.invariant.2
    (omega (arith, l.loop-k.invariant.0, l.loop-k.invariant.1)) (omega (arith, c.loop-k-test.false, l.loop-k.invariant.1))
