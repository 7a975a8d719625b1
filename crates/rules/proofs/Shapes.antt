-- Laws of the opening's shapes and lengths, refusals 1 to 4: what holds where they pass, and what a call looks at next. Assumes nothing.
use mathlib.Core.Path.{◌≡◌, sym, ◌∙◌}
use mathlib.Core.Bool.{not, ◌||◌}
use mathlib.Mathlib.Data.Bool.Basic.{or-eq-false-eq-eq-false-and-eq-false}
use mathlib.Core.List.{List, ◌++◌}
use Prim.Native.Nat.{ℕ, ◌*◌, ◌≤◌}
use native.Mathlib.Omega.{arith}
use borrow.Author.Tests.{eq-eqb, ne_eqb, le-ltb, eqb-true, eqb-false, ltb-false, not-false}
use lib.Dec.{eqb, ltb}
use lib.ListN.{length}
use lib.Ieee.{Float}
use Rattle.matrix.specs.Limits.{max_side}
use Rattle.matrix.specs.Matrix.{at}
use Rattle.rules.specs.Refusals.{Check, passes, first}
use Rattle.rules.specs.Order.{min_periods, max_periods, opening, by_shape, by_returns}
use Rattle.rules.specs.Shapes.{Shaped}
use Rattle.rules.proofs.Passed.{first_passes}

-- by the answer k that the code has of them
pub shape_passes : (l n T m room : ℕ) {k : Check} → k ≡ passes → k ≡ first (by_shape l n T m room) → Shaped l n T × (m ≤ room)
shape_passes l n T m room pass e =
    let a = first_passes (eqb n 0) _ _ (sym e ∙ pass) in
    let b = first_passes (ltb max_side n || ltb max_periods T) _ _ a.1 in
    let c = first_passes (ltb T min_periods) _ _ b.1 in
    let d = first_passes (not (eqb l (T * n)) || ltb room m) _ _ c.1 in
    let some = eqb-false n 0 a.0 in
    let large = (or-eq-false-eq-eq-false-and-eq-false _ _).0 b.0 in
    let long = (or-eq-false-eq-eq-false-and-eq-false _ _).0 d.0 in
    ((omega arith, ltb-false _ _ large.0, ltb-false _ _ c.0, ltb-false _ _ large.1, eqb-true _ _ (not-false _ long.0)), ltb-false _ _ long.1)

-- where shapes and lengths pass, the returns are looked at next
pub opened : (r : List Float) (n T m : ℕ) (slice : List Float) (rest : List Check) → Shaped (length r) n T → m ≤ length slice
    → first (opening r n T m slice ++ rest) ≡ first (by_returns T n (at r n) ++ rest)
unfolding first opening
opened r n T m slice rest (some, small, two, few, long) fits =
    rw (opening, ne_eqb n 0 (λ e. omega arith), le-ltb max_side n small, le-ltb max_periods T few, le-ltb T min_periods two, eq-eqb (length r) (T * n) long, le-ltb (length slice) m fits)
