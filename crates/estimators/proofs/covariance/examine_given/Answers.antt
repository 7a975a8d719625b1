-- `estimators::covariance::examine_given` meets its contract: the sizes are looked at first, then the numbers.
use mathlib.Core.Path.{◌≡◌, sym, ap, ◌∙◌}
use mathlib.Core.Bool.{true≢false, not}
use mathlib.Core.List.{List}
use Prim.Native.Nat.{ℕ, ◌*◌, ◌≤◌}
use native.Mathlib.Omega.{arith}
use borrow.Author.Tests.{not-true, not-false}
use lib.Ieee.{Float}
use lib.ListN.{length}
use lib.Seq.{length-take-le, take_at}
use Rattle.matrix.specs.Limits.{max_side}
use Rattle.matrix.proofs.Counts.{square_most}
use Rattle.matrix.proofs.OfStored.{rows_long}
use Rattle.matrix.proofs.Lent.{square_fits}
use Rattle.rules.proofs.Passed.{passes_not}
use Rattle.estimators.proofs.OfGiven.{sizes_pass, none_given, limit_refuses, side_refuses, sizes_fit}
use Rattle.estimators.proofs.covariance.examine_given.Goals as goal

room : (n : ℕ) (out : List Float) → n ≤ max_side → length out ≡ max_side * max_side → n * n ≤ length out
room n out h e = omega (arith, square_most h)

pub returns-then-not-is_given : goal.returns-then-not-is_given
returns-then-not-is_given c =
    let a = c.args in
    let e = sym c.is_given.ensures ∙ not-true _ (ap not c.if-not-is_given.true) in
    (none_given a.settings a.given.now a.side e, λ given pass. absurd (true≢false (sym given ∙ e)))

pub returns-in_err-bad_sweep_limit : goal.returns-in_err-bad_sweep_limit
returns-in_err-bad_sweep_limit c =
    let a = c.args in
    let e = sym c.is_given.ensures ∙ not-false _ (ap not c.if-not-is_given.false) in
    let r = limit_refuses a.settings a.given.now a.side e _ c.from_residual.ensures.1 c.in_err-bad_sweep_limit.ensures in
    (r.0, λ given pass. absurd (passes_not (sym pass ∙ r.1)))

pub returns-in_err-check_sizes : goal.returns-in_err-check_sizes
returns-in_err-check_sizes c =
    let a = c.args in
    let e = sym c.is_given.ensures ∙ not-false _ (ap not c.if-not-is_given.false) in
    let r = side_refuses a.settings a.given.now a.side e c.in_ok-bad_sweep_limit.ensures _ c.from_residual-in_err-check_sizes.ensures.1 c.in_err-check_sizes.ensures in
    (r.0, λ given pass. absurd (passes_not (sym pass ∙ r.1)))

pub overflow_mul-size : goal.overflow_mul-size
overflow_mul-size c = square_fits _ (sizes_pass _ _ _ c.in_ok-bad_sweep_limit.ensures c.in_ok-check_sizes.ensures).2

pub slice_bounds-examine-end : goal.slice_bounds-examine-end
slice_bounds-examine-end c = room _ _ (sizes_pass _ _ _ c.in_ok-bad_sweep_limit.ensures c.in_ok-check_sizes.ensures).2 c.requires

pub slice_bounds-examine-end-2 : goal.slice_bounds-examine-end-2
slice_bounds-examine-end-2 c = sym (length-take-le _ _ (room _ _ (sizes_pass _ _ _ c.in_ok-bad_sweep_limit.ensures c.in_ok-check_sizes.ensures).2 c.requires))

pub examine-requires : goal.examine-requires
examine-requires c =
    let s = sizes_pass _ _ _ c.in_ok-bad_sweep_limit.ensures c.in_ok-check_sizes.ensures in
    (s.1, s.2, s.0, s.3, length-take-le _ _ (room _ _ s.2 c.requires))

pub returns : goal.returns
returns c =
    let a = c.args in
    let e = sym c.is_given.ensures ∙ not-false _ (ap not c.if-not-is_given.false) in
    let table = c.examine.ensures.0 in
    (sizes_fit a.settings a.given.now a.side e c.in_ok-bad_sweep_limit.ensures c.in_ok-check_sizes.ensures table c.examine.ensures.1, λ given passed. take_at _ _ _ (rows_long _ _ _ table) ∙ table)
