-- `means::gather::common_exponent` meets its contract. The invariant: the largest exponent of the numbers passed, and its size.
use Rattle.std.proofs.Common.{◌≡◌, ℕ, ◌<◌, ◌≤◌, List, length, ℤ, pos, nat_abs, refl, ap, ◌∙◌, arith}
use Rattle.std.specs.Prelude.{Option as Optional, Some, None}
use Rattle.std.specs.Option.{unwrap_or}
use mathlib.Core.Option.{none}
use Rattle.leaves.proofs.Ints.{read_back}
use Rattle.leaves.proofs.Invariants.{loop_turn, loop_end, loop_start}
use Rattle.rules.specs.BayesStein.{or_zero, common_exponent, exponent_at}
use Rattle.tables.specs.Exponents.{Exponents, two_exponents}
use Rattle.tables.proofs.Exponents.{read}
use Rattle.means.specs.Gather.{largest_of}
use Rattle.means.proofs.gather.common_exponent.Goals as goal
use Rattle.means.proofs.gather.common_exponent.Invariants.{step}

or_nothing : (found : Optional ℤ) → unwrap_or found (pos 0) ≡ or_zero (largest_of found)
or_nothing None = refl
or_nothing (Some k) = refl

-- an exponent, as the machine reads it
reads : (exponents : List ℤ) → Exponents exponents → (i : ℕ) → i < length exponents → read_back (exponent_at exponents i) ≡ exponent_at exponents i
reads exponents h i l = read (exponent_at exponents i) (omega (arith, h i l))

pub loop-i-init : goal.loop-i-init
loop-i-init c = (loop_start _ _, omega arith)

pub loop-i-preserved : goal.loop-i-preserved
loop-i-preserved c =
    let s = c in
    let l = c.loop-i in
    (loop_turn _ _ _ _ _ l.invariant.0 (rw (reads s.args.exponents.now s.requires.1 l.i (omega arith)) at c.with_exponent-largest.ensures.0), c.with_exponent-largest.ensures.1)

pub returns : goal.returns
unfolding common_exponent
returns c =
    let o = c.unwrap_or in
    let l = c.loop-i in
    let a = c.args in
    let e = o.ensures ∙ or_nothing l.largest in
    let h : nat_abs o.result ≤ two_exponents = rw e l.invariant.1 in
    rw (read o.result (omega arith)) (e ∙ ap or_zero (loop_end (step a.xs.now a.exponents.now) l.i (length a.xs.now) none (largest_of l.largest) l.invariant.0 (omega arith)), h)
