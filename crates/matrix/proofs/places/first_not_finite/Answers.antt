-- `matrix::places::first_not_finite` meets its contract: `position` finds the first number that is not finite.
use Rattle.std.proofs.Common.{◌≡◌, ℕ, rules, true, false, Bool, not, List, ap, ◌∙◌}
use Rattle.std.proofs.lemmas.Iterator.{IsFirst-from_position, YieldsList-from_slice}
use borrow.Author.Tests.{tests}
use lib.Ieee.{Float}
use Rattle.leaves.specs.Numbers.{is_finite}
use Rattle.matrix.specs.Matrix.{at}
use Rattle.matrix.specs.Places.{placed}
use Rattle.matrix.proofs.First.{at_position, at_no_position}
use Rattle.matrix.proofs.Stored.{entry_at}
use Rattle.matrix.proofs.places.first_not_finite.Goals as goal

abbrev bad : Float → Bool
bad x = not (is_finite x)

pub returns-in_err-k : goal.returns-in_err-k
returns-in_err-k c =
    let a = c.args in
    ap placed c.from_residual.ensures ∙ at_no_position bad a.a.now (λ i j. bad (at a.a.now a.n i j)) a.m a.n (λ k. ap bad (entry_at a.a.now a.n k)) c.requires c.in_err-k.was
    (IsFirst-from_position _ _ _ (λ x. bad x ≡ true) (λ x. bad x ≡ false) c.position.ensures.ran (YieldsList-from_slice a.a.now cc) (λ x q k. search (rules, tests)) (λ x q k. search (rules, tests)))

pub returns : goal.returns
returns c =
    let a = c.args in
    at_position bad a.a.now (λ i j. bad (at a.a.now a.n i j)) a.m a.n (λ k. ap bad (entry_at a.a.now a.n k)) c.requires c.in_ok-k.was
    (IsFirst-from_position _ _ _ (λ x. bad x ≡ true) (λ x. bad x ≡ false) c.position.ensures.ran (YieldsList-from_slice a.a.now cc) (λ x q k. search (rules, tests)) (λ x q k. search (rules, tests)))
