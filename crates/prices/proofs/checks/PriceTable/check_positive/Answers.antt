-- `prices::checks::PriceTable::check_positive` meets its contract: `position` finds the first price that is not above 0.
use Rattle.std.proofs.Common.{◌≡◌, rules, true, false, Bool, ap}
use Rattle.std.proofs.lemmas.Iterator.{IsFirst-from_position, YieldsList-from_slice}
use borrow.Author.Tests.{tests}
use lib.Ieee.{Float, le, of_bits}
use Rattle.leaves.specs.Numbers.{zero⁺}
use Rattle.matrix.specs.Matrix.{at}
use Rattle.matrix.proofs.First.{at_position, at_no_position}
use Rattle.matrix.proofs.Stored.{entry_at}
use Rattle.rules.specs.Prices.{non_positive}
use Rattle.rules.specs.Refusals.{when_some}
use Rattle.rules.specs.declared.Refusal.TheVariants.{NonPositivePrice}
use Rattle.prices.proofs.checks.PriceTable.check_positive.Goals as goal

abbrev bad : Float → Bool
bad x = le x zero⁺

pub returns-in-Some : goal.returns-in-Some
unfolding non_positive of_bits
returns-in-Some c =
    let p = c.args.self.now.numbers.now in
    let n = c.args.self.now.assets in
    ap (λ q. when_some q (λ place. NonPositivePrice place.0 place.1))
    (at_position bad p (λ t i. bad (at p n t i)) c.args.self.now.rows n (λ k. ap bad (entry_at p n k)) c.args.self.now.whole c.in-Some.is
    (IsFirst-from_position _ _ _ (λ x. bad x ≡ true) (λ x. bad x ≡ false) c.position.ensures.ran (YieldsList-from_slice p cc) (λ x q k. search (rules, tests)) (λ x q k. search (rules, tests))))

pub returns-in-None : goal.returns-in-None
unfolding non_positive of_bits
returns-in-None c =
    let p = c.args.self.now.numbers.now in
    let n = c.args.self.now.assets in
    ap (λ q. when_some q (λ place. NonPositivePrice place.0 place.1))
    (at_no_position bad p (λ t i. bad (at p n t i)) c.args.self.now.rows n (λ k. ap bad (entry_at p n k)) c.args.self.now.whole c.in-None.is
    (IsFirst-from_position _ _ _ (λ x. bad x ≡ true) (λ x. bad x ≡ false) c.position.ensures.ran (YieldsList-from_slice p cc) (λ x q k. search (rules, tests)) (λ x q k. search (rules, tests))))
