-- `prices::checks::PriceTable::check` meets its contract: ordinary prices pass, and of others each check is made.
use Rattle.std.proofs.Common.{sym, ◌∙◌}
use Rattle.rules.proofs.Firsts.{first_alone, head_refuses, head_passes}
use Rattle.inputs.proofs.Refused.{refused}
use Rattle.prices.proofs.OrdinaryPrices.{ordinary_passes}
use Rattle.prices.proofs.checks.PriceTable.check.Goals as goal

pub returns-then-all_ordinary : goal.returns-then-all_ordinary
returns-then-all_ordinary c = let a = c.args.self.now in ordinary_passes a.numbers.now a.rows a.assets a.some a.whole (sym c.all_ordinary.ensures ∙ c.if-all_ordinary.true)

pub returns-in_err-check_finite : goal.returns-in_err-check_finite
returns-in_err-check_finite c = refused _ c.from_residual.ensures.1 (head_refuses _ c.in_err-check_finite.ensures)

pub returns-in_err-check_positive : goal.returns-in_err-check_positive
returns-in_err-check_positive c = refused _ c.from_residual-in_err-check_positive.ensures.1 (head_refuses _ c.in_err-check_positive.ensures ∙ head_passes _ c.in_ok-check_finite.ensures)

pub returns : goal.returns
returns c = c.check_returns.ensures ∙ first_alone _ ∙ head_passes _ c.in_ok-check_positive.ensures ∙ head_passes _ c.in_ok-check_finite.ensures
