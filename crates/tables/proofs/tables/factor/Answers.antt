-- `tables::tables::factor` meets its contract: each arm returns what `factor` says of its case.
use Rattle.tables.specs.Rows as Rows
use Rattle.tables.proofs.tables.factor.Goals as goal

pub returns-in-Product : goal.returns-in-Product
unfolding Rows.factor
returns-in-Product c = rw c.in-Product.is

pub returns-in-Variation : goal.returns-in-Variation
unfolding Rows.factor
returns-in-Variation c = rw c.in-Variation.is

pub returns-in-Covariation : goal.returns-in-Covariation
unfolding Rows.factor
returns-in-Covariation c = rw c.in-Covariation.is
