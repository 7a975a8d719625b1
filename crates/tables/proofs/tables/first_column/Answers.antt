-- `tables::tables::first_column` meets its contract: each arm returns what `first_column` says of its case.
use Rattle.tables.specs.Rows as Rows
use Rattle.tables.proofs.tables.first_column.Goals as goal

pub returns-in-Product : goal.returns-in-Product
unfolding Rows.first_column
returns-in-Product c = rw c.in-Product.is c.aligned.ensures

pub returns-in-Variation : goal.returns-in-Variation
unfolding Rows.first_column
returns-in-Variation c = rw c.in-Variation.is c.aligned-in-Variation.ensures

pub returns-in-Covariation : goal.returns-in-Covariation
unfolding Rows.first_column
returns-in-Covariation c = rw c.in-Covariation.is
