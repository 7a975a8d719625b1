-- `tables::tables::add_terms` meets its contract: each arm adds what `joined` says of its case.
use Rattle.tables.specs.Rows.{joined}
use Rattle.tables.proofs.tables.add_terms.Goals as goal

pub returns-in-Product : goal.returns-in-Product
unfolding joined
returns-in-Product g c = rw c.in-Product.is c.add_products.ensures

pub returns-in-Variation : goal.returns-in-Variation
unfolding joined
returns-in-Variation g c = rw c.in-Variation.is c.add_squares.ensures

pub returns-in-Covariation : goal.returns-in-Covariation
unfolding joined
returns-in-Covariation g c = rw c.in-Covariation.is c.add_products-in-Covariation.ensures
