-- `matrix::tables::identity_entry` meets its contract: each arm returns what `cond` picks at the arm's test.
use lib.Ieee.{of_bits}
use borrow.Author.Tests.{eq-eqb, ne_eqb}
use Rattle.matrix.proofs.tables.identity_entry.Goals as goal

pub returns-then-i-j : goal.returns-then-i-j
unfolding of_bits
returns-then-i-j c = rw (eq-eqb _ _ c.if-i-j.true)

pub returns-else-i-j : goal.returns-else-i-j
unfolding of_bits
returns-else-i-j c = rw (ne_eqb _ _ c.if-i-j.false)
