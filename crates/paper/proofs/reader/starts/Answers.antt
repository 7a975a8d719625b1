-- `paper::reader::starts` meets its contract, test by test.
use mathlib.Core.Path.{◌∙◌}
use borrow.Author.Tests.{le-ltb}
use Rattle.paper.proofs.Taking.{starts_yes, starts_no}
use Rattle.paper.proofs.reader.starts.Goals as goal

pub returns-then-k-file : goal.returns-then-k-file
returns-then-k-file c = let a = c.args in starts_yes a.k a.at a.file.now c.if-k-file.true

pub returns-else-k-file : goal.returns-else-k-file
returns-else-k-file c = let a = c.args in le-ltb _ _ c.if-k-file.false ∙ starts_no a.k a.at a.file.now c.if-k-file.false
