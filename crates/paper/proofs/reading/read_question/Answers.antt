-- `paper::reading::read_question` meets its contract: the file is read, the slices are looked at, and then they are filled.
use mathlib.Core.Path.{◌≡◌}
use native.Mathlib.Omega.{arith}
use Rattle.std.specs.Prelude.{Some, None}
use Rattle.std.proofs.lemmas.Result.{err_from_is_err_and}
use Rattle.paper.specs.declared.reading.ReadError.TheVariants.{Malformed}
use Rattle.paper.proofs.Readings.{room_is, answer_malformed, answer_short_returns, answer_short_given, answer_found}
use Rattle.paper.proofs.reading.read_question.Goals as goal

pub returns-in_err-outline : goal.returns-in_err-outline
returns-in_err-outline c =
    let none : c.read.result ≡ None = grind arith in
    let why : c.in_err-outline.field-0.0 ≡ Malformed = grind arith in
    let p = err_from_is_err_and c.from_residual.result c.from_residual.ensures.1 in
    rw (p.1, p.2, why) (answer_malformed _ _ _ _ _ (rw none at c.read.ensures))

pub returns-then-returns-count : goal.returns-then-returns-count
returns-then-returns-count c =
    let found : c.read.result ≡ Some c.in_ok-outline.outline = grind arith in
    answer_short_returns _ _ _ _ _ _ (rw found at c.read.ensures) (rw c.count.ensures at c.if-returns-count.true)

pub returns-then-given-count : goal.returns-then-given-count
returns-then-given-count c =
    let found : c.read.result ≡ Some c.in_ok-outline.outline = grind arith in
    answer_short_given _ _ _ _ _ _ (rw found at c.read.ensures) (rw c.count.ensures at c.if-returns-count.false) (rw c.count-2.ensures at c.if-given-count.true)

pub copy_kind-requires : goal.copy_kind-requires
copy_kind-requires c =
    let found : c.read.result ≡ Some c.in_ok-outline.outline = grind arith in
    (room_is _ _ _ _ (rw found at c.read.ensures), rw c.count.ensures at c.if-returns-count.false)

pub copy_kind-requires-2 : goal.copy_kind-requires-2
copy_kind-requires-2 c =
    let found : c.read.result ≡ Some c.in_ok-outline.outline = grind arith in
    (room_is _ _ _ _ (rw found at c.read.ensures), rw c.count-2.ensures at c.if-given-count.false)

pub returns : goal.returns
returns c =
    let found : c.read.result ≡ Some c.in_ok-outline.outline = grind arith in
    answer_found _ _ _ _ _ _ (rw found at c.read.ensures) (rw c.count.ensures at c.if-returns-count.false) (rw c.count-2.ensures at c.if-given-count.false)
    _ _ _ c.question_in.ensures c.copy_kind.ensures c.copy_kind-2.ensures
