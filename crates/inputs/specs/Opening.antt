-- What only the contracts of inner functions cite: the refusals of a table's shape, and the room that an answer needs (document 01, "Causes", numbers 1 to 4). Definitions only.
use Rattle.std.specs.Prelude.{ℕ, ◌*◌, not, ◌||◌, List, [], ◌∷◌, eqb, ltb}
use Rattle.matrix.specs.Limits.{max_side}
use Rattle.rules.specs.Refusals.{Check, when}
use Rattle.rules.specs.declared.Refusal.TheVariants.{NoAssets, TooLarge, TooFewPeriods, WrongLength}
use Rattle.inputs.specs.declared.shapes.AnswerShape.{AnswerShape}
use Rattle.inputs.specs.declared.shapes.AnswerShape.TheVariants.{Table, Vector, Nothing}

-- 1 to 4, by the length of a table of `rows` rows with n numbers, and the fewest and the most rows
abbrev pub by_table : ℕ → ℕ → ℕ → ℕ → ℕ → List Check
by_table length n rows least most =
    when (eqb n 0) NoAssets ∷
    when (ltb max_side n || ltb most rows) TooLarge ∷
    when (ltb rows least) (TooFewPeriods rows) ∷
    when (not (eqb length (rows * n))) WrongLength ∷
    []

-- the numbers that an answer fills
abbrev pub needed : AnswerShape → ℕ → ℕ
needed Table n = n * n
needed Vector n = n
needed Nothing n = 0
