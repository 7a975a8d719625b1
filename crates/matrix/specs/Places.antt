-- What only the contracts of inner functions cite: what a search through a matrix answers, as the definitions have it. Definitions only.
use Rattle.std.specs.Prelude.{Option, Some, None}
use Rattle.std.proofs.Math.Option as Math
use Rattle.std.proofs.Math.Option.{some, none}

abbrev pub placed : {A : Type 0} → Option A → Math.Option A
placed (Some a) = some a
placed None = none
