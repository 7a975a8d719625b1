-- What only the contracts of inner functions cite: what the code's checks answer, as the order of refusals has it. Definitions only.
use Rattle.std.specs.Prelude.{ℕ, Result, Ok, Err, ⊤}
use Rattle.matrix.specs.Matrix.{Matrix}
use Rattle.matrix.specs.Jacobi.{Decomposition}
use Rattle.rules.specs.Refusals as Refusals
use Rattle.rules.specs.Refusals.{passes, refuses, first}
use Rattle.rules.specs.Order.{by_values}
use Rattle.rules.specs.declared.Refusal.{Refusal}

abbrev pub checked : Result ⊤ Refusal → Refusals.Check
checked (Ok u) = passes
checked (Err c) = refuses c

-- the sweeps and rotations made, where nothing refuses
abbrev pub examined : Refusals.Check → Decomposition → Result (ℕ × ℕ) Refusal
examined passes d = Ok (d.sweeps, d.rotations)
examined (refuses c) d = Err c

abbrev pub judged : ℕ → Matrix → Decomposition → Result (ℕ × ℕ) Refusal
judged n a d = examined (first (by_values n a d)) d
