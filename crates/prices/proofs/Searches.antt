-- A search through a matrix, row by row, that refuses at the first entry where a test holds: what it answers there, and at the end. Assumes nothing.
use mathlib.Core.Path.{◌≡◌, ap}
use mathlib.Core.Bool.{Bool, true}
use mathlib.Core.Option.{Option, none}
use Prim.Native.Nat.{ℕ, ◌*◌, ◌/◌, ◌%◌, ◌≤◌, ◌<◌}
use Rattle.leaves.specs.Loops.{first_to}
use Rattle.matrix.specs.Matrix.{first_entry}
use Rattle.matrix.proofs.First.{entry_at_cell, entry_nowhere}
use Rattle.rules.specs.Refusals.{Check, passes, refuses, when_some}
use Rattle.rules.specs.declared.Refusal.{Refusal}

module _ (test : ℕ → ℕ → Bool) (m n k : ℕ) (refusal : ℕ → ℕ → Refusal) (before : first_to k (λ j. test (j / n) (j % n)) ≡ none) where
  abbrev answer : Option (ℕ × ℕ) → Check
  answer found = when_some found (λ p. refusal p.0 p.1)

  pub refused_at : test (k / n) (k % n) ≡ true → k < m * n → refuses (refusal (k / n) (k % n)) ≡ answer (first_entry m n test)
  refused_at t h = ap answer (entry_at_cell test m n k before t h)

  pub refused_nowhere : k ≤ m * n → m * n ≤ k → passes ≡ answer (first_entry m n test)
  refused_nowhere h l = ap answer (entry_nowhere test m n k before h l)
