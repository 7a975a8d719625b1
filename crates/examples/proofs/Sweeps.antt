-- Document 01, "How tight", c: a decomposition that turned in its first sweep and only counted the later ones is another one. Of a matrix of side 3, by
-- computation: the first sweep makes three rotations and does not end it, and the second one makes three more and moves the vectors and the values.
use Prim.Native.Nat.{ℕ}
use mathlib.Core.Path.{◌≡◌, refl}
use mathlib.Core.Bool.{false}
use mathlib.Core.List.{List, [], ◌∷◌}
use lib.Ieee.{Float, eq}
use Rattle.leaves.specs.Numbers.{count, one, two}
use Rattle.leaves.specs.Loops.{nth}
use Rattle.matrix.specs.Matrix.{at}
use Rattle.matrix.specs.Jacobi.{Decomposition, decompose}
use Rattle.examples.proofs.Evaluated.{evaluated}

-- rows (4,1,2), (1,3,1), (2,1,5)
abbrev entries : List Float
entries = count 4 ∷ one ∷ two ∷ one ∷ count 3 ∷ one ∷ two ∷ one ∷ count 5 ∷ []

abbrev within : ℕ → Decomposition
within limit = decompose limit 3 (at entries 3)

pub record SecondSweepTurns : Type 0 where
  pub first_counts : ((within 1).found ≡ false) × ((within 1).sweeps ≡ 1) × ((within 1).rotations ≡ 3)
  pub second_counts : ((within 2).found ≡ false) × ((within 2).sweeps ≡ 2) × ((within 2).rotations ≡ 6)
  pub vectors_move : eq (nth (within 1).vectors 0) (nth (within 2).vectors 0) ≡ false
  pub values_move : eq (nth (within 1).values 0) (nth (within 2).values 0) ≡ false

pub second_sweep_turns : SecondSweepTurns
unfolding evaluated
second_sweep_turns = record {
  first_counts = (refl, refl, refl);
  second_counts = (refl, refl, refl);
  vectors_move = refl;
  values_move = refl;
}
