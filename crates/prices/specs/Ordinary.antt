-- What only the contracts of inner functions cite: ordinary prices, far enough from 0 and from the largest float. Definitions only.
use Rattle.std.specs.Prelude.{Bool, true, false, not, ◌&&◌, List, length, Float}
use Rattle.std.proofs.Math.Option.{none, some}
use Rattle.std.specs.Float.Ieee.{le}
use Rattle.leaves.specs.Numbers.{float, 1e150}
use Rattle.leaves.specs.Loops.{first_to, nth}

-- 1e-150, as the nearest float
abbrev pub 1e-150 : Float
1e-150 = float 0x20CA_2FE7_6A3F_9475

unfoldable pub ordinary : Float → Bool
ordinary x = le 1e-150 x && le x 1e150

-- none is not
unfoldable pub all_ordinary : List Float → Bool
all_ordinary p = elim (first_to (length p) (λ k. not (ordinary (nth p k)))) [ none ↦ true | some k ↦ false ]
