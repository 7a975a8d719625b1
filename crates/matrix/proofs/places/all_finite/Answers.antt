-- `matrix::places::all_finite` meets its contract: whether `first_not_finite` found a place.
use Rattle.std.proofs.Common.{◌≡◌, ℕ, Bool, true, false, not, refl, sym, ap, ◌∙◌}
use Rattle.std.specs.Prelude.{Option, Some, None, is_some}
use Rattle.std.proofs.Math.Option as Math
use Rattle.std.proofs.Math.Option.{some, none}
use Rattle.matrix.specs.Matrix.{all_finite}
use Rattle.matrix.specs.Places.{placed}
use Rattle.matrix.proofs.places.all_finite.Goals as goal

abbrev nowhere : Math.Option (ℕ × ℕ) → Bool
nowhere p = elim p [ none ↦ true | some k ↦ false ]

is_nowhere : (o : Option (ℕ × ℕ)) (r : Bool) → is_some o ≡ not r → r ≡ nowhere (placed o)
is_nowhere (Some p) false e = refl
is_nowhere (Some p) true e = e
is_nowhere None true e = refl
is_nowhere None false e = e

pub returns : goal.returns
unfolding all_finite
returns c = is_nowhere _ _ c.is_none.ensures ∙ ap nowhere c.first_not_finite.ensures
