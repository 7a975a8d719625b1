-- `paper::screen::show` meets its contract, test by test.
use mathlib.Core.Path.{◌≡◌, sym, ◌∙◌}
use mathlib.Core.Bool.{◌&&◌, not}
use Prim.Native.Nat.{◌/◌, ◌%◌, ◌^◌, ◌≤◌}
use lib.Dec.{leb, eqb}
use lib.Ieee.{binary64, to_bits}
use Rattle.paper.specs.declared.screen.Shown.TheVariants.{Number}
use Rattle.paper.specs.Screen.{shown}
use Rattle.paper.proofs.Screens.{shown_nan, shown_big, shown_units, no_minus, own_minus}
use Rattle.paper.proofs.screen.show.Goals as goal
use Rattle.paper.proofs.screen.show.Goals.{Joined-exponent-eq0, then-exponent-eq0, else-exponent-eq0}

pub returns-then-is_nan : goal.returns-then-is_nan
returns-then-is_nan c = shown_nan _ (sym c.is_nan.ensures.value ∙ c.if-is_nan.true)

pub returns-then-exponent-gt1053 : goal.returns-then-exponent-gt1053
returns-then-exponent-gt1053 c = shown_big c.args.x c.well_formed.0.1 c.if-exponent-gt1053.true

-- where the two ways to the units have met, below 2 ^ 31
met : (c : Joined-exponent-eq0) → to_bits binary64 c.args.x % 2 ^ 63 / 2 ^ 52 ≤ 1053
    → shown c.args.x ≡ Number (not (eqb c.if-exponent-eq0.units 0) && leb (2 ^ 63) (to_bits binary64 c.args.x)) c.if-exponent-eq0.units
met c small =
    shown_units c.args.x c.well_formed.0.1 c.if-exponent-eq0.units small
    (λ e. elim c.if-exponent-eq0.branch [ then-exponent-eq0 w ↦ w.units-is ∙ w.units-units.ensures | else-exponent-eq0 w ↦ absurd (w.if-exponent-eq0.false e) ])
    (λ n. elim c.if-exponent-eq0.branch [ then-exponent-eq0 w ↦ absurd (n w.if-exponent-eq0.true) | else-exponent-eq0 w ↦ w.units-is ∙ w.units-units-else-exponent-eq0.ensures ])

pub returns-then-units-eq0 : goal.returns-then-units-eq0
returns-then-units-eq0 c = sym (met (goal.at.returns-then-units-eq0 c).Joined-exponent-eq0 c.if-exponent-gt1053.false ∙ no_minus c.if-exponent-eq0.units _ c.if-units-eq0.true)

pub returns-else-units-eq0 : goal.returns-else-units-eq0
returns-else-units-eq0 c = sym (met (goal.at.returns-else-units-eq0 c).Joined-exponent-eq0 c.if-exponent-gt1053.false ∙ own_minus c.if-exponent-eq0.units _ c.if-units-eq0.false)
