-- Refusals 1 to 4 of the prices: what holds of the shape and the lengths where they pass, by the answer k that the code has of them, or of all checks. Assumes nothing.
use mathlib.Core.Path.{◌≡◌, refl, sym, ◌∙◌}
use mathlib.Core.Bool.{not, ◌||◌}
use mathlib.Mathlib.Data.Bool.Basic.{or-eq-false-eq-eq-false-and-eq-false}
use mathlib.Core.List.{List, ◌++◌}
use Prim.Native.Nat.{ℕ, ◌-◌, ◌*◌, ◌≤◌, ◌<◌}
use native.Mathlib.Omega.{arith}
use borrow.Author.Tests.{eqb-true, eqb-false, ltb-false, not-false}
use lib.Dec.{eqb, ltb}
use Rattle.matrix.specs.Limits.{max_side}
use Rattle.rules.specs.Refusals.{Check, passes, first}
use Rattle.rules.specs.Prices.{min_price_rows, max_price_rows, by_price_shape}
use Rattle.rules.proofs.Firsts.{first_then}
use Rattle.rules.proofs.Passed.{pass_cons, first_passes}

pub record Priced (length n R room : ℕ) : Type 0 where
  pub some : 0 < n
  pub small : n ≤ max_side
  pub three : min_price_rows ≤ R
  pub few : R ≤ max_price_rows
  pub long : length ≡ R * n
  pub fits : (R - 1) * n ≤ room

pub shape_passes : (l n R room : ℕ) {k : Check} → k ≡ passes → k ≡ first (by_price_shape l n R room) → Priced l n R room
shape_passes l n R room pass e =
    let a = first_passes (eqb n 0) _ _ (sym e ∙ pass) in
    let b = first_passes (ltb max_side n || ltb max_price_rows R) _ _ a.1 in
    let c = first_passes (ltb R min_price_rows) _ _ b.1 in
    let d = first_passes (not (eqb l (R * n)) || ltb room ((R - 1) * n)) _ _ c.1 in
    let some = eqb-false n 0 a.0 in
    let large = (or-eq-false-eq-eq-false-and-eq-false _ _).0 b.0 in
    let long = (or-eq-false-eq-eq-false-and-eq-false _ _).0 d.0 in
    record {
      some = omega arith;
      small = ltb-false _ _ large.0;
      three = ltb-false _ _ c.0;
      few = ltb-false _ _ large.1;
      long = eqb-true _ _ (not-false _ long.0);
      fits = ltb-false _ _ long.1;
    }

pub all_pass : (l n R room : ℕ) (rest : List Check) {k : Check} → k ≡ passes → k ≡ first (by_price_shape l n R room ++ rest) → Priced l n R room
all_pass l n R room rest pass e =
    let shape = by_price_shape l n R room in
    shape_passes l n R room (pass_cons (first shape) rest (first_then shape rest refl ∙ sym e ∙ pass)).0 refl
