-- `leaves::scaling::binary_exponent` meets its contract. The measure is 1 where the exponent's field is 0, as at a subnormal value, and else 0.
use Rattle.std.proofs.Common.{◌≡◌, ℕ, ◌-◌, ◌^◌, ◌<◌, true, false, ℤ, pos, ◌-ℤ◌, to_z-of_z, w32, SFits, sym, ◌∙◌}
use lib.Signed.{mag}
use lib.Ieee.{Float, binary64, fits, is_nan, eq, of_bits}
use Rattle.leaves.specs.Numbers.{◌⊗◌, zero⁺}
use Rattle.leaves.specs.Scaling.{pow2, binary_exponent}
use Rattle.leaves.proofs.Ints.{back_i32, read_back}
use Rattle.leaves.proofs.Exponent.{field, raised, at_nan, at_zero, x_shape, field_fits, last_fits, last}
use Rattle.leaves.proofs.scaling.+binary_exponent.Goals as goal

-- ---- where the field is 0
module _ (x : Float) (fx : fits binary64 x ≡ true) (a : is_nan x ≡ false) (b : eq x zero⁺ ≡ false) where
  module _ (h : field x ≡ 0) (p : Float) (is-pow : p ≡ pow2 (pos 64)) where
    less : (t : ℕ) → 1 - field x ≡ t → 1 - field (x ⊗ p) < t
    less t e = rw (is-pow, ← e) (raised (x_shape x fx a b) h).falls

    module _ (z : ℤ) (fz : mag z < 2 ^ 31) (is_b : z ≡ binary_exponent (x ⊗ p)) where
      next_fits : SFits w32 (read_back z -ℤ pos 64)
      next_fits = rw (back_i32 z fz, is_b, is-pow) (raised (x_shape x fx a b) h).fits_less

      next : read_back (read_back z -ℤ pos 64) ≡ binary_exponent x
      next = rw (to_z-of_z next_fits, back_i32 z fz, is_b, is-pow) (raised (x_shape x fx a b) h).less

pub returns-then-is_nan : goal.returns-then-is_nan
returns-then-is_nan t c = at_nan c.args.x (sym c.is_nan.ensures.value ∙ c.if-is_nan.true)

pub returns-then-x : goal.returns-then-x
unfolding of_bits
returns-then-x t c = at_zero c.args.x c.if-x.true

pub overflow_cast-biased : goal.overflow_cast-biased
overflow_cast-biased t c = field_fits c.args.x

pub binary_exponent-requires : goal.binary_exponent-requires
unfolding of_bits
binary_exponent-requires t c =
    (less c.args.x c.well_formed.0.1 (sym c.is_nan.ensures.value ∙ c.if-is_nan.false) c.if-x.false c.if-biased-eq0.true c.pow2.result c.pow2.ensures t c.decreases, tt)

pub overflow_sub-result : goal.overflow_sub-result
unfolding of_bits
overflow_sub-result t c =
    let b = c.binary_exponent in
    next_fits c.args.x c.well_formed.0.1 (sym c.is_nan.ensures.value ∙ c.if-is_nan.false) c.if-x.false c.if-biased-eq0.true c.pow2.result c.pow2.ensures b.result b.type_inv b.ensures

pub overflow_sub-result-else-biased-eq0 : goal.overflow_sub-result-else-biased-eq0
overflow_sub-result-else-biased-eq0 t c = last_fits c.args.x

pub returns-then-biased-eq0 : goal.returns-then-biased-eq0
unfolding of_bits
returns-then-biased-eq0 t c =
    let b = c.binary_exponent in
    next c.args.x c.well_formed.0.1 (sym c.is_nan.ensures.value ∙ c.if-is_nan.false) c.if-x.false c.if-biased-eq0.true c.pow2.result c.pow2.ensures b.result b.type_inv b.ensures

pub returns-else-biased-eq0 : goal.returns-else-biased-eq0
unfolding of_bits
returns-else-biased-eq0 t c = last c.args.x c.well_formed.0.1 (sym c.is_nan.ensures.value ∙ c.if-is_nan.false) c.if-x.false c.if-biased-eq0.false
