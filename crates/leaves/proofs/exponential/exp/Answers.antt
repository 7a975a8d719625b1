-- `leaves::exponential::exp` meets its contract. k is small enough to be an i32, by `small_steps`.
use Rattle.std.proofs.Common.{◌≡◌, ◌^◌, ◌<◌, true, false, ℤ}
use lib.Signed.{mag}
use lib.Ieee.{Float, nan, lt, le, neg, div, of_bits}
use Rattle.leaves.specs.Numbers.{zero⁺, one}
use Rattle.leaves.specs.Scaling.{pow2_scaled}
use Rattle.leaves.specs.Exp.{min_argument, horner, nearest_power, reduced, exp}
use Rattle.leaves.proofs.Ints.{back_i32, read_back}
use Rattle.leaves.proofs.Sizes.{small_steps}
use Rattle.leaves.proofs.exponential.exp.Goals as goal

found : (y : Float) (k : ℤ) → mag k < 2 ^ 31 → k ≡ nearest_power y → (p : Float) → p ≡ horner (reduced y (read_back k)) 0 13 one → (r : Float) → r ≡ pow2_scaled p (read_back k)
    → lt y min_argument ≡ false → le y zero⁺ ≡ true → r ≡ exp y
unfolding exp
found y k fk is-k p is-p r is-r a b = rw (a, b, is-r, is-p, back_i32 k fk, is-k)

above : (y : Float) → lt y min_argument ≡ false → le y zero⁺ ≡ false → nan ≡ exp y
unfolding exp
above y a b = rw (a, b)

pub returns-then-y : goal.returns-then-y
unfolding exp of_bits neg
returns-then-y c = rw c.if-y.true

pub floor-k-requires : goal.floor-k-requires
unfolding of_bits neg
floor-k-requires c = small_steps c.args.y c.if-y.false c.if-y-2.true

pub returns-then-y-2 : goal.returns-then-y-2
unfolding of_bits neg nearest_power reduced
returns-then-y-2 c =
    let p = c.horner in
    let k = c in
    let t = k in
    found t.args.y k.floor-k.result k.floor-k.type_inv k.floor-k.ensures p.result p.ensures c.pow2_scaled.result c.pow2_scaled.ensures t.if-y.false t.if-y-2.true

pub returns : goal.returns
unfolding of_bits neg div
returns c = above c.args.y c.if-y.false c.if-y-2.false
