-- `leaves::logarithm::ln` meets its contract: the negated exponent and the one after it are i32, by `exponent_size`.
use Rattle.std.proofs.Common.{◌≡◌, ◌+◌, ◌^◌, ◌<◌, Bool, true, false, ℤ, pos, ◌+ℤ◌, ◌-ℤ◌, nat_abs, arith, w32, SFits}
use lib.Ieee.{Float, nan, binary64, fits, lt, div, of_bits}
use Rattle.leaves.specs.Numbers.{◌⊘◌, two}
use Rattle.leaves.specs.Scaling.{binary_exponent, pow2_scaled}
use Rattle.leaves.specs.Log.{ln_of, max_scaled, ln_scaled, between01, ln}
use Rattle.leaves.proofs.Ints.{read_back}
use Rattle.leaves.proofs.Exponents.{exponent_size, read, neg_fits, neg_read, plus_fits, plus_read}
use Rattle.leaves.proofs.logarithm.ln.Goals as goal

outside : (x : Float) (b : Bool) → b ≡ between01 x → b ≡ false → nan ≡ ln x
unfolding ln
outside x b e f = rw (← e, f)

module _ (x : Float) (fx : fits binary64 x ≡ true) (e : ℤ) (is-e : e ≡ binary_exponent x) where
  small : nat_abs e + 1 < 2 ^ 31
  small = rw is-e (omega (arith, exponent_size x fx))

  negated : SFits w32 (pos 0 -ℤ read_back e)
  negated = neg_fits e (omega (arith, small))

  next : SFits w32 (read_back e +ℤ pos 1)
  next = plus_fits e (pos 1) small

  module _ (b : Bool) (is_b : b ≡ between01 x) (yes : b ≡ true) (m : Float) (is_m : m ≡ pow2_scaled x (read_back (pos 0 -ℤ read_back e))) (r : Float) where
    scaled : ln x ≡ ln_scaled m e
    unfolding ln
    scaled = rw (← is_b, yes, is_m, neg_read e (omega (arith, small)), is-e)

    halved : lt max_scaled m ≡ true → r ≡ ln_of (m ⊘ two) (read_back (read_back e +ℤ pos 1)) → r ≡ ln x
    unfolding ln_scaled
    halved h is-r = rw (is-r, scaled, h, plus_read e (pos 1) small)

    whole : lt max_scaled m ≡ false → r ≡ ln_of m (read_back e) → r ≡ ln x
    unfolding ln_scaled
    whole h is-r = rw (is-r, scaled, h, read e (omega (arith, small)))

pub overflow_sub-e : goal.overflow_sub-e
overflow_sub-e c = let s = c in negated s.args.x s.well_formed.0.1 c.binary_exponent-e.result c.binary_exponent-e.ensures

pub overflow_add-e : goal.overflow_add-e
overflow_add-e c = let e = c in let s = e in next s.args.x s.well_formed.0.1 e.binary_exponent-e.result e.binary_exponent-e.ensures

pub returns-then-m : goal.returns-then-m
unfolding of_bits
returns-then-m c =
    let m = c in
    let e = m in
    let b = e in
    let s = b in
    halved s.args.x s.well_formed.0.1 e.binary_exponent-e.result e.binary_exponent-e.ensures b.between01.result b.between01.ensures
    e.if-between01.true m.pow2_scaled-m.result m.pow2_scaled-m.ensures c.ln_of.result c.if-m.true c.ln_of.ensures

pub returns-then-between01 : goal.returns-then-between01
unfolding of_bits
returns-then-between01 c =
    let m = c in
    let e = m in
    let b = e in
    let s = b in
    whole s.args.x s.well_formed.0.1 e.binary_exponent-e.result e.binary_exponent-e.ensures b.between01.result b.between01.ensures
    e.if-between01.true m.pow2_scaled-m.result m.pow2_scaled-m.ensures c.ln_of-then-between01.result c.if-m.false c.ln_of-then-between01.ensures

pub returns : goal.returns
unfolding div of_bits
returns c = let b = c.between01 in outside c.args.x b.result b.ensures c.if-between01.false
