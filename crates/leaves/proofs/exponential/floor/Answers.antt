-- `leaves::exponential::floor` meets its contract: the value cut toward zero, and one less where the value is below that.
use Rattle.std.proofs.Common.{◌≡◌, ◌+◌, ◌*◌, ◌^◌, true, false, T, ℤ, pos, ◌-ℤ◌, ◌∙◌, arith, lt→ltb, to_z-of_z, w32, w64, SFits, to_z, of_z, lt-ltb}
use lib.Ieee.{Float, nan, inf, fin, binary64, lt, le, of_int, to_signed, up, down}
use lib.Ieee.Fits.{down_pos}
use mir.Facts.{sfits_widen}
use Rattle.leaves.specs.Inner.{Small}
use Rattle.leaves.specs.Exp.{floor}
use Rattle.leaves.proofs.Whole.{pos_part, neg_part, one_side, minus}
use Rattle.leaves.proofs.Ints.{fits_i32, read_back}
use Rattle.leaves.proofs.Floors.{floor_less, floor_same, cut_in}
use Rattle.leaves.proofs.exponential.floor.Goals as goal

-- a small value is in the range of an i64
in_range : (x : Float) → Small x → T (le (fin true 1 (pos 63)) x) × T (lt x (fin false 1 (pos 63)))
unfolding le
in_range nan h = absurd h
in_range (inf s) h = absurd h
in_range (fin true m e) h =
    let d = down_pos e in (
      rw (lt-ltb (m * up e * 1) (1 * 2 ^ 63 * down e) (omega arith)) tt,
      lt→ltb 0 (m * up e * 1 + 1 * 2 ^ 63 * down e) (omega arith),
    )
in_range (fin false m e) h =
    let d = down_pos e in (
      rw (lt-ltb 0 (1 * 2 ^ 63 * down e + m * up e * 1) (omega arith)) tt,
      lt→ltb (m * up e * 1) (1 * 2 ^ 63 * down e) (omega arith),
    )

module _ (x : Float) (h : Small x) (z : ℤ) (is-z : z ≡ to_signed 63 x) where
  z-32 : SFits w32 z
  z-32 = rw is-z (fits_i32 (to_signed 63 x) (omega (arith, cut_in x h)))

  z-64 : to_z w64 (of_z w64 z) ≡ z
  z-64 = to_z-of_z (sfits_widen {w = w32} {w' = w64} tt z-32)

  cast : SFits w32 (to_z w64 (of_z w64 z))
  cast = rw z-64 z-32

  read : read_back (to_z w64 (of_z w64 z)) ≡ to_signed 63 x
  read = rw (z-64, to_z-of_z z-32) is-z

  one_less : SFits w32 (read_back (to_z w64 (of_z w64 z)) -ℤ pos 1)
  unfolding pos_part neg_part
  one_less =
      let d = to_signed 63 x -ℤ pos 1 in
      rw read (fits_i32 d (omega (arith, cut_in x h, minus (to_signed 63 x) (pos 1), one_side d)))

  less : lt x (of_int binary64 (read_back (to_z w64 (of_z w64 z)))) ≡ true → read_back (read_back (to_z w64 (of_z w64 z)) -ℤ pos 1) ≡ floor x
  less t = rw (to_z-of_z one_less, read) (floor_less x h (rw read at t))

  equal : lt x (of_int binary64 (read_back (to_z w64 (of_z w64 z)))) ≡ false → read_back (to_z w64 (of_z w64 z)) ≡ floor x
  equal t = read ∙ floor_same x h (rw read at t)

pub truncating_f64_to_i64-n-requires : goal.truncating_f64_to_i64-n-requires
truncating_f64_to_i64-n-requires c = let i = in_range c.args.x c.requires in record { lower_bound = i.0; upper_bound = i.1 }

pub overflow_cast-n : goal.overflow_cast-n
overflow_cast-n c = let z = c.truncating_f64_to_i64-n in cast c.args.x c.requires z.result z.ensures

pub overflow_sub-result : goal.overflow_sub-result
overflow_sub-result c =
    let z = c in
    one_less z.args.x z.requires z.truncating_f64_to_i64-n.result z.truncating_f64_to_i64-n.ensures

pub returns-then-x-n : goal.returns-then-x-n
returns-then-x-n c =
    let z = c in
    less z.args.x z.requires z.truncating_f64_to_i64-n.result z.truncating_f64_to_i64-n.ensures c.if-x-n.true

pub returns-else-x-n : goal.returns-else-x-n
returns-else-x-n c =
    let z = c in
    equal z.args.x z.requires z.truncating_f64_to_i64-n.result z.truncating_f64_to_i64-n.ensures c.if-x-n.false
