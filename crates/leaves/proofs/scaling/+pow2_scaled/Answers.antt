-- `leaves::scaling::pow2_scaled` meets its contract. The measure is the size of k, which falls with each step that is cut.
use Rattle.std.proofs.Common.{◌≡◌, ℕ, ◌+◌, ◌^◌, ◌<◌, ◌≤◌, T, ℤ, pos, negsuc, ◌-ℤ◌, sym, ap, ◌∙◌, lt_of_not-le, arith, to_z-of_z, w32, SFits, to_z, of_z}
use lib.Signed.{le_z, mag}
use lib.Ieee.{Float}
use Rattle.leaves.specs.Numbers.{◌⊗◌}
use Rattle.leaves.specs.Scaling.{pow2, pow2_scaled, cut}
use Rattle.leaves.proofs.Whole.{pos_part, neg_part, one_side, minus, same}
use Rattle.leaves.proofs.Ints.{yes_le, read_back}
use Rattle.leaves.proofs.ScaleSteps.{cut_range, scale_last, scale_step}
use Rattle.leaves.proofs.CutRead.{cut_is, step_read, left_fits, left_read}
use Rattle.leaves.proofs.scaling.+pow2_scaled.Goals as goal

-- what is left of k is nearer to 0 than k, where k is cut
nearer : (k : ℤ) → (cut k ≡ k → ⊥) → pos_part (k -ℤ cut k) + neg_part (k -ℤ cut k) < pos_part k + neg_part k
nearer k h = lt_of_not-le (λ (g : pos_part k + neg_part k ≤ pos_part (k -ℤ cut k) + neg_part (k -ℤ cut k)). h (same (cut k) k (omega (arith, minus k (cut k), cut_range k, one_side (k -ℤ cut k)))))

-- What the code holds at each place: s is what `cut` gave, and y what `pow2` gave. The machine reads a number back from its bits.
module _ (k s : ℤ) (fk : SFits w32 k) (fs : mag s < 2 ^ 31) (is_cut : s ≡ cut (read_back k)) where
  in_range : T (le_z (negsuc 1021) (read_back s)) × T (le_z (read_back s) (pos 1023))
  unfolding pos_part neg_part
  in_range = rw (step_read k s fk fs is_cut) (yes_le (negsuc 1021) (cut k) (omega (arith, cut_range k)), yes_le (cut k) (pos 1023) (omega (arith, cut_range k)))

  differ : (of_z w32 s ≡ of_z w32 k → ⊥) → cut k ≡ k → ⊥
  differ ne e = ne (ap (of_z w32) (cut_is k s fk fs is_cut ∙ e))

  less : (t : ℕ) → pos_part k + neg_part k ≡ t → (of_z w32 s ≡ of_z w32 k → ⊥)
      → pos_part (read_back (read_back k -ℤ read_back s)) + neg_part (read_back (read_back k -ℤ read_back s)) < t
  less t e ne = rw (left_read k s fk fs is_cut, ← e) (nearer k (differ ne))

  module _ (x y : Float) (is-pow : y ≡ pow2 (read_back s)) where
    y-is : y ≡ pow2 (cut k)
    y-is = is-pow ∙ ap pow2 (step_read k s fk fs is_cut)

    last : of_z w32 s ≡ of_z w32 k → x ⊗ y ≡ pow2_scaled x k
    last e =
        let same-k : cut k ≡ k = sym (step_read k s fk fs is_cut) ∙ ap (to_z w32) e ∙ to_z-of_z fk in
        rw (y-is, same-k) (scale_last x k same-k)

    next : (r : Float) → (of_z w32 s ≡ of_z w32 k → ⊥) → r ≡ pow2_scaled (x ⊗ y) (read_back (read_back k -ℤ read_back s)) → r ≡ pow2_scaled x k
    next r ne e = rw (e, left_read k s fk fs is_cut, y-is) (scale_step x k (differ ne))

pub pow2-requires : goal.pow2-requires
pow2-requires t c =
    let r = in_range c.args.k c.cut-step.result c.ranges.k c.cut-step.type_inv c.cut-step.ensures in
    record { low = r.0; high = r.1 }

pub overflow_sub-k : goal.overflow_sub-k
overflow_sub-k t c = left_fits c.args.k c.cut-step.result c.ranges.k c.cut-step.type_inv c.cut-step.ensures

pub pow2_scaled-requires : goal.pow2_scaled-requires
pow2_scaled-requires t c = (less c.args.k c.cut-step.result c.ranges.k c.cut-step.type_inv c.cut-step.ensures t c.decreases c.if-step-k.false, tt)

pub returns-then-step-k : goal.returns-then-step-k
returns-then-step-k t c =
    last c.args.k c.cut-step.result c.ranges.k c.cut-step.type_inv c.cut-step.ensures c.args.x c.pow2.result c.pow2.ensures c.if-step-k.true

pub returns-else-step-k : goal.returns-else-step-k
returns-else-step-k t c =
    next c.args.k c.cut-step.result c.ranges.k c.cut-step.type_inv c.cut-step.ensures c.args.x c.pow2.result c.pow2.ensures c.pow2_scaled.result c.if-step-k.false c.pow2_scaled.ensures
