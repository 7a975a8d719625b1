-- `means::bayes_stein::shrinkage_by` meets its contract. The exponents are small enough that their sums are i32s.
use Rattle.std.proofs.Common.{◌≡◌, ℕ, ◌+◌, ◌^◌, ◌<◌, ℤ, ◌+ℤ◌, ◌-ℤ◌, nat_abs, arith}
use lib.Ieee.{Float, of_bits}
use Rattle.leaves.specs.Numbers.{◌⊕◌, ◌⊗◌, ◌⊘◌, count, two, max0}
use Rattle.leaves.specs.Scaling.{pow2_scaled}
use Rattle.rules.specs.BayesStein.{shrinkage_by}
use Rattle.tables.proofs.Exponents.{plus_read, minus_read}
use Rattle.means.specs.Stein.{mean_shrinkage}
use Rattle.means.proofs.bayes_stein.shrinkage_by.Goals as goal

made : (n : ℕ) (T ratio squared : Float) (a b : ℤ) (k x y t : Float) → k ≡ count n → x ≡ max0 squared → y ≡ pow2_scaled x (b +ℤ b) → t ≡ pow2_scaled ratio (b -ℤ a)
    → mean_shrinkage ((k ⊕ two) ⊘ (k ⊕ two ⊕ T ⊗ y)) t ≡ shrinkage_by n T ratio squared a b
made n T ratio squared a b k x y t is-k is_x is_y is-t = rw (is-k, is_y, is_x, is-t)

pub returns : goal.returns
unfolding of_bits
returns c =
    let s = c in
    let a = s.args in
    let h : nat_abs a.b + nat_abs a.b < 2 ^ 31 = omega arith in
    let l : nat_abs a.b + nat_abs a.a < 2 ^ 31 = omega arith in
    made a.n a.periods a.ratio a.squared a.a a.b c.nearest_u64_to_f64-numerator.result c.max0.result c.pow2_scaled.result c.pow2_scaled-2.result
    c.nearest_u64_to_f64-numerator.ensures
    c.max0.ensures
    (rw (plus_read a.b a.b h) at c.pow2_scaled.ensures)
    (rw (minus_read a.b a.a l) at c.pow2_scaled-2.ensures)
