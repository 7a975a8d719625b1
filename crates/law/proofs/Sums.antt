-- Sums that are finite: so are their terms; how large they are at most, and of numbers without a minus sign at least; and one that is not zero has a term that is not. Assumes nothing.
use mathlib.Core.Path.{◌≡◌, sym, ap, subst}
use mathlib.Core.Logic.{inl, inr}
use Prim.Native.Nat.{ℕ, zero, suc, ◌+◌, ◌≤◌, ◌<◌, ◌^◌}
use native.Mathlib.Nat.{le_trans, le_of_eq, lt-suc_self, lt_trans, add-zero, lt_irrefl, eq-zero-or-pos, not-suc-le-zero, eq-or-lt_of_le, le_of_suc-le-suc}
use native.Mathlib.Omega.{arith}
use mathlib.Core.Bool.{false}
use lib.Dec.{T, lit≤, lit<}
use lib.IntN.{pos}
use lib.Ieee.{Float, binary64, fits}
use lib.Ieee.Fits.{add-fits}
use Rattle.leaves.specs.Numbers.{◌⊕◌, is_finite}
use Rattle.leaves.specs.Loops.{loop, sum_to}
use Rattle.leaves.proofs.Rounding.{near, near_least}
use Rattle.leaves.proofs.Units.{sign, mag, mag_representable, finite_mag, top_bits, zero_mag}
use Rattle.leaves.proofs.Arithmetic.{add_rounded, add_finite}
use Rattle.leaves.proofs.Operations.{Moved, still, moved_add}
use Rattle.leaves.proofs.Signs.{sign_sum}
use Rattle.leaves.proofs.Totals.{moved_sum}
use Rattle.leaves.proofs.Range.{range_most, range_null}
use Rattle.leaves.proofs.Bounds.{multiples, sum_of, only_zero}
use Rattle.matrix.specs.Limits.{max_side}
use Rattle.law.proofs.Comparisons.{plus_val}
use Rattle.law.proofs.Bits.{side_bits, side_bits_lem}
use Rattle.law.proofs.Ranges.{zero_bounds}

-- ---- a sum of numbers without a minus sign is as large as each
pub sum_fits : (n : ℕ) (f : ℕ → Float) → T (fits binary64 (sum_to n f))
unfolding sum_to loop fits
sum_fits zero f = tt
sum_fits (suc n) f = add-fits binary64 (sum_to n f) (f n)

pub plus_least : (x y : Float) → T (fits binary64 x) → T (fits binary64 y) → sign x ≡ false → sign y ≡ false → T (is_finite (x ⊕ y)) → (mag x ≤ mag (x ⊕ y)) × (mag y ≤ mag (x ⊕ y))
plus_least x y tx ty sx sy F =
    let q = add_finite x y F in
    let i : mag (x ⊕ y) ≡ near (mag x + mag y) 1 = finite_mag (x ⊕ y) false (mag x + mag y) 1 (lit< tt) (add_rounded x y false false (mag x) (mag y) (plus_val x tx q.0 sx) (plus_val y ty q.1 sy)) F in
    (rw i (near_least (mag x + mag y) 1 (mag x) (lit< tt) (mag_representable x tx q.0).0 (omega arith)), rw i (near_least (mag x + mag y) 1 (mag y) (lit< tt) (mag_representable y ty q.1).0 (omega arith)))

pub sum_least : (n : ℕ) (f : ℕ → Float) → ((t : ℕ) → t < n → T (fits binary64 (f t)) × (sign (f t) ≡ false)) → T (is_finite (sum_to n f)) → (t : ℕ) → t < n → mag (f t) ≤ mag (sum_to n f)
unfolding sum_to loop
sum_least zero f h F t l = absurd (not-suc-le-zero l)
sum_least (suc n) f h F t l =
    let h' : (t : ℕ) → t < n → T (fits binary64 (f t)) × (sign (f t) ≡ false) = λ t l. h t (lt_trans l (lt-suc_self n)) in
    let q = add_finite (sum_to n f) (f n) F in
    let s = sign_sum n f (λ t l. (h' t l).1) in
    let x = plus_least (sum_to n f) (f n) (sum_fits n f) (h n (lt-suc_self n)).0 s (h n (lt-suc_self n)).1 F in
    elim (eq-or-lt_of_le (le_of_suc-le-suc l)) [
      | inl e ↦ le_trans (le_of_eq (ap (λ (i : ℕ). mag (f i)) e)) x.1
      | inr i ↦ le_trans (sum_least n f h' q.0 t i) x.0
    ]

-- ---- a finite sum has finite terms
pub sum_finite : (n : ℕ) (f : ℕ → Float) → T (is_finite (sum_to n f)) → (t : ℕ) → t < n → T (is_finite (f t))
unfolding sum_to loop
sum_finite zero f h t l = absurd (not-suc-le-zero l)
sum_finite (suc n) f h t l =
    let q = add_finite (sum_to n f) (f n) h in
    elim (eq-or-lt_of_le (le_of_suc-le-suc l)) [ inl e ↦ subst (λ (i : ℕ). T (is_finite (f i))) (sym e) q.1 | inr i ↦ sum_finite n f q.0 t i ]

-- at most 2 ^ h units each
pub sum_most : (n h : ℕ) (f : ℕ → Float) → n ≤ max_side → side_bits + h ≤ top_bits → ((t : ℕ) → t < n → T (fits binary64 (f t)) × T (is_finite (f t)) × (mag (f t) ≤ 2 ^ h)) → mag (sum_to n f) ≤ 2 ^ (side_bits + h)
sum_most n h f few o each = (moved_sum 0 (multiples 0 h) n side_bits (side_bits_lem few) (lit≤ tt) (rw (add-zero (side_bits + h)) o) f f (λ t l. let q = each t l in still (multiples 0 h) (range_most (f t) q.0 q.1 q.2))).range.most

-- zeros sum to zero, so a sum that is not zero has a term that is not
pub sum_some : (n : ℕ) (f : ℕ → Float) → ((t : ℕ) → t < n → T (fits binary64 (f t))) → T (is_finite (sum_to n f)) → 0 < mag (sum_to n f) → (t : ℕ) × (t < n) × (0 < mag (f t))
unfolding sum_to loop
sum_some zero f h F p = absurd (lt_irrefl 0 (subst (λ (n : ℕ). 0 < n) (zero_mag false (pos 0)) p))
sum_some (suc n) f h F p =
    let q = add_finite (sum_to n f) (f n) F in
    let rest : 0 < mag (sum_to n f) → (t : ℕ) × (t < suc n) × (0 < mag (f t)) = λ r. let w = sum_some n f (λ t l. h t (lt_trans l (lt-suc_self n))) q.0 r in (w.0, lt_trans w.1 (lt-suc_self n), w.2) in
    elim (eq-zero-or-pos (mag (f n))) [
      | inr r ↦ (n, lt-suc_self n, r)
      | inl z ↦ elim (eq-zero-or-pos (mag (sum_to n f))) [ inr r ↦ rest r | inl y ↦ absurd (both (sum_to n f) (f n) (sum_fits n f) (h n (lt-suc_self n)) q.0 q.1 y z p) ]
    ]
  where
    both : (x y : Float) → T (fits binary64 x) → T (fits binary64 y) → T (is_finite x) → T (is_finite y) → mag x ≡ 0 → mag y ≡ 0 → 0 < mag (x ⊕ y) → ⊥
    both x y fx fy nx ny zx zy p =
        let b = zero_bounds in
        let null : (z : Float) → T (fits binary64 z) → T (is_finite z) → mag z ≡ 0 → Moved 0 zero_bounds z z = λ z t f e. still b (range_null z t f e b.grain (2 ^ b.least) (2 ^ b.most)) in
        lt_irrefl 0 (subst (λ (n : ℕ). 0 < n) (only_zero (sum_of 1 b) (lit< tt) (moved_add b tt tt (null x fx nx zx) (null y fy ny zy) (lit≤ tt)).range) p)
