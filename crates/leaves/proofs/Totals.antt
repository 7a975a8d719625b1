-- Sums from +0 in rising index and the largest size, under a shift. `Part` is a sum under way: m terms of 2 ^ h units at most make m * 2 ^ h units at most, since that number has few
-- digits and rounding does not pass it. So a sum of at most 2 ^ c terms stays exact under a shift as long as 2 ^ (c + h) units, shifted, do not overflow (`moved_sum`); a sum of products
-- is this with `moved_mul` for each term. The largest size is one of the sizes, or zero, and of finite values none exceeds it. Assumes nothing.
use Rattle.std.proofs.Common.{◌≡◌, ℕ, zero, suc, ◌+◌, ◌*◌, ◌^◌, ◌<◌, ◌≤◌, Bool, true, false, cond, ℤ, pos, sym, ◌∙◌, ap₂, le_trans, lt_trans, le_of_eq, le_refl, lt_of_le_of_lt, mul-le-mul_right, lt-suc_self, suc-mul, le-mul_of_pos_right, arith, pow_pos, pow_mono, pow-add}
use lib.Pow.{pow-lt}
use lib.Ieee.{Float, lt}
use Rattle.leaves.specs.Numbers.{◌⊕◌, zero⁺, abs, larger}
use Rattle.leaves.specs.Loops.{loop, sum_to, amax_to}
use Rattle.leaves.specs.Shift.{shift}
use Rattle.leaves.proofs.Shift.{shift_zero⁺, abs_shift, larger_shift}
use Rattle.leaves.proofs.Loops.{kept_loop, amax_ext}
use Rattle.leaves.proofs.Rounding.{Representable, representable_times, representable_up}
use Rattle.leaves.proofs.Units.{top_bits, fraction_bits, Finite, zero_val, zero_mag, Top, pow_under_Top, Val, mag, mag_val, mag_abs, abs_val, lt_val}
use Rattle.leaves.proofs.Keys.{larger_by, picked}
use Rattle.leaves.proofs.Range.{Range, range_weaken, range_abs, range_zero}
use Rattle.leaves.proofs.Bounds.{Bounds, Bounded, zero_bounded, sum_of}
use Rattle.leaves.proofs.Operations.{Moved, range_add, add_copy}

-- ---- a sum under way, and its copy: m terms so far, each in the bounds b
pub record Part (k : ℕ) (b : Bounds) (m : ℕ) (x x' : Float) : Type 0 where
  pub range : Range b.grain (2 ^ b.grain) (m * 2 ^ b.most) x
  pub copy : x' ≡ shift (pos k) x

module _ (k : ℕ) (b : Bounds) (M c : ℕ) (S : M ≤ 2 ^ c) (C : c ≤ fraction_bits) (O : (sum_of c b).most + k ≤ top_bits) where
  abbrev h : ℕ
  h = b.most

  held : (m : ℕ) → m ≤ M → Representable (m * 2 ^ h)
  held m e = representable_times m h (lt_of_le_of_lt (le_trans e (le_trans S (pow_mono C))) (pow-lt {i = fraction_bits} {j = 53} (le_refl 53)))

  most : (m : ℕ) → m ≤ M → m * 2 ^ h ≤ 2 ^ (c + h)
  most m e = le_trans (mul-le-mul_right (2 ^ h) (le_trans e S)) (le_of_eq (sym (pow-add 2 c h)))

  under_way : (m : ℕ) → m ≤ M → m * 2 ^ h * 2 ^ k < Top
  under_way m e = lt_of_le_of_lt (le_trans (mul-le-mul_right (2 ^ k) (most m e)) (le_of_eq (sym (pow-add 2 (c + h) k)))) (pow_under_Top (c + h + k) O)

  pub part_zero : Part k b 0 zero⁺ zero⁺
  part_zero = record { range = range_zero b.grain (2 ^ b.grain) (0 * 2 ^ h); copy = sym (shift_zero⁺ (pos k)) }

  pub part_add : {m : ℕ} {s s' x x' : Float} → suc m ≤ M → Part k b m s s' → Moved k b x x' → Part k b (suc m) (s ⊕ x) (s' ⊕ x')
  part_add {m} e p u =
      let B = suc m * 2 ^ h in
      let o = under_way (suc m) e in
      let r : m * 2 ^ h + 2 ^ h ≤ B = le_of_eq (sym (suc-mul m (2 ^ h))) in
      record {
        range = range_add p.range u.range B r (held (suc m) e) (lt_of_le_of_lt (le-mul_of_pos_right B (pow_pos k)) o);
        copy = ap₂ ◌⊕◌ p.copy u.copy ∙ add_copy p.range u.range k (B * 2 ^ k) (mul-le-mul_right (2 ^ k) r) (representable_up B k (held (suc m) e)) o;
      }

  -- a turn that adds nothing
  pub part_more : {m m' : ℕ} {s s' : Float} → m ≤ m' → Part k b m s s' → Part k b m' s s'
  part_more {m' = m'} e p = record { range = range_weaken (2 ^ b.grain) (m' * 2 ^ h) (le_refl (2 ^ b.grain)) (mul-le-mul_right (2 ^ h) e) p.range; copy = p.copy }

  -- a loop of n turns that each add d terms at most
  pub part_loop : (n d : ℕ) (f f' : ℕ → Float → Float) → ((i m : ℕ) (s s' : Float) → i < n → m + d ≤ M → Part k b m s s' → Part k b (m + d) (f i s) (f' i s'))
      → (m : ℕ) (s s' : Float) → m + n * d ≤ M → Part k b m s s' → Part k b (m + n * d) (loop n f s) (loop n f' s')
  unfolding loop
  part_loop zero d f f' each m s s' e p = part_more (omega arith) p
  part_loop (suc n) d f f' each m s s' e p =
      part_more (omega arith)
      (each n (m + n * d) (loop n f s) (loop n f' s') (lt-suc_self n) (omega arith)
      (part_loop n d f f' (λ i m s s' l. each i m s s' (lt_trans l (lt-suc_self n))) m s s' (omega arith) p))

  pub part_moved : {m : ℕ} {s s' : Float} → m ≤ M → Part k b m s s' → Moved k (sum_of c b) s s'
  part_moved {m} e p = record { range = range_weaken (2 ^ b.grain) (2 ^ (c + h)) (le_refl (2 ^ b.grain)) (most m e) p.range; copy = p.copy }

  pub moved_sum : (u u' : ℕ → Float) → ((t : ℕ) → t < M → Moved k b (u t) (u' t)) → Moved k (sum_of c b) (sum_to M u) (sum_to M u')
  unfolding sum_to
  moved_sum u u' each = part_moved (omega arith) (part_loop M 1 (λ t s. s ⊕ u t) (λ t s. s ⊕ u' t) (λ t m s s' l e p. part_more (omega arith) (part_add (omega arith) p (each t l))) 0 zero⁺ zero⁺ (omega arith) part_zero)

-- ---- the largest size
amax_shift : (k : ℤ) (n : ℕ) (f : ℕ → Float) → amax_to n (λ t. shift k (f t)) ≡ shift k (amax_to n f)
unfolding amax_to loop
amax_shift k zero f = sym (shift_zero⁺ k)
amax_shift k (suc n) f = ap₂ larger (amax_shift k n f) (abs_shift k (f n)) ∙ larger_shift k (amax_to n f) (abs (f n))

-- it is one of the sizes, or zero
pub amax_one : (P : Float → Type 0) (n : ℕ) (f : ℕ → Float) → P zero⁺ → ((t : ℕ) → t < n → P (abs (f t))) → P (amax_to n f)
unfolding amax_to larger
amax_one P n f z h = kept_loop P n (λ t m. larger m (abs (f t))) zero⁺ z (λ t l m p. go m (abs (f t)) (lt m (abs (f t))) p (h t l))
  where
    go : (m x : Float) (b : Bool) → P m → P x → P (cond b x m)
    go m x true p q = q
    go m x false p q = p

pub moved_amax : {k : ℕ} {b : Bounds} (n : ℕ) (u u' : ℕ → Float) → ((t : ℕ) → t < n → Moved k b (u t) (u' t)) → Moved k b (amax_to n u) (amax_to n u')
moved_amax {k} {b} n u u' each = record {
  range = amax_one (Bounded b) n u (zero_bounded b) (λ t i. range_abs (each t i).range);
  copy = amax_ext n u' (λ t. shift (pos k) (u t)) (λ t i. (each t i).copy) ∙ amax_shift (pos k) n u;
}

-- and none is larger, of finite values of the format
pub amax_finite_most : (f : ℕ → Float) (n : ℕ) → ((t : ℕ) → t < n → Finite (f t)) → (t : ℕ) → t < n → mag (f t) ≤ mag (amax_to n f)
unfolding amax_to
amax_finite_most f n each t l =
    let Plus : Float → Type 0 = λ z. Val z false (mag z) in
    let step : (m x : Float) → Plus m → Plus x → Plus (larger m x) × (mag m ≤ mag (larger m x)) × (mag x ≤ mag (larger m x)) = λ m x a b. larger_by mag Plus m x a b (lt_val m x false false (mag m) (mag x) a b) in
    let sizes : (t : ℕ) → t < n → Plus (abs (f t)) = λ t l. rw (mag_abs (f t)) (abs_val (f t) (mag_val (f t) (each t l).0 (each t l).1)) in
    le_trans (le_of_eq (sym (mag_abs (f t)))) ((picked mag Plus Plus larger (λ a b. b ≤ a) (λ a b c p q. le_trans q p) step n (λ t. abs (f t)) zero⁺ (rw (zero_mag false (pos 0)) (zero_val false (pos 0))) sizes).1 t l)
