-- The sum, difference, product and quotient of shifted values are the shifted results, exactly, and in what range a result lies.
-- A sum or difference asks only that nothing overflows; a product or quotient also that the exact result is a whole number of units or in the normal range (`Grained 0`). Shifts go up;
-- downwards the same is read from the other side (`shift_forth`).
-- `Moved k b x x'` puts a value and its copy together: x is in the bounds b, and x' is x shifted by k. One law for each operation gives the result and its copy, in the bounds that follow
-- from the operands'. Assumes nothing.
use Rattle.std.proofs.Common.{◌≡◌, ℕ, ◌+◌, ◌-◌, ◌*◌, ◌^◌, ◌<◌, ◌≤◌, Bool, T, pos, sym, ap, ◌∙◌, subst, ap₂, inl, inr, zero-le, le_trans, le_of_eq, lt_of_le_of_lt, add-zero, add-le-add, mul-le-mul_right, zero-lt-suc, mul_assoc, mul_comm, eq-zero-or-pos, mul-le-mul, mul-le-mul_left, zero-mul, mul-one, sub-add_cancel, mul_right_comm, arith, pow_pos, pow_mono, pow-add}
use native.Mathlib.Nat.{mul-mul-mul_comm}
use lib.Ieee.{Float, unlike, neg, sub}
use lib.Ieee.Positive.{first_pos}
use Rattle.leaves.specs.Numbers.{◌⊕◌, ◌⊖◌, ◌⊗◌, ◌⊘◌, zero⁺, abs}
use Rattle.leaves.specs.Shift.{shift}
use Rattle.leaves.proofs.Shift.{shift_zero, shift_shift, shift_zero⁺, neg_shift, abs_shift}
use Rattle.leaves.proofs.Rounding.{near, Representable, Grained, whole, normal, near_most, representable_pow, grained_finer}
use Rattle.leaves.proofs.Units.{one_bits, top_bits, fraction_bits, U, U_pos, Top, pow_under_Top, Val, rounded, sign, mag, val_shift, rounded_shift}
use Rattle.leaves.proofs.Arithmetic.{sum_sign, sum_size, sum_sign_times, sum_size_times, sum_size_le, add_rounded, mul_rounded, div_rounded, div_alike}
use Rattle.leaves.proofs.Range.{Range, range_value, range_grain, range_neg, range_abs, range_rounded}
use Rattle.leaves.proofs.Bounds.{Bounds, Bounded, zero_bounded, multiples, sum_of, product_of, normal_product_of, quotient_of, covers, within, bounded_coarse, bounded_within}

-- ---- powers of two, and U, which is 2 ^ 1074
pub pow_le_U : (a b c : ℕ) → a + b ≤ c + 1074 → 2 ^ a * 2 ^ b ≤ 2 ^ c * U
unfolding U
pow_le_U a b c h = le_trans (le_of_eq (sym (pow-add 2 a b))) (le_trans (pow_mono h) (le_of_eq (pow-add 2 c 1074)))

pub U-le-pow : (a b c : ℕ) → a + 1074 ≤ b + c → 2 ^ a * U ≤ 2 ^ b * 2 ^ c
unfolding U
U-le-pow a b c h = le_trans (le_of_eq (sym (pow-add 2 a 1074))) (le_trans (pow_mono h) (le_of_eq (pow-add 2 b c)))

-- a fraction of 2 ^ h units at most, shifted by k, does not overflow
no_overflow : (n d h k : ℕ) → 0 < d → n ≤ 2 ^ h * d → h + k ≤ top_bits → near (n * 2 ^ k) d < Top
no_overflow n d h k D l o =
    lt_of_le_of_lt (near_most (n * 2 ^ k) d (2 ^ (h + k)) D (representable_pow (h + k)) (le_trans (mul-le-mul_right (2 ^ k) l) (le_of_eq (mul_right_comm (2 ^ h) d (2 ^ k) ∙ ap (λ (z : ℕ). z * d) (sym (pow-add 2 h k)))))) (pow_under_Top (h + k) o)

-- ---- exact scaling
module _ (x y : Float) (s t : Bool) (a b : ℕ) (v : Val x s a) (w : Val y t b) where
  add_shift : (k : ℕ) → near (sum_size s a t b * 2 ^ k) 1 < Top → shift (pos k) x ⊕ shift (pos k) y ≡ shift (pos k) (x ⊕ y)
  add_shift k o =
      let n = sum_size s a t b in
      add_rounded (shift (pos k) x) (shift (pos k) y) s t (a * 2 ^ k) (b * 2 ^ k) (val_shift k x s a v) (val_shift k y t b w)
      ∙ ap₂ (λ (r : Bool) (n : ℕ). rounded r n 1) (sum_sign_times s t a b (2 ^ k) (pow_pos k)) (sum_size_times s t a b (2 ^ k) (pow_pos k))
      ∙ rounded_shift (sum_sign s a t b) n 1 k (zero-lt-suc 0) (whole n (sym (mul-one (n * 1) ∙ mul-one n))) o ∙ ap (shift (pos k)) (sym (add_rounded x y s t a b v w))

  mul_shift : (i j : ℕ) → Grained 0 (a * b) U → near (a * b * 2 ^ (i + j)) U < Top → shift (pos i) x ⊗ shift (pos j) y ≡ shift (pos (i + j)) (x ⊗ y)
  mul_shift i j G o =
      mul_rounded (shift (pos i) x) (shift (pos j) y) s t (a * 2 ^ i) (b * 2 ^ j) (val_shift i x s a v) (val_shift j y t b w)
      ∙ ap (λ (n : ℕ). rounded (unlike s t) n U) (mul-mul-mul_comm a (2 ^ i) b (2 ^ j) ∙ ap (λ (n : ℕ). a * b * n) (sym (pow-add 2 i j)))
      ∙ rounded_shift (unlike s t) (a * b) U (i + j) U_pos G o ∙ ap (shift (pos (i + j))) (sym (mul_rounded x y s t a b v w))

  div_shift : (k : ℕ) → 0 < b → Grained 0 (a * U) b → near (a * U * 2 ^ k) b < Top → shift (pos k) x ⊘ y ≡ shift (pos k) (x ⊘ y)
  div_shift k B G o =
      div_rounded (shift (pos k) x) y s t (a * 2 ^ k) b (val_shift k x s a v) w B ∙ ap (λ (n : ℕ). rounded (unlike s t) n b) (mul_right_comm a (2 ^ k) U)
      ∙ rounded_shift (unlike s t) (a * U) b k B G o ∙ ap (shift (pos k)) (sym (div_rounded x y s t a b v w B))

-- ---- ranges
module _ {g L₁ B₁ L₂ B₂ : ℕ} {x y : Float} (r : Range g L₁ B₁ x) (p : Range g L₂ B₂ y) where
  sum_at_most : sum_size (sign x) (mag x) (sign y) (mag y) ≤ B₁ + B₂
  sum_at_most = le_trans (sum_size_le (sign x) (sign y) (mag x) (mag y)) (add-le-add r.most p.most)

  pub range_add : (B : ℕ) → B₁ + B₂ ≤ B → Representable B → B < Top → Range g (2 ^ g) B (x ⊕ y)
  range_add B h H o =
      let q = sum_size (sign x) r.multiple (sign y) p.multiple in
      let n = sum_size (sign x) (mag x) (sign y) (mag y) in
      let e : n ≡ q * 2 ^ g = ap₂ (λ (u v : ℕ). sum_size (sign x) u (sign y) v) r.grain p.grain ∙ sum_size_times (sign x) (sign y) r.multiple p.multiple (2 ^ g) (pow_pos g) in
      subst (Range g (2 ^ g) B) (sym (add_rounded x y (sign x) (sign y) (mag x) (mag y) (range_value r) (range_value p)))
      (range_grain (range_rounded (sum_sign (sign x) (mag x) (sign y) (mag y)) n 1 g 1 B (zero-lt-suc 0) (whole q (e ∙ sym (mul-one (q * 2 ^ g)))) (representable_pow 0) (λ l. l) H
      (le_trans sum_at_most (le_trans h (le_of_eq (sym (mul-one B))))) o))

  pub add_copy : (k B : ℕ) → (B₁ + B₂) * 2 ^ k ≤ B → Representable B → B < Top → shift (pos k) x ⊕ shift (pos k) y ≡ shift (pos k) (x ⊕ y)
  add_copy k B h H o =
      let n = sum_size (sign x) (mag x) (sign y) (mag y) in
      add_shift x y (sign x) (sign y) (mag x) (mag y) (range_value r) (range_value p) k
      (lt_of_le_of_lt (near_most (n * 2 ^ k) 1 B (zero-lt-suc 0) H (le_trans (mul-le-mul_right (2 ^ k) sum_at_most) (le_trans h (le_of_eq (sym (mul-one B)))))) o)

-- a fraction that is zero or large
zero_or_large : (l n d : ℕ) → fraction_bits ≤ l → (0 < n → 2 ^ l * d ≤ n) → Grained (l - fraction_bits) n d
zero_or_large l n d e h = elim (eq-zero-or-pos n) [ inl z ↦ whole 0 (z ∙ sym (ap (λ (q : ℕ). q * d) (zero-mul (2 ^ (l - fraction_bits))) ∙ zero-mul d)) | inr q ↦ normal (rw (sub-add_cancel e) (h q)) ]

module _ {g₁ L₁ B₁ g₂ L₂ B₂ : ℕ} {x y : Float} (r : Range g₁ L₁ B₁ x) (p : Range g₂ L₂ B₂ y) where
  product_least : 0 < mag x * mag y → L₁ * L₂ ≤ mag x * mag y
  product_least q = mul-le-mul (r.least (first_pos (mag x) (mag y) q)) (p.least (first_pos (mag y) (mag x) (rw (mul_comm (mag x) (mag y)) at q)))

  product_most : mag x * mag y ≤ B₁ * B₂
  product_most = mul-le-mul r.most p.most

  -- the exact product's grain: by the factors' grains, and by their sizes
  by_grains : one_bits ≤ g₁ + g₂ → Grained (g₁ + g₂ - one_bits) (mag x * mag y) U
  unfolding U
  by_grains h =
      let g = g₁ + g₂ - one_bits in
      let q = r.multiple * p.multiple in
      let e : 2 ^ g₁ * 2 ^ g₂ ≡ 2 ^ g * 2 ^ one_bits = sym (pow-add 2 g₁ g₂) ∙ ap (λ (z : ℕ). 2 ^ z) (sym (sub-add_cancel h)) ∙ pow-add 2 g one_bits in
      whole q (ap₂ (λ (a b : ℕ). a * b) r.grain p.grain ∙ mul-mul-mul_comm r.multiple (2 ^ g₁) p.multiple (2 ^ g₂) ∙ ap (λ (z : ℕ). q * z) e ∙ sym (mul_assoc q (2 ^ g) (2 ^ one_bits)))

  by_sizes_lem : (l : ℕ) → fraction_bits ≤ l → 2 ^ l * U ≤ L₁ * L₂ → Grained (l - fraction_bits) (mag x * mag y) U
  by_sizes_lem l e h = zero_or_large l (mag x * mag y) U e (λ q. le_trans h (product_least q))

  range_mul : (g L B : ℕ) → Grained g (mag x * mag y) U → Representable L → L * U ≤ L₁ * L₂ → Representable B → B₁ * B₂ ≤ B * U → B < Top → Range g L B (x ⊗ y)
  range_mul g L B G HL l HB h o =
      subst (Range g L B) (sym (mul_rounded x y (sign x) (sign y) (mag x) (mag y) (range_value r) (range_value p)))
      (range_rounded (unlike (sign x) (sign y)) (mag x * mag y) U g L B U_pos G HL (λ q. le_trans l (product_least q)) HB (le_trans product_most h) o)

  -- a quotient by what is not zero
  quotient_least : (L : ℕ) → L * B₂ ≤ L₁ * U → 0 < mag x * U → L * mag y ≤ mag x * U
  quotient_least L h q = le_trans (mul-le-mul_left L p.most) (le_trans h (mul-le-mul_right U (r.least (first_pos (mag x) U q))))

  quotient_most : (B : ℕ) → 0 < mag y → B₁ * U ≤ B * L₂ → mag x * U ≤ B * mag y
  quotient_most B N h = le_trans (mul-le-mul_right U r.most) (le_trans h (mul-le-mul_left B (p.least N)))

  quotient_grain : (l : ℕ) → fraction_bits ≤ l → 2 ^ l * B₂ ≤ L₁ * U → Grained (l - fraction_bits) (mag x * U) (mag y)
  quotient_grain l e h = zero_or_large l (mag x * U) (mag y) e (quotient_least (2 ^ l) h)

  range_div : (l B : ℕ) → fraction_bits ≤ l → 0 < mag y → 2 ^ l * B₂ ≤ L₁ * U → Representable B → B₁ * U ≤ B * L₂ → B < Top → Range (l - fraction_bits) (2 ^ l) B (x ⊘ y)
  range_div l B e N h HB b o =
      subst (Range (l - fraction_bits) (2 ^ l) B) (sym (div_rounded x y (sign x) (sign y) (mag x) (mag y) (range_value r) (range_value p) N))
      (range_rounded (unlike (sign x) (sign y)) (mag x * U) (mag y) (l - fraction_bits) (2 ^ l) B N (quotient_grain l e h) (representable_pow l) (quotient_least (2 ^ l) h) HB (quotient_most B N b) o)

-- ---- a value and its copy
pub record Moved (k : ℕ) (b : Bounds) (x x' : Float) : Type 0 where
  pub range : Bounded b x
  pub copy : x' ≡ shift (pos k) x

pub moved_within : {k : ℕ} {b : Bounds} {x x' : Float} (d : Bounds) → T (within b d) → Moved k b x x' → Moved k d x x'
moved_within {b = b} d t r = record { range = bounded_within b d t r.range; copy = r.copy }

-- what is not shifted is its own copy
pub still : {x : Float} (b : Bounds) → Bounded b x → Moved 0 b x x
still {x} b r = record { range = r; copy = sym (shift_zero x) }

pub moved_zero : (k : ℕ) (b : Bounds) → Moved k b zero⁺ zero⁺
moved_zero k b = record { range = zero_bounded b; copy = sym (shift_zero⁺ (pos k)) }

moved_neg : {k : ℕ} {b : Bounds} {x x' : Float} → Moved k b x x' → Moved k b (neg x) (neg x')
moved_neg {k} {x = x} r = record { range = range_neg r.range; copy = ap neg r.copy ∙ neg_shift (pos k) x }

pub moved_abs : {k : ℕ} {b : Bounds} {x x' : Float} → Moved k b x x' → Moved k b (abs x) (abs x')
moved_abs {k} {x = x} r = record { range = range_abs r.range; copy = ap abs r.copy ∙ abs_shift (pos k) x }

-- a sum and a difference, of operands whose bounds d covers
pub moved_add : {k : ℕ} {b c : Bounds} {x x' y y' : Float} (d : Bounds) → T (covers d b) → T (covers d c) → Moved k b x x' → Moved k c y y' → (sum_of 1 d).most + k ≤ top_bits → Moved k (sum_of 1 d) (x ⊕ y) (x' ⊕ y')
moved_add {k} {b} {c} d s t r p o =
    let h = 1 + d.most in
    let both : 2 ^ d.most + 2 ^ d.most ≡ 2 ^ h = omega (arith, pow-add 2 1 d.most) in
    let u = bounded_coarse b d s r.range in
    let v = bounded_coarse c d t p.range in
    record {
      range = range_add u v (2 ^ h) (le_of_eq both) (representable_pow h) (pow_under_Top h (omega arith));
      copy = ap₂ ◌⊕◌ r.copy p.copy ∙ add_copy u v k (2 ^ (h + k)) (le_of_eq (ap (λ (z : ℕ). z * 2 ^ k) both ∙ sym (pow-add 2 h k))) (representable_pow (h + k)) (pow_under_Top (h + k) o);
    }

pub moved_sub : {k : ℕ} {b c : Bounds} {x x' y y' : Float} (d : Bounds) → T (covers d b) → T (covers d c) → Moved k b x x' → Moved k c y y' → (sum_of 1 d).most + k ≤ top_bits → Moved k (sum_of 1 d) (x ⊖ y) (x' ⊖ y')
unfolding sub
moved_sub d s t r p o = moved_add d s t r (moved_neg p) o

product_moved : {i j : ℕ} {b c : Bounds} {x x' y y' : Float} → Moved i b x x' → Moved j c y y' → (d : Bounds) → Grained d.grain (mag x * mag y) U → d.least + one_bits ≤ b.least + c.least → b.most + c.most ≤ d.most + one_bits → d.most + (i + j) ≤ top_bits
    → Moved (i + j) d (x ⊗ y) (x' ⊗ y')
product_moved {i} {j} {b} {c} {x} {x'} {y} {y'} r p d G el eh o =
    let most = pow_le_U b.most c.most d.most eh in
    record {
      range = range_mul r.range p.range d.grain (2 ^ d.least) (2 ^ d.most) G (representable_pow d.least) (U-le-pow d.least b.least c.least el) (representable_pow d.most) most (pow_under_Top d.most (omega arith));
      copy = ap₂ ◌⊗◌ r.copy p.copy ∙ mul_shift x y (sign x) (sign y) (mag x) (mag y) (range_value r.range) (range_value p.range) i j (grained_finer 0 d.grain (mag x * mag y) U zero-le G)
          (no_overflow (mag x * mag y) U d.most (i + j) U_pos (le_trans (product_most r.range p.range) most) o);
    }

-- by the grains, and by the sizes where the product is in the normal range
pub moved_mul : {i j : ℕ} {b c : Bounds} {x x' y y' : Float} → Moved i b x x' → Moved j c y y' → one_bits ≤ b.grain + c.grain → (product_of b c).most + (i + j) ≤ top_bits → Moved (i + j) (product_of b c) (x ⊗ y) (x' ⊗ y')
moved_mul {b = b} {c} r p e o = product_moved (by_grain r) (by_grain p) (product_of b c) (by_grains r.range p.range e) (omega arith) (omega arith) o
  where
    by_grain : {k : ℕ} {b : Bounds} {x x' : Float} → Moved k b x x' → Moved k (multiples b.grain b.most) x x'
    by_grain r = record { range = range_grain r.range; copy = r.copy }

pub moved_mul_normal : {i j : ℕ} {b c : Bounds} {x x' y y' : Float} → Moved i b x x' → Moved j c y y' → fraction_bits + one_bits ≤ b.least + c.least → (normal_product_of b c).most + (i + j) ≤ top_bits
    → Moved (i + j) (normal_product_of b c) (x ⊗ y) (x' ⊗ y')
moved_mul_normal {b = b} {c} r p e o =
    let l = b.least + c.least - one_bits in
    product_moved r p (normal_product_of b c) (by_sizes_lem r.range p.range l (omega arith) (U-le-pow l b.least c.least (omega arith))) (omega arith) (omega arith) o

-- the divisor is not zero and is shifted by j, or by 0 (`still`): the quotient is shifted by what the dividend is shifted more
pub moved_div : {i j : ℕ} {b c : Bounds} {x x' y y' : Float} → Moved (i + j) b x x' → Moved j c y y' → 0 < mag y → fraction_bits + c.most ≤ b.least + one_bits → (quotient_of b c).most + i ≤ top_bits
    → Moved i (quotient_of b c) (x ⊘ y) (x' ⊘ y')
moved_div {i} {j} {b} {c} {x} {x'} {y} {y'} r p N e o =
    let d = quotient_of b c in
    let l = d.least in
    let h = d.most in
    let least = pow_le_U l c.most b.least (omega arith) in
    let most = U-le-pow b.most h c.least (omega arith) in
    record {
      range = range_div r.range p.range l (2 ^ h) (omega arith) N least (representable_pow h) most (pow_under_Top h (omega arith));
      copy = ap₂ ◌⊘◌ (r.copy ∙ sym (shift_shift (pos i) (pos j) x)) p.copy ∙ div_alike (pos j) (shift (pos i) x) y
          ∙ div_shift x y (sign x) (sign y) (mag x) (mag y) (range_value r.range) (range_value p.range) i N (grained_finer 0 d.grain (mag x * U) (mag y) zero-le (quotient_grain r.range p.range l (omega arith) least))
          (no_overflow (mag x * U) (mag y) h i N (quotient_most r.range p.range (2 ^ h) N most) o);
    }

pub moved_over : {k : ℕ} {b c : Bounds} {x x' y : Float} → Moved k b x x' → Moved 0 c y y → 0 < mag y → fraction_bits + c.most ≤ b.least + one_bits → (quotient_of b c).most + k ≤ top_bits
    → Moved k (quotient_of b c) (x ⊘ y) (x' ⊘ y)
moved_over {k} {b} {x = x} {x'} r p N e o = moved_div {i = k} {j = 0} (subst (λ (n : ℕ). Moved n b x x') (sym (add-zero k)) r) p N e o
