-- Where prices are accepted, every return is finite and at least -1 (`returns_bounded`): accepted prices are finite and above 0, so their quotient has no minus sign,
-- and 1 less than such a number, rounded, is not below -1, which f64 holds. Assumes nothing.
use mathlib.Core.Path.{◌≡◌, refl, sym, ap, ◌∙◌, subst}
use mathlib.Core.Bool.{Bool, true, false, not, ◌&&◌, cond}
use mathlib.Core.List.{List, []}
use mathlib.Core.Option.{Option, none, some}
use Prim.Native.Nat.{ℕ, zero, suc, ◌+◌, ◌-◌, ◌*◌, ◌/◌, ◌%◌, ◌≤◌, ◌<◌}
use native.Mathlib.Nat.{le_trans, le_of_eq, mul-one, zero-lt-suc}
use native.Mathlib.Omega.{arith}
use mathlib.Mathlib.Data.Bool.Basic.{or-eq-false-eq-eq-false-and-eq-false}
use borrow.Author.Tests.{le-ltb, ltb-true, not-false}
use lib.Arith.{digits_lt}
use lib.Dec.{T, ltb}
use lib.ListN.{length}
use lib.Ieee.{Float, nan, inf, fin, binary64, sub, neg, is_nan, lt, le, eq, below}
use lib.Ieee.Fits.{sub-fits, div-fits}
use Rattle.leaves.specs.Numbers.{◌⊖◌, ◌⊘◌, zero⁺, one, is_finite}
use Rattle.leaves.specs.Loops.{first_to, nth}
use Rattle.leaves.proofs.First.{first_all}
use Rattle.leaves.proofs.Fill.{fill_at}
use Rattle.leaves.proofs.Cells.{at_cell, row_below, col_below}
use Rattle.leaves.proofs.Signs.{sign_div, sign_round}
use Rattle.leaves.proofs.Zero.{no, is_below, zero_is_zero}
use Rattle.leaves.proofs.Keys.{finite_number}
use Rattle.leaves.proofs.Units.{one_bits, U, Val, sign, mag, rounded, U-is, one_val, neg_val, mag_val, lt_val, finite_mag, Finite}
use Rattle.leaves.proofs.Rounding.{near, near_most, representable_pow}
use Rattle.leaves.proofs.Arithmetic.{sum_sign, distance, add_rounded, add_finite}
use Rattle.matrix.specs.Matrix.{Matrix, at, rows, first_entry}
use Rattle.matrix.proofs.Stored.{rows_nth}
use Rattle.rules.specs.Refusals.{Check, passes, refuses, when_some, first}
use Rattle.rules.specs.Order.{not_finite}
use Rattle.rules.specs.Prices.{simple_returns, by_price_shape, by_prices, non_positive, prices_order, convert, returns_from_prices}
use Rattle.rules.specs.declared.Refusal.{Refusal}
use Rattle.rules.proofs.Passed.{passes_not, pass_cons}
use Rattle.law.proofs.Comparisons.{not_lt, plus_val}
use Rattle.law.proofs.Passing.{pass_append}

-- ---- a number without a minus sign, minus 1
module _ (z : Float) (whole : Finite z) (plus : sign z ≡ false) (finite : T (is_finite (z ⊖ one))) where
  r : Float
  r = z ⊖ one

  -- the number that is rounded
  is_rounded : r ≡ rounded (sum_sign false (mag z) true U) (distance (mag z) U) 1
  unfolding r sub
  is_rounded = add_rounded z (neg one) false true (mag z) U (plus_val z whole.0 whole.1 plus) (neg_val one false U one_val)

  r_val : Val r (sign r) (mag r)
  unfolding r
  r_val = mag_val (z ⊖ one) (sub-fits binary64 z one) finite

  r_sign : sign r ≡ sum_sign false (mag z) true U
  r_sign = ap sign is_rounded ∙ sign_round (sum_sign false (mag z) true U) (distance (mag z) U) (1 * U)

  r_mag : mag r ≡ near (distance (mag z) U) 1
  r_mag = finite_mag r (sum_sign false (mag z) true U) (distance (mag z) U) 1 (zero-lt-suc 0) is_rounded (unfold r in finite)

  -- below 1, the number is at most 1 away from it
  near_one : mag z < U → near (distance (mag z) U) 1 ≤ U
  near_one l = near_most (distance (mag z) U) 1 U (zero-lt-suc 0) (rw U-is (representable_pow one_bits)) (rw (mul-one U) (omega arith))

  not_below_one : lt r (neg one) ≡ false
  not_below_one = lt_val r (neg one) (sign r) true (mag r) U r_val (neg_val one false U one_val) ∙ go (ltb (mag z) U) refl r_sign
    where
      go : (b : Bool) → ltb (mag z) U ≡ b → sign r ≡ cond b true (false && ltb U (mag z)) → below (sign r) (mag r) true U ≡ false
      go true h s = ap (λ (t : Bool). below t (mag r) true U) s ∙ le-ltb U (mag r) (le_trans (le_of_eq r_mag) (near_one (ltb-true (mag z) U h)))
      go false h s = ap (λ (t : Bool). below t (mag r) true U) s

  at_least : le (neg one) (z ⊖ one) ≡ true
  unfolding r is_nan neg
  at_least = not_lt (neg one) (z ⊖ one) tt (finite_number (z ⊖ one) finite) not_below_one

-- ---- a price that passes: finite, and not at most 0
neither : (x : Float) → le x zero⁺ ≡ false → (lt x zero⁺ ≡ false) × (eq x zero⁺ ≡ false)
unfolding le
neither x h = (or-eq-false-eq-eq-false-and-eq-false (lt x zero⁺) (eq x zero⁺)).0 h

price_plus : (x : Float) → is_finite x ≡ true → le x zero⁺ ≡ false → sign x ≡ false
unfolding is_finite sign
price_plus nan f h = no f refl
price_plus (inf s) f h = no f refl
price_plus (fin false m e) f h = refl
price_plus (fin true zero e) f h = no (zero_is_zero true e) (neither (fin true zero e) h).1
price_plus (fin true (suc m) e) f h = no (is_below m e) (neither (fin true (suc m) e) h).0

return_bounded : (x y : Float) → is_finite x ≡ true → is_finite y ≡ true → le x zero⁺ ≡ false → le y zero⁺ ≡ false → is_finite (y ⊘ x ⊖ one) ≡ true → le (neg one) (y ⊘ x ⊖ one) ≡ true
unfolding sub
return_bounded x y fx fy px py f =
    let t : T (is_finite (y ⊘ x ⊖ one)) = subst T (sym f) tt in
    at_least (y ⊘ x) (div-fits binary64 y x, (add_finite (y ⊘ x) (neg one) t).0) (sign_div y x (price_plus y fy py ∙ sym (price_plus x fx px))) t

-- ---- a check of all entries that passes
all_clear : (m n : ℕ) (test : ℕ → ℕ → Bool) (c : ℕ × ℕ → Refusal) → when_some (first_entry m n test) c ≡ passes → (i j : ℕ) → i < m → j < n → test i j ≡ false
unfolding first_entry
all_clear m n test c e i j hi hj = sym (at_cell test i n j hj) ∙ first_all (λ k. test (k / n) (k % n)) (m * n) (go (first_to (m * n) (λ k. test (k / n) (k % n))) e) (i * n + j) (digits_lt hi hj)
  where
    go : (o : Option ℕ) → when_some (elim o as (λ z. Option (ℕ × ℕ)) [ none ↦ none | some k ↦ some (k / n, k % n) ]) c ≡ passes → o ≡ none
    go none e = refl
    go (some k) e = absurd (passes_not (sym e))

all_finite_lem : (m n : ℕ) (a : Matrix) → not_finite m n a ≡ passes → (i j : ℕ) → i < m → j < n → is_finite (a i j) ≡ true
unfolding not_finite
all_finite_lem m n a e i j hi hj = not-false (is_finite (a i j)) (all_clear m n (λ i j. not (is_finite (a i j))) _ e i j hi hj)

all_positive : (m n : ℕ) (a : Matrix) → non_positive m n a ≡ passes → (i j : ℕ) → i < m → j < n → le (a i j) zero⁺ ≡ false
unfolding non_positive
all_positive m n a e = all_clear m n (λ i j. le (a i j) zero⁺) _ e

-- ---- every return
module _ (p : List Float) (n R : ℕ) (slice : List Float) (accepted : (returns_from_prices p n R slice).check ≡ passes) where
  returned : List Float
  returned = rows (R - 1) n (simple_returns (at p n))

  order_passes : first (prices_order p n R slice) ≡ passes
  unfolding returns_from_prices convert
  order_passes = go (first (prices_order p n R slice)) accepted
    where
      go : (c : Check) → (convert c ((R - 1) * n) (rows (R - 1) n (simple_returns (at p n))) slice).check ≡ passes → c ≡ passes
      go passes e = refl
      go (refuses c) e = e

  is_return : (k : ℕ) → k < (R - 1) * n → nth (returns_from_prices p n R slice).slice k ≡ simple_returns (at p n) (k / n) (k % n)
  unfolding returns_from_prices convert returned
  is_return k h =
      ap (λ (c : Check). nth (convert c ((R - 1) * n) returned slice).slice k) order_passes
      ∙ fill_at (nth returned) ((R - 1) * n) slice k nan h ∙ rows_nth (simple_returns (at p n)) (R - 1) n k h

  pub returns_bounded : (k : ℕ) → k < (R - 1) * n → let r = nth (returns_from_prices p n R slice).slice k in (is_finite r ≡ true) × (le (neg one) r ≡ true)
  unfolding prices_order simple_returns
  returns_bounded k h =
      let x = at p n in
      let t = k / n in
      let i = k % n in
      let ht = row_below k (R - 1) n h in
      let hi = col_below k (R - 1) n h in
      let a = pass_cons (not_finite R n x) _ (pass_append (by_price_shape (length p) n R (length slice)) (by_prices R n x) order_passes).1 in
      let b = pass_cons (non_positive R n x) _ a.1 in
      let c = pass_cons (not_finite (R - 1) n (simple_returns x)) [] b.1 in
      let finite : (t : ℕ) → t < R → is_finite (x t i) ≡ true = λ t l. all_finite_lem R n x a.0 t i l hi in
      let positive : (t : ℕ) → t < R → le (x t i) zero⁺ ≡ false = λ t l. all_positive R n x b.0 t i l hi in
      let f = all_finite_lem (R - 1) n (simple_returns x) c.0 t i ht hi in
      let l = return_bounded (x t i) (x (suc t) i) (finite t (omega arith)) (finite (suc t) (omega arith)) (positive t (omega arith)) (positive (suc t) (omega arith)) f in
      (ap is_finite (is_return k h) ∙ f, ap (le (neg one)) (is_return k h) ∙ l)
