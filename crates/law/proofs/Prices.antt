-- Document 02, "Paper 4. Questions in prices", its law: prices times a power of two for each column have the same record and the same returns (`prices_law`).
-- A quotient of two numbers shifted alike is the same float, and no test of finiteness or sign sees a shift; so this holds of any prices wherever the
-- multiplication is exact (`shifted_prices`). Assumes nothing.
use mathlib.Core.Path.{◌≡◌, refl, sym, ap, ap₂, ◌∙◌, subst}
use mathlib.Core.Logic.{inl, inr}
use mathlib.Core.Bool.{not}
use mathlib.Core.List.{List, [], ◌∷◌, ◌++◌}
use mathlib.Core.Option.{Option}
use Prim.Native.Nat.{ℕ, zero, suc, ◌+◌, ◌-◌, ◌*◌, ◌%◌, ◌<◌}
use native.Mathlib.Nat.{not-suc-le-zero, le_of_suc-le-suc}
use native.Mathlib.Omega.{arith}
use lib.Arith.{digits_mod}
use lib.Dec.{T}
use lib.IntN.{ℤ, pos, negsuc}
use lib.ListN.{length, get_or-eq_default}
use lib.Ieee.{Float, nan, binary64, fits, le}
use Rattle.leaves.specs.Numbers.{◌⊖◌, ◌⊘◌, zero⁺, one, is_finite}
use Rattle.leaves.specs.Loops.{nth}
use Rattle.leaves.specs.Shift.{shift}
use Rattle.leaves.proofs.Whole.{le_or_lt}
use Rattle.leaves.proofs.Shift.{shift_nan, shift_zero⁺, shift_forth, is_finite_shift, le_shift}
use Rattle.leaves.proofs.Arithmetic.{div_alike}
use Rattle.matrix.specs.Matrix.{Matrix, at, rows}
use Rattle.matrix.proofs.Stored.{rows_ext}
use Rattle.matrix.proofs.Alike.{first_entry_alike}
use Rattle.rules.specs.Refusals.{Check, passes, refuses, when_some, first}
use Rattle.rules.specs.Order.{not_finite}
use Rattle.rules.specs.Prices.{simple_returns, by_price_shape, by_prices, non_positive, prices_order, Converted, convert, returns_from_prices}
use Rattle.rules.specs.declared.Refusal.TheVariants.{NotFinite, NonPositivePrice}
use Rattle.rules.proofs.Passed.{passes_not}
use Rattle.law.specs.Law.{All, Sized, Copy}
use Rattle.law.specs.Prices.{PriceInput, converted_by, price_range, SameReturns, PricesLaw}
use Rattle.law.proofs.Numbers.{copy-shift, times_up, take_fill}
use Rattle.law.proofs.Sizes.{sized_fits}

-- ---- entry by entry: the second matrix is the first, with a shift for each of n columns
module _ (k : ℕ → ℤ) (n : ℕ) (x y : Matrix) (moved : (t i : ℕ) → i < n → y t i ≡ shift (k i) (x t i)) where
  finite_moved : (m : ℕ) → not_finite m n y ≡ not_finite m n x
  unfolding not_finite
  finite_moved m = ap (λ (o : Option (ℕ × ℕ)). when_some o (λ p. NotFinite p.0 p.1))
      (first_entry_alike m n (λ t i. not (is_finite (y t i))) (λ t i. not (is_finite (x t i))) (λ t i ht hi. ap not (ap is_finite (moved t i hi) ∙ is_finite_shift (k i) (x t i))))

  positive_moved : (m : ℕ) → non_positive m n y ≡ non_positive m n x
  unfolding non_positive
  positive_moved m = ap (λ (o : Option (ℕ × ℕ)). when_some o (λ p. NonPositivePrice p.0 p.1))
      (first_entry_alike m n (λ t i. le (y t i) zero⁺) (λ t i. le (x t i) zero⁺) (λ t i ht hi. ap₂ le (moved t i hi) (sym (shift_zero⁺ (k i))) ∙ le_shift (k i) (x t i) zero⁺))

  returns_same : (t i : ℕ) → i < n → simple_returns y t i ≡ simple_returns x t i
  unfolding simple_returns
  returns_same t i hi = ap (λ (z : Float). z ⊖ one) (ap₂ ◌⊘◌ (moved (suc t) i hi) (moved t i hi) ∙ div_alike (k i) (x (suc t) i) (x t i))

  returns_finite_same : (m : ℕ) → not_finite m n (simple_returns y) ≡ not_finite m n (simple_returns x)
  unfolding not_finite
  returns_finite_same m = ap (λ (o : Option (ℕ × ℕ)). when_some o (λ p. NotFinite p.0 p.1))
      (first_entry_alike m n (λ t i. not (is_finite (simple_returns y t i))) (λ t i. not (is_finite (simple_returns x t i))) (λ t i ht hi. ap (λ (z : Float). not (is_finite z)) (returns_same t i hi)))

  checks_same : (R : ℕ) → by_prices R n y ≡ by_prices R n x
  checks_same R = λ t. finite_moved R t ∷ positive_moved R t ∷ returns_finite_same (R - 1) t ∷ []

-- ---- two price slices, where price j of the second is the first's, shifted as its column is
module _ (k : ℕ → ℤ) (n R : ℕ) (p q : List Float) (long : length p ≡ length q) (moved : (j : ℕ) → j < length p → nth q j ≡ shift (k (j % n)) (nth p j)) where
  -- past the end there is none in either
  number : (j : ℕ) → nth q j ≡ shift (k (j % n)) (nth p j)
  number j = elim (le_or_lt (length p) j) [
    | inl h ↦ get_or-eq_default q nan (omega arith) ∙ sym (ap (shift (k (j % n))) (get_or-eq_default p nan h) ∙ shift_nan (k (j % n)))
    | inr h ↦ moved j h
  ]

  entry : (t i : ℕ) → i < n → at q n t i ≡ shift (k i) (at p n t i)
  entry t i h = number (t * n + i) ∙ ap (λ (c : ℕ). shift (k c) (at p n t i)) (digits_mod t h)

  order_same : (slice slice' : List Float) → length slice ≡ length slice' → prices_order q n R slice' ≡ prices_order p n R slice
  unfolding prices_order
  order_same slice slice' room = λ t. by_price_shape (sym long t) n R (sym room t) ++ checks_same k n (at p n) (at q n) entry R t

  stored_same : rows (R - 1) n (simple_returns (at q n)) ≡ rows (R - 1) n (simple_returns (at p n))
  stored_same = rows_ext (R - 1) n (simple_returns (at q n)) (simple_returns (at p n)) (λ t i ht hi. returns_same k n (at p n) (at q n) entry t i hi)

  same_by : (m : ℕ) (returns slice slice' : List Float) (c : Check) → SameReturns m (convert c m returns slice) (convert c m returns slice')
  unfolding convert
  same_by m returns slice slice' passes = record { check = refl; returns = λ e. take_fill m (nth returns) slice ∙ sym (take_fill m (nth returns) slice') }
  same_by m returns slice slice' (refuses c) = record { check = refl; returns = λ e. absurd (passes_not (sym e)) }

  pub shifted_prices : (slice slice' : List Float) → length slice ≡ length slice' → SameReturns ((R - 1) * n) (returns_from_prices p n R slice) (returns_from_prices q n R slice')
  unfolding returns_from_prices
  shifted_prices slice slice' room =
      let m = (R - 1) * n in
      subst (λ (y : Converted). SameReturns m (returns_from_prices p n R slice) y) (λ t. convert (first (sym (order_same slice slice' room) t)) m (sym stored_same t) slice')
      (same_by m (rows (R - 1) n (simple_returns (at p n))) slice slice' (first (prices_order p n R slice)))

-- ---- "times 2 ^ k" is a shift, of numbers of f64
moved_by : (k : ℤ) (x y : Float) → T (fits binary64 x) → T (fits binary64 y) → Copy k x y → y ≡ shift k x
moved_by (pos k) x y t u c = copy-shift k x y t u c
moved_by (negsuc k) x y t u c = sym (shift_forth (negsuc k) y) ∙ ap (shift (negsuc k)) (sym (copy-shift (suc k) y x u t (times_up k x y c.0, sym c.1)))

all_at : (P : Float → Type 0) (l : List Float) → All P l → (j : ℕ) → j < length l → P (nth l j)
all_at P [] h j l = absurd (not-suc-le-zero l)
all_at P (x ∷ xs) h zero l = h.0
all_at P (x ∷ xs) h (suc j) l = all_at P xs h.1 j (le_of_suc-le-suc l)

pub prices_law : PricesLaw
prices_law k a b s = subst (λ (y : PriceInput). SameReturns m (converted_by a) (converted_by y)) renamed
    (shifted_prices k a.assets a.rows a.prices b.prices s.price_length moved a.slice b.slice s.slice_length)
  where
    m : ℕ
    m = (a.rows - 1) * a.assets

    fits_at : (l : List Float) → All (Sized price_range) l → (j : ℕ) → j < length l → T (fits binary64 (nth l j))
    fits_at l h j i = sized_fits price_range (nth l j) (all_at (Sized price_range) l h j i)

    moved : (j : ℕ) → j < length a.prices → nth b.prices j ≡ shift (k (j % a.assets)) (nth a.prices j)
    moved j h =
        let h' = subst (λ (l : ℕ). j < l) s.price_length h in
        moved_by (k (j % a.assets)) (nth a.prices j) (nth b.prices j) (fits_at a.prices s.before j h) (fits_at b.prices s.after j h') (s.prices j h)

    named : ℕ → ℕ → PriceInput
    named n R = record { prices = b.prices; assets = n; rows = R; slice = b.slice }

    renamed : named a.assets a.rows ≡ b
    renamed = λ t. named (s.assets t) (s.rows t)
