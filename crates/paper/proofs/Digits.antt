-- Laws of `specs/Text.antt`: digits formed from the last to the first, and the zeros in front. Assumes nothing.
use mathlib.Core.Path.{◌≡◌, refl, sym, ap, ◌∙◌}
use mathlib.Core.Bool.{Bool, true, false, cond}
use mathlib.Core.List.{List, [], ◌∷◌, ◌++◌, append-nil}
use Prim.Native.Nat.{ℕ, zero, suc, ◌+◌, ◌-◌, ◌/◌, ◌%◌, ◌^◌, ◌≤◌, ◌<◌}
use native.Mathlib.Nat.{not-suc-le-zero, le_of_suc-le-suc, le_trans, le_of_eq, lt_of_lt_of_le, zero-add, suc-add, sub-zero, suc-sub-suc}
use native.Mathlib.Nat.{zero-mod, pow-zero, pow-suc, pow-le-pow_right, div-lt_iff_lt-mul}
use native.Mathlib.Numerals.{add-one, sub-one}
use native.Mathlib.Omega.{arith}
use lib.ListN.{length, set, take, drop, get_or, length-append, length-drop, drop_of_length-le}
use lib.Seq.{take_all, drop-cons, append_snoc, drop-set-lt, get_or-set_same, lt-length-set, drop-length, drop-append-le}
use lib.Dec.{eqb}
use borrow.Author.Tests.{eq-eqb, ne_eqb}
use Rattle.paper.specs.Text.{digit_zero, glyph, digits, unpadded}

-- Of the digits w, those from i on stand in the text, and the i digits of rest are left.

pub digits_all : (b n : ℕ) (text : List ℕ) → digits b (length text) n ≡ digits b (length text) n ++ drop (length text) text
digits_all b n text = rw (drop-length text) (sym (append-nil (digits b (length text) n)))

pub digits_turn : (b rest i : ℕ) (text w : List ℕ) → 0 < i → i ≤ length text → w ≡ digits b i rest ++ drop i text
    → w ≡ digits b (i - 1) (rest / b) ++ drop (i - 1) (set text (i - 1) (glyph (rest % b)))
unfolding digits
digits_turn b rest zero text w p h e = absurd (not-suc-le-zero p)
digits_turn b rest (suc j) text w p h e = rw (sub-one, formed text j (glyph (rest % b)) h) (e ∙ append_snoc (digits b j (rest / b)) (glyph (rest % b)) (drop (suc j) text))
  where
    formed : (text : List ℕ) (j g : ℕ) → j < length text → drop j (set text j g) ≡ g ∷ drop (suc j) text
    formed text j g h = drop-cons (set text j g) j 0 (lt-length-set text j g h) ∙ rw (get_or-set_same text j g 0 h, drop-set-lt (suc j) text j g (omega arith))

pub digits_end : (b rest i : ℕ) (text w : List ℕ) → i ≤ 0 → w ≡ digits b i rest ++ drop i text → text ≡ w
unfolding digits
digits_end b rest zero text w h e = sym e
digits_end b rest (suc i) text w h e = absurd (not-suc-le-zero h)

-- ---- fewer digits

pub unpadded_length : (l : List ℕ) → length (unpadded l) ≤ length l
unfolding unpadded
unpadded_length [] = omega arith
unpadded_length (d ∷ []) = omega arith
unpadded_length (d ∷ e ∷ l) = go (eqb d digit_zero) (unpadded_length (e ∷ l))
  where
    go : (t : Bool) → length (unpadded (e ∷ l)) ≤ length (e ∷ l) → length (cond t (unpadded (e ∷ l)) (d ∷ e ∷ l)) ≤ length (d ∷ e ∷ l)
    go true h = omega arith
    go false h = omega arith

pub digits_length : (b k n : ℕ) → length (digits b k n) ≡ k
unfolding digits
digits_length b zero n = refl
digits_length b (suc k) n = rw (length-append, digits_length b k (n / b)) (add-one k)

-- the last k of m digits
digits_last : (b m k n : ℕ) → k ≤ m → drop (m - k) (digits b m n) ≡ digits b k n
unfolding digits
digits_last b m zero n h = rw sub-zero (drop_of_length-le (digits b m n) {i = m} (omega (arith, digits_length b m n)))
digits_last b zero (suc k) n h = absurd (not-suc-le-zero h)
digits_last b (suc m) (suc k) n h =
    rw (suc-sub-suc m k, drop-append-le (m - k) (digits b m (n / b)) (glyph (n % b) ∷ []) (omega (arith, digits_length b m (n / b))), digits_last b m k (n / b) (le_of_suc-le-suc h))

-- below b ^ m, the first of m + 1 digits is 0
leading_zero : (b m n : ℕ) → 0 < b → n < b ^ m → digits b (suc m) n ≡ digit_zero ∷ digits b m n
unfolding digits glyph
leading_zero b zero n B h = let e : n ≡ 0 = omega (arith, pow-zero b) in rw (e, zero-mod b)
leading_zero b (suc m) n B h = rw (leading_zero b m (n / b) B ((div-lt_iff_lt-mul B).1 (rw (pow-suc b m) at h)))

-- a number below b ^ (k + 1) has k + 1 digits at most, with those in front left out
pub few_digits : (b j k n : ℕ) → 0 < b → n < b ^ suc k → length (unpadded (digits b (j + suc k) n)) ≤ suc k
unfolding unpadded
few_digits b zero k n B h = rw zero-add (le_trans (unpadded_length (digits b (suc k) n)) (le_of_eq (digits_length b (suc k) n)))
few_digits b (suc j) k n B h =
    let i = j + suc k in
    let more : n < b ^ i = lt_of_lt_of_le h (pow-le-pow_right B (omega arith)) in
    let some : 0 < length (digits b i n) = rw (digits_length b i n) (omega arith) in
    rw (suc-add j (suc k), leading_zero b i n B more, after_zero (digits b i n) some) (few_digits b j k n B h)
  where
    after_zero : (l : List ℕ) → 0 < length l → unpadded (digit_zero ∷ l) ≡ unpadded l
    after_zero [] h = absurd (not-suc-le-zero h)
    after_zero (d ∷ l) h = refl

-- ---- m digits, written from place i on

module _ (b m n i : ℕ) (text : List ℕ) (e : text ≡ digits b m n) where
  digits_from : take (m - i) (drop i text) ≡ drop i text
  digits_from = take_all (m - i) (drop i text) (rw (length-drop, e, digits_length) (omega arith))

  pub last_digits : (k : ℕ) → k ≤ m → i ≡ m - k → take (m - i) (drop i text) ≡ digits b k n
  last_digits k h f = digits_from ∙ rw (e, f) (digits_last b m k n h)

  pub all_but_zeros : drop i text ≡ unpadded text → take (m - i) (drop i text) ≡ unpadded (digits b m n)
  all_but_zeros h = digits_from ∙ h ∙ ap unpadded e

-- ---- the zeros in front

-- a digit and at least one more stand from i on
two : (text : List ℕ) (i : ℕ) → i + 1 < length text → drop i text ≡ get_or text i 0 ∷ get_or text (i + 1) 0 ∷ drop (suc (i + 1)) text
two text i h = drop-cons text i 0 (omega arith) ∙ ap (λ (r : List ℕ). get_or text i 0 ∷ r) (rw (add-one i) (drop-cons text (suc i) 0 (rw (add-one i) at h)))

module _ (text : List ℕ) (i : ℕ) where
  pub unpadded_zero : i + 1 < length text → get_or text i 0 ≡ digit_zero → unpadded (drop i text) ≡ unpadded (drop (i + 1) text)
  unfolding unpadded
  unpadded_zero h e = rw (two text i h, eq-eqb (get_or text i 0) digit_zero e) (ap unpadded (sym (drop-cons text (i + 1) 0 h)))

  pub unpadded_digit : i + 1 < length text → (get_or text i 0 ≡ digit_zero → ⊥) → unpadded (drop i text) ≡ drop i text
  unfolding unpadded
  unpadded_digit h e = rw (two text i h, ne_eqb (get_or text i 0) digit_zero e)

  pub unpadded_last : length text ≤ i + 1 → unpadded (drop i text) ≡ drop i text
  unfolding unpadded
  unpadded_last h = last (drop i text) (rw length-drop (omega arith))
    where
      last : (l : List ℕ) → length l ≤ 1 → unpadded l ≡ l
      last [] h = refl
      last (d ∷ []) h = refl
      last (d ∷ e ∷ l) h = absurd (not-suc-le-zero (le_of_suc-le-suc h))
