-- The common exponent of numbers m i * 2 ^ k i: the largest of b(m i) + k i over the numbers that are not zero, and 0 where all are. Where all of them are not zero and every k i falls by j,
-- it falls by j. Assumes nothing.
use mathlib.Core.Path.{◌≡◌, refl, sym, ap, ◌∙◌, subst}
use mathlib.Core.Logic.{inl, inr}
use Prim.Native.Nat.{ℕ, zero, suc, ◌+◌, ◌<◌}
use native.Mathlib.Nat.{lt-suc_self, lt_trans, le_refl, le_of_suc-le-suc, eq-or-lt_of_le, not-suc-le-zero}
use native.Mathlib.Omega.{arith}
use mathlib.Core.Bool.{Bool, true, false, cond}
use mathlib.Core.Option.{Option, none, some}
use lib.Signed.{lt_z}
use lib.IntN.{ℤ, pos, neg_ℤ, ◌+ℤ◌}
use lib.Ieee.{Float, eq}
use Rattle.leaves.specs.Numbers.{zero⁺}
use Rattle.leaves.specs.Loops.{loop}
use Rattle.leaves.specs.Scaling.{binary_exponent}
use Rattle.leaves.proofs.Whole.{pos_part, neg_part, plus, same, pos_part_neg, neg_part_neg, lt_yes, lt_no, LeZ}
use Rattle.leaves.proofs.Zero.{no}
use Rattle.rules.specs.BayesStein.{larger_z, or_zero, common_exponent, with_exponent}

module _ (m : ℕ → Float) (k : ℕ → ℤ) where
  abbrev pub exponent : ℕ → ℤ
  exponent i = binary_exponent (m i) +ℤ k i

  abbrev step : ℕ → Option ℤ → Option ℤ
  step i found = with_exponent found (m i) (k i)

  -- after n numbers: all were zero, or o is the exponent of one, and none is larger
  record Top (n : ℕ) (o : ℤ) : Type 0 where
    at : ℕ
    below : at < n
    is : o ≡ binary_exponent (m at) +ℤ k at
    largest : (i : ℕ) → i < n → eq (m i) zero⁺ ≡ false → LeZ (binary_exponent (m i) +ℤ k i) o

  abbrev Reached : ℕ → Option ℤ → Type 0
  Reached n none = (i : ℕ) → i < n → eq (m i) zero⁺ ≡ true
  Reached n (some o) = Top n o

  -- the next number is zero or no larger; or larger than all before
  stays : (n : ℕ) (o : ℤ) → Top n o → (eq (m n) zero⁺ ≡ false → LeZ (exponent n) o) → Top (suc n) o
  stays n o r h = record {
    at = r.at;
    below = lt_trans r.below (lt-suc_self n);
    is = r.is;
    largest = λ i l z. elim (eq-or-lt_of_le (le_of_suc-le-suc l)) [ inl q ↦ subst (λ (j : ℕ). LeZ (exponent j) o) (sym q) (h (subst (λ (j : ℕ). eq (m j) zero⁺ ≡ false) q z)) | inr q ↦ r.largest i q z ];
  }

  rises : (n : ℕ) → ((i : ℕ) → i < n → eq (m i) zero⁺ ≡ false → LeZ (exponent i) (exponent n)) → Top (suc n) (exponent n)
  rises n h = record {
    at = n;
    below = lt-suc_self n;
    is = refl;
    largest = λ i l z. elim (eq-or-lt_of_le (le_of_suc-le-suc l)) [ inl q ↦ subst (λ (j : ℕ). LeZ (exponent j) (exponent n)) (sym q) (le_refl (pos_part (exponent n) + neg_part (exponent n))) | inr q ↦ h i q z ];
  }

  next : (n : ℕ) (o : Option ℤ) → Reached n o → (b : Bool) → eq (m n) zero⁺ ≡ b → Reached (suc n) (elim b [ true ↦ o | false ↦ larger_z o (binary_exponent (m n) +ℤ k n) ])
  next n none r true e = λ i l. elim (eq-or-lt_of_le (le_of_suc-le-suc l)) [ inl q ↦ ap (λ (i : ℕ). eq (m i) zero⁺) q ∙ e | inr q ↦ r i q ]
  next n none r false e = rises n (λ i l z. no (r i l) z)
  next n (some o) r true e = stays n o r (λ z. no e z)
  next n (some o) r false e = go (lt_z o (exponent n)) refl
    where
      go : (b : Bool) → lt_z o (exponent n) ≡ b → Top (suc n) (cond b (exponent n) o)
      go true h = rises n (λ i l z. let a = r.largest i l z in let c = lt_yes o (exponent n) h in omega arith)
      go false h = stays n o r (λ z. lt_no o (exponent n) h)

  reached : (n : ℕ) → Reached n (loop n step none)
  unfolding loop
  reached zero = λ i l. absurd (not-suc-le-zero l)
  reached (suc n) = next n (loop n step none) (reached n) (eq (m n) zero⁺) refl

  -- what holds of 0 and of every exponent holds of the common one
  pub common_in : (P : ℤ → Type 0) (n : ℕ) → P (pos 0) → ((i : ℕ) → i < n → P (binary_exponent (m i) +ℤ k i)) → P (common_exponent n m k)
  unfolding common_exponent
  common_in P n z h = go (loop n step none) (reached n)
    where
      go : (o : Option ℤ) → Reached n o → P (or_zero o)
      go none r = z
      go (some o) r = subst P (sym r.is) (h r.at r.below)

  pub common_above : (n i : ℕ) → i < n → eq (m i) zero⁺ ≡ false → LeZ (binary_exponent (m i) +ℤ k i) (common_exponent n m k)
  unfolding common_exponent
  common_above n i l z = go (loop n step none) (reached n)
    where
      go : (o : Option ℤ) → Reached n o → LeZ (binary_exponent (m i) +ℤ k i) (or_zero o)
      go none r = no (r i l) z
      go (some o) r = r.largest i l z

  common_at : (n : ℕ) → 0 < n → ((i : ℕ) → i < n → eq (m i) zero⁺ ≡ false) → (i : ℕ) × (i < n) × (common_exponent n m k ≡ binary_exponent (m i) +ℤ k i)
  unfolding common_exponent
  common_at n p z = go (loop n step none) (reached n)
    where
      go : (o : Option ℤ) → Reached n o → (i : ℕ) × (i < n) × (or_zero o ≡ binary_exponent (m i) +ℤ k i)
      go none r = no (r 0 p) (z 0 p)
      go (some o) r = (r.at, r.below, r.is)

-- every exponent is lower by j
lowered : (x e f : ℤ) (j : ℕ) → f ≡ e +ℤ pos j → pos_part (x +ℤ neg_ℤ f) + j + neg_part (x +ℤ neg_ℤ e) ≡ pos_part (x +ℤ neg_ℤ e) + neg_part (x +ℤ neg_ℤ f)
unfolding pos_part neg_part
lowered x e f j h = rw h (omega (arith, plus x (neg_ℤ e), plus x (neg_ℤ (e +ℤ pos j)), pos_part_neg e, neg_part_neg e, pos_part_neg (e +ℤ pos j), neg_part_neg (e +ℤ pos j), plus e (pos j)))

pub common_lower : (m : ℕ → Float) (e f : ℕ → ℤ) (j n : ℕ) → 0 < n → ((i : ℕ) → i < n → f i ≡ e i +ℤ pos j) → ((i : ℕ) → i < n → eq (m i) zero⁺ ≡ false) → common_exponent n m (λ i. neg_ℤ (f i)) +ℤ pos j ≡ common_exponent n m (λ i. neg_ℤ (e i))
unfolding pos_part neg_part
common_lower m e f j n p h z =
    let A = common_exponent n m (λ i. neg_ℤ (e i)) in
    let B = common_exponent n m (λ i. neg_ℤ (f i)) in
    let a = common_at m (λ i. neg_ℤ (e i)) n p z in
    let b = common_at m (λ i. neg_ℤ (f i)) n p z in
    let i = a.0 in
    let l = b.0 in
    let u = common_above m (λ i. neg_ℤ (f i)) n i a.1 (z i a.1) in
    let w = common_above m (λ i. neg_ℤ (e i)) n l b.1 (z l b.1) in
    let x = lowered (binary_exponent (m i)) (e i) (f i) j (h i a.1) in
    let y = lowered (binary_exponent (m l)) (e l) (f l) j (h l b.1) in
    same (B +ℤ pos j) A (omega (arith, plus B (pos j), ap pos_part a.2, ap neg_part a.2, ap pos_part b.2, ap neg_part b.2))
