-- The Bayes-Stein ratio N / D, with N the sum of p m / λ and D the sum of p p / λ over the columns of V, is NaN, infinite or at most 2 ^ ratio_most units, some 2 ^ 909: so scaled by a power of two that
-- is small enough it is finite in both runs or in none. V's entries are at most 2 ^ 300 in size, what it is multiplied with at most 2, and the smallest value λ is above n 2 ^ -52 times the largest, Λ. Where D is
-- finite and not zero, every λ is above 0, and at least 2 ^ -53 Λ. With P the largest p in size, N is at most 2 ^ 367 P / Λ; and D is at least P P / 16 Λ where that is a unit or more, and else 1 / 4 Λ
-- at least, in units. Both bounds give the ratio's, and no lower bound on V or Λ is needed. Assumes nothing.
use mathlib.Core.Path.{◌≡◌, refl, sym, ap, ap₂, ◌∙◌, subst, subst₂}
use mathlib.Core.Logic.{inl, inr}
use Prim.Native.Nat.{ℕ, zero, suc, ◌+◌, ◌-◌, ◌*◌, ◌/◌, ◌^◌, ◌≤◌, ◌<◌, zero-le}
use native.Mathlib.Nat.{le-add_right, sub-le, sub-le-sub_left, le_trans, le_of_eq, le_of_lt, lt_of_lt_of_le, lt_of_le_of_lt, lt_irrefl, lt-suc_self, lt_trans, mul-le-mul, mul-le-mul_left, mul-le-mul_right, mul-pos, mul_assoc, mul_comm, mul_right_comm, one-mul, le_of_mul-le-mul_right, zero-lt-suc, eq-zero-or-pos, not-suc-le-zero, le-div_iff_mul-le, div-mul-le_self, eq-or-lt_of_le, le_of_suc-le-suc}
use native.Mathlib.Omega.{arith}
use mathlib.Core.Bool.{Bool, true, false, cond}
use lib.Dec.{T, eqb-suc-zero, lit≤, lit<}
use lib.IntN.{pos}
use lib.Arith.{add-le_cancel_left, add-lt_cancel_left}
use lib.Pow.{pow-add, pow_pos, pow_mono}
use lib.Ieee.{Float, nan, inf, fin, binary64, fits, mul, div, unlike, le, size, is_nan}
use lib.Ieee.Digits.{size-lt, size_reaches}
use lib.Ieee.Fits.{mul-fits, div-fits}
use borrow.Author.Tests.{ltb-true}
use Rattle.leaves.specs.Numbers.{◌⊗◌, ◌⊘◌, ε, count, is_finite, larger, smaller}
use Rattle.leaves.specs.Loops.{loop, sum_to, min_to, max_to}
use Rattle.leaves.proofs.Laws.{size_pos}
use Rattle.leaves.proofs.Whole.{le_or_lt}
use Rattle.leaves.proofs.Rounding.{near, Near, near_most, near_error, near_representable, representable_times}
use Rattle.leaves.proofs.Units.{one_bits, top_bits, fraction_bits, val_pos, U, U_pos, Top, Val, zero_mag, sign, mag, val_mag, val_finite, mag_val, mag_representable, finite_fin, fin_val, fin_under_Top, finite_mag, rounded_val}
use Rattle.leaves.proofs.Arithmetic.{mul_finite, div_finite, mul_rounded, div_rounded}
use Rattle.leaves.proofs.Range.{count_val}
use Rattle.leaves.proofs.Signs.{sign_mul, sign_div}
use Rattle.leaves.proofs.Keys.{number, finite_number, key, lt_key, Fine, larger_by, smaller_by, picked}
use Rattle.leaves.proofs.Zero.{over_inf}
use Rattle.matrix.specs.Limits.{max_side}
use Rattle.matrix.proofs.Turn.{turn_bits}
use Rattle.law.proofs.Bits.{side_bits}
use Rattle.law.proofs.Comparisons.{le_or}
use Rattle.law.proofs.Sums.{sum_fits, sum_least, sum_finite, sum_most, sum_some}

-- a product of an entry of V and a number below 2, and a projection, which is a sum of such
abbrev pub turned_most : ℕ
turned_most = suc turn_bits

abbrev pub projected_most : ℕ
projected_most = side_bits + turned_most

-- a term of N is at most 2 ^ term_most P / Λ, N itself 2 ^ numerator_most P / Λ
abbrev term_most : ℕ
term_most = 3 + fraction_bits + projected_most

abbrev numerator_most : ℕ
numerator_most = suc side_bits + term_most

-- P in units is at most 2 ^ divisor_most D Λ; the root of a unit is 2 ^ root_bits units
abbrev root_bits : ℕ
root_bits = one_bits / 2

abbrev divisor_most : ℕ
divisor_most = 4 + root_bits

abbrev pub ratio_most : ℕ
ratio_most = suc numerator_most + divisor_most

-- ---- one operation's size
module _ (x y : Float) (fx : T (fits binary64 x)) (fy : T (fits binary64 y)) where
  pub product_is : T (is_finite (x ⊗ y)) → mag (x ⊗ y) ≡ near (mag x * mag y) U
  product_is f =
      let q = mul_finite x y f in
      finite_mag (x ⊗ y) (unlike (sign x) (sign y)) (mag x * mag y) U U_pos (mul_rounded x y (sign x) (sign y) (mag x) (mag y) (mag_val x fx q.0) (mag_val y fy q.1)) f

  product : T (is_finite (x ⊗ y)) → Near (mag (x ⊗ y)) (mag x * mag y) U
  product f = subst (λ (g : ℕ). Near g (mag x * mag y) U) (sym (product_is f)) (near_error (mag x * mag y) U U_pos)

  module _ (ny : T (is_finite y)) (p : 0 < mag y) where
    pub quotient_is : T (is_finite (x ⊘ y)) → mag (x ⊘ y) ≡ near (mag x * U) (mag y)
    quotient_is f = finite_mag (x ⊘ y) (unlike (sign x) (sign y)) (mag x * U) (mag y) p (div_rounded x y (sign x) (sign y) (mag x) (mag y) (mag_val x fx (div_finite x y f)) (mag_val y fy ny) p) f

    quotient : T (is_finite (x ⊘ y)) → Near (mag (x ⊘ y)) (mag x * U) (mag y)
    quotient f = subst (λ (g : ℕ). Near g (mag x * U) (mag y)) (sym (quotient_is f)) (near_error (mag x * U) (mag y) p)

-- ---- values that pass Bayes-Stein's test for a singular matrix (14)
-- 2 ^ -52, in units, and n of them
abbrev epsilon_bits : ℕ
epsilon_bits = one_bits - fraction_bits

tiny : (n : ℕ) → n ≤ max_side → Val (count n ⊗ ε) false (n * 2 ^ epsilon_bits)
tiny n few =
    let e : near (n * U * 2 ^ epsilon_bits) U ≡ n * 2 ^ epsilon_bits = ap (λ (z : ℕ). near z U) (mul_right_comm n U (2 ^ epsilon_bits)) ∙ near_representable (n * 2 ^ epsilon_bits) U U_pos (representable_times n epsilon_bits (lt_of_le_of_lt few (lit< tt))) in
    let ε-val : Val ε false (2 ^ epsilon_bits) = unfold U in (refl, refl) in
    let top : n * 2 ^ epsilon_bits < Top = lt_of_le_of_lt (mul-le-mul_right (2 ^ epsilon_bits) few) (unfold Top in lit< tt) in
    subst₂ (λ (z : Float) (a : ℕ). Val z false a) (sym (mul_rounded (count n) ε false false (n * U) (2 ^ epsilon_bits) (count_val n (le_trans few (lit≤ tt))) ε-val)) e
    (rounded_val false (n * U * 2 ^ epsilon_bits) U U_pos (subst (λ (a : ℕ). a < Top) (sym e) top))

pub record Positive (n : ℕ) (v : ℕ → Float) : Type 0 where
  pub L : ℕ
  pub some : 0 < L
  pub finite : (e : ℕ) → e < n → T (is_finite (v e))
  pub plus : (e : ℕ) → e < n → sign (v e) ≡ false
  pub above : (e : ℕ) → e < n → 0 < mag (v e)
  pub most : (e : ℕ) → e < n → mag (v e) ≤ L
  pub least : (e : ℕ) → e < n → L ≤ 2 ^ suc fraction_bits * mag (v e)

-- what is not at most another has the larger key
le_key : (x y : Float) → T (fits binary64 x) → T (fits binary64 y) → T (number x) → T (number y) → le x y ≡ false → key y < key x
le_key x y fx fy p q h = ltb-true (key y) (key x) (sym (lt_key y x fy fx q p) ∙ le_or x y p q h)

-- by the largest, Λ
module _ (n : ℕ) (few : suc n ≤ max_side) (v : ℕ → Float) (nums : (e : ℕ) → e < suc n → T (number (v e))) where
  by_largest : (Λ : Float) → T (fits binary64 Λ) → T (number Λ) → ((e : ℕ) → e < suc n → key (v e) ≤ key Λ) → (m : Float) → T (fits binary64 m) → T (number m) → ((e : ℕ) → e < suc n → key m ≤ key (v e))
      → le m (count (suc n) ⊗ ε ⊗ Λ) ≡ false → Positive (suc n) v
  unfolding is_nan
  by_largest nan t p hi m tm pm lo h = absurd p
  by_largest (inf s) t p hi m tm pm lo h = absurd (lt_irrefl (key m) (lt_of_le_of_lt (le_trans (lo 0 (zero-lt-suc n)) (hi 0 (zero-lt-suc n))) (le_key m (inf s) tm (unfold fits in tt) pm tt (ap (le m) (sym (bar_is s)) ∙ h))))
    where
      bar_is : (s : Bool) → count (suc n) ⊗ ε ⊗ inf s ≡ inf s
      bar_is s = nonzero (count (suc n) ⊗ ε) (tiny (suc n) few)
        where
          nonzero : (c : Float) → Val c false (suc n * 2 ^ epsilon_bits) → c ⊗ inf s ≡ inf s
          nonzero nan w = absurd w
          nonzero (inf r) w = absurd w
          nonzero (fin r zero e) w = absurd (lt_irrefl 0 (subst (λ (a : ℕ). 0 < a) (sym (val_mag (fin r zero e) false (suc n * 2 ^ epsilon_bits) w).1 ∙ zero_mag r e) (mul-pos (zero-lt-suc n) (pow_pos epsilon_bits))))
          nonzero (fin r (suc k) e) w = unfold mul in rw (w.0, eqb-suc-zero k) (same s)
            where
              same : (s : Bool) → inf (unlike false s) ≡ inf s
              same true = refl
              same false = refl
  by_largest (fin s c e) t p hi m tm pm lo h = signed s refl hi lo (le_key m bar tm (mul-fits binary64 (count (suc n) ⊗ ε) (fin s c e)) pm bar_number h)
    where
      Λ : Float
      Λ = fin s c e

      L : ℕ
      L = mag (fin s c e)

      bar : Float
      bar = count (suc n) ⊗ ε ⊗ fin s c e

      a : ℕ
      a = suc n * 2 ^ epsilon_bits

      a_most : suc n * 2 ^ epsilon_bits ≤ U
      a_most = le_trans (mul-le-mul_right (2 ^ epsilon_bits) few) (unfold U in lit≤ tt)

      B : ℕ
      B = near (suc n * 2 ^ epsilon_bits * mag (fin s c e)) U

      B-most : near (suc n * 2 ^ epsilon_bits * mag (fin s c e)) U ≤ mag (fin s c e)
      B-most = near_most (suc n * 2 ^ epsilon_bits * L) U L U_pos (mag_representable Λ t (finite_fin s c e)).0 (le_trans (mul-le-mul_right L a_most) (le_of_eq (mul_comm U L)))

      bar_val : Val (count (suc n) ⊗ ε ⊗ fin s c e) (unlike false s) (near (suc n * 2 ^ epsilon_bits * mag (fin s c e)) U)
      bar_val =
          let w = fin_val s c e t in
          subst (λ (z : Float). Val z (unlike false s) B) (sym (mul_rounded (count (suc n) ⊗ ε) Λ false s a L (tiny (suc n) few) w)) (rounded_val (unlike false s) (a * L) U U_pos (lt_of_le_of_lt B-most (fin_under_Top s c e t)))

      bar_number : T (number (count (suc n) ⊗ ε ⊗ fin s c e))
      bar_number = let b = count (suc n) ⊗ ε ⊗ fin s c e in finite_number b (val_finite b (unlike false s) B bar_val)

      key_val : (x : Float) (r : Bool) (b : ℕ) → Val x r b → key x ≡ cond r (Top - b) (Top + b)
      key_val nan r b w = absurd w
      key_val (inf q) r b w = absurd w
      key_val (fin q k d) r b w = unfold key in ap₂ (λ (q : Bool) (b : ℕ). cond q (Top - b) (Top + b)) w.0 (val_mag (fin q k d) r b w).1

      signed : (r : Bool) → s ≡ r → ((i : ℕ) → i < suc n → key (v i) ≤ key (fin s c e)) → ((i : ℕ) → i < suc n → key m ≤ key (v i)) → key (count (suc n) ⊗ ε ⊗ fin s c e) < key m → Positive (suc n) v
      signed true i hi lo h =
          let k : key (fin s c e) ≡ Top - mag (fin s c e) = unfold key in ap (λ (b : Bool). cond b (Top - L) (Top + L)) i in
          let k' : key (count (suc n) ⊗ ε ⊗ fin s c e) ≡ Top - B = key_val bar (unlike false s) B bar_val ∙ ap (λ (b : Bool). cond (unlike false b) (Top - B) (Top + B)) i in
          absurd (lt_irrefl (key m) (lt_of_le_of_lt (le_trans (lo 0 (zero-lt-suc n)) (le_trans (hi 0 (zero-lt-suc n)) (le_trans (le_of_eq k) (le_trans (sub-le-sub_left B-most Top) (le_of_eq (sym k')))))) h))
      signed false i hi lo h =
          let k : key (fin s c e) ≡ Top + mag (fin s c e) = unfold key in ap (λ (b : Bool). cond b (Top - L) (Top + L)) i in
          let k' : key (count (suc n) ⊗ ε ⊗ fin s c e) ≡ Top + B = key_val bar (unlike false s) B bar_val ∙ ap (λ (b : Bool). cond (unlike false b) (Top - B) (Top + B)) i in
          let l = fin_under_Top s c e t in
          let each : (j : ℕ) → j < suc n → T (is_finite (v j)) × (sign (v j) ≡ false) × (key (v j) ≡ Top + mag (v j)) = λ j q. between (v j) (nums j q) (lt_of_le_of_lt (le-add_right Top B) (lt_of_lt_of_le (lt_of_le_of_lt (le_of_eq (sym k')) h) (lo j q))) (lt_of_le_of_lt (le_trans (hi j q) (le_of_eq k)) (under Top L l)) in
          let more : (j : ℕ) → j < suc n → B < mag (v j) = λ j q. add-lt_cancel_left Top (lt_of_lt_of_le (lt_of_le_of_lt (le_of_eq (sym k')) h) (le_trans (lo j q) (le_of_eq (each j q).2))) in
          let most : (j : ℕ) → j < suc n → mag (v j) ≤ L = λ j q. add-le_cancel_left Top (le_trans (le_of_eq (sym (each j q).2)) (le_trans (hi j q) (le_of_eq k))) in
          record {
            L = L;
            some = lt_of_le_of_lt zero-le (lt_of_lt_of_le (more 0 (zero-lt-suc n)) (most 0 (zero-lt-suc n)));
            finite = λ j q. (each j q).0;
            plus = λ j q. (each j q).1;
            above = λ j q. lt_of_le_of_lt zero-le (more j q);
            most = most;
            least = λ j q. enough L B (mag (v j)) (2 ^ epsilon_bits) U (suc n * 2 ^ epsilon_bits) U-wide (le_trans (le_of_eq (sym (one-mul (2 ^ epsilon_bits)))) (mul-le-mul_right (2 ^ epsilon_bits) (zero-lt-suc n))) (pow_pos epsilon_bits) (near_error (suc n * 2 ^ epsilon_bits * L) U U_pos).halved (more j q);
          }
        where
          under : (t l : ℕ) → l < t → t + l < t + t
          under t l h = omega arith

          U-wide : U ≡ 2 ^ fraction_bits * 2 ^ epsilon_bits
          U-wide = unfold U in refl

          between : (x : Float) → T (number x) → Top < key x → key x < Top + Top → T (is_finite x) × (sign x ≡ false) × (key x ≡ Top + mag x)
          between nan p a b = absurd p
          between (inf true) p a b = unfold key in absurd (not-suc-le-zero a)
          between (inf false) p a b = unfold key in absurd (lt_irrefl (Top + Top) b)
          between (fin true k d) p a b = unfold key in absurd (lt_irrefl Top (lt_of_lt_of_le a (sub-le Top (mag (fin true k d)))))
          between (fin false k d) p a b = unfold key is_finite sign in (tt, refl, refl)

          enough : (L B M z u a : ℕ) → u ≡ 2 ^ fraction_bits * z → z ≤ a → 0 < z → 2 * (a * L) ≤ 4 * (B * u) + u → B < M → L ≤ 2 ^ suc fraction_bits * M
          enough L B M z u a i l p h q =
              let f : z * L ≤ a * L = mul-le-mul_right L l in
              let c : 2 * L * z ≤ (4 * B + 1) * 2 ^ fraction_bits * z = subst (λ (u : ℕ). 2 * (a * L) ≤ 4 * (B * u) + u → 2 * L * z ≤ (4 * B + 1) * 2 ^ fraction_bits * z) (sym i) (λ h. omega arith) h in
              let d : 2 * L ≤ (4 * B + 1) * 2 ^ fraction_bits = le_of_mul-le-mul_right {k = z} c p in
              omega arith

positive : (n : ℕ) → suc n ≤ max_side → (v : ℕ → Float) → ((e : ℕ) → e < suc n → T (fits binary64 (v e))) → ((e : ℕ) → e < suc n → T (number (v e))) → le (min_to (suc n) v) (count (suc n) ⊗ ε ⊗ max_to (suc n) v) ≡ false → Positive (suc n) v
unfolding min_to max_to
positive n few v fit nums h =
    let each : (e : ℕ) → e < suc n → Fine (v e) = λ e l. (fit e l, nums e l) in
    let M = picked key Fine Fine larger (λ a b. b ≤ a) (λ a b c p q. le_trans q p) (λ m x a b. larger_by key Fine m x a b (lt_key m x a.0 b.0 a.1 b.1)) (suc n) v (v 0) (each 0 (zero-lt-suc n)) each in
    let m = picked key Fine Fine smaller (λ a b. a ≤ b) (λ a b c p q. le_trans p q) (λ m x a b. smaller_by key Fine m x a b (lt_key x m b.0 a.0 b.1 a.1)) (suc n) v (v 0) (each 0 (zero-lt-suc n)) each in
    by_largest n few v nums (loop (suc n) (λ k m. larger m (v k)) (v 0)) M.0.0 M.0.1 M.1 (loop (suc n) (λ k m. smaller m (v k)) (v 0)) m.0.0 m.0.1 m.1 h

-- ---- the largest of numbers
largest_of_lem : (n : ℕ) (a : ℕ → ℕ) → (e : ℕ) × (e < suc n) × ((i : ℕ) → i < suc n → a i ≤ a e)
largest_of_lem zero a = (0, zero-lt-suc 0, λ i l. let z : i ≡ 0 = omega arith in le_of_eq (ap a z))
largest_of_lem (suc n) a =
    let r = largest_of_lem n a in
    elim (le_or_lt (a (suc n)) (a r.0)) [
      | inl h ↦ (r.0, lt_trans r.1 (lt-suc_self (suc n)), λ i l. elim (eq-or-lt_of_le (le_of_suc-le-suc l)) [ inl e ↦ le_trans (le_of_eq (ap a e)) h | inr k ↦ r.2 i k ])
      | inr h ↦ (suc n, lt-suc_self (suc n), λ i l. elim (eq-or-lt_of_le (le_of_suc-le-suc l)) [ inl e ↦ le_of_eq (ap a e) | inr k ↦ le_trans (r.2 i k) (le_of_lt h) ])
    ]

-- ---- the ratio
module _ (n : ℕ) (few : suc n ≤ max_side) (v : ℕ → Float) (vf : (e : ℕ) → e < suc n → T (fits binary64 (v e))) (test : le (min_to (suc n) v) (count (suc n) ⊗ ε ⊗ max_to (suc n) v) ≡ false)
    (p m : ℕ → Float) (pf : (e : ℕ) → e < suc n → T (fits binary64 (p e))) (mf : (e : ℕ) → e < suc n → T (fits binary64 (m e))) (small : (e : ℕ) → e < suc n → T (is_finite (m e)) → mag (m e) ≤ 2 ^ projected_most) where
  abbrev N : Float
  N = sum_to (suc n) (λ e. p e ⊗ m e ⊘ v e)

  abbrev D : Float
  D = sum_to (suc n) (λ e. p e ⊗ p e ⊘ v e)

  over_number : (x y : Float) → T (is_finite (x ⊘ y)) → T (number y)
  unfolding div is_finite is_nan
  over_number nan nan f = f
  over_number (inf s) nan f = f
  over_number (fin s k e) nan f = f
  over_number x (inf t) f = tt
  over_number x (fin t k e) f = tt

  module _ (FN : T (is_finite N)) (FD : T (is_finite D)) (PD : 0 < mag D) where
    term : (e : ℕ) → e < suc n → T (is_finite (p e ⊗ p e ⊘ v e))
    term = sum_finite (suc n) (λ e. p e ⊗ p e ⊘ v e) FD

    values : Positive (suc n) v
    values = positive n few v vf (λ e l. over_number (p e ⊗ p e) (v e) (term e l)) test

    -- each square is at most 4 D Λ
    square : (e : ℕ) → e < suc n → mag (p e ⊗ p e) * U ≤ 4 * (mag D * values.L)
    square e l =
        let q = (quotient (p e ⊗ p e) (v e) (mul-fits binary64 (p e) (p e)) (vf e l) (values.finite e l) (values.above e l) (term e l)).halved in
        let d : mag (p e ⊗ p e ⊘ v e) ≤ mag D = sum_least (suc n) (λ e. p e ⊗ p e ⊘ v e) (λ e l. (div-fits binary64 (p e ⊗ p e) (v e), sign_div (p e ⊗ p e) (v e) (sign_mul (p e) (p e) refl ∙ sym (values.plus e l)))) FD e l in
        let f = mul-le-mul d (values.most e l) in
        let g : 1 * values.L ≤ mag D * values.L = mul-le-mul_right values.L PD in
        omega (arith, values.most e l)

    -- a square that is not zero
    unit : U ≤ 4 * (mag D * values.L)
    unit =
        let w = sum_some (suc n) (λ e. p e ⊗ p e ⊘ v e) (λ e l. div-fits binary64 (p e ⊗ p e) (v e)) FD PD in
        let e = w.0 in
        let q = (quotient (p e ⊗ p e) (v e) (mul-fits binary64 (p e) (p e)) (vf e w.1) (values.finite e w.1) (values.above e w.1) (term e w.1)).doubled in
        le_trans (le_trans (le_of_eq (sym (one-mul U))) (mul-le-mul_right U (above (mag (p e ⊗ p e)) U (mag (p e ⊗ p e ⊘ v e)) (mag (v e)) q w.2 (values.above e w.1)))) (square e w.1)
      where
        above : (a u d w : ℕ) → d * w ≤ 2 * (a * u) → 0 < d → 0 < w → 1 ≤ a
        above zero u d w q pd pw = absurd (let f = mul-pos pd pw in omega arith)
        above (suc a) u d w q pd pw = omega arith

    P : (e : ℕ) × (e < suc n) × ((i : ℕ) → i < suc n → mag (p i) ≤ mag (p e))
    P = largest_of_lem n (λ e. mag (p e))

    abbrev Pm : ℕ
    Pm = mag (p P.0)

    squared : Pm * Pm ≤ 16 * (mag D * values.L)
    squared =
        let e = P.0 in
        let q = (product (p e) (p e) (pf e P.1) (pf e P.1) (div_finite (p e ⊗ p e) (v e) (term e P.1))).halved in
        omega (arith, square e P.1, unit)

    term_most_lem : (e : ℕ) → e < suc n → mag (p e ⊗ m e ⊘ v e) * values.L ≤ 2 ^ term_most * Pm
    term_most_lem e l =
        let F = sum_finite (suc n) (λ e. p e ⊗ m e ⊘ v e) FN e l in
        let G = div_finite (p e ⊗ m e) (v e) F in
        let q = (quotient (p e ⊗ m e) (v e) (mul-fits binary64 (p e) (m e)) (vf e l) (values.finite e l) (values.above e l) F).doubled in
        let r = (product (p e) (m e) (pf e l) (mf e l) G).doubled in
        le_trans (go (mag (p e ⊗ m e ⊘ v e)) (mag (v e)) (mag (p e ⊗ m e)) U (mag (p e)) (mag (m e)) Pm (2 ^ projected_most) values.L q r (P.2 e l) (small e l (mul_finite (p e) (m e) G).1) (values.least e l)) (le_of_eq powers)
      where
        go : (t w a u p m P M L : ℕ) → t * w ≤ 2 * (a * u) → a * u ≤ 2 * (p * m) → p ≤ P → m ≤ M → L ≤ 2 ^ suc fraction_bits * w → t * L ≤ 2 ^ (3 + fraction_bits) * (P * M)
        go t w a u p m P M L q r pP mM lw =
            let f : p * m ≤ P * M = mul-le-mul pP mM in
            let g : t * L ≤ t * (2 ^ suc fraction_bits * w) = mul-le-mul_left t lw in
            omega arith

        powers : 2 ^ (3 + fraction_bits) * (Pm * 2 ^ projected_most) ≡ 2 ^ term_most * Pm
        powers = ap (λ (z : ℕ). 2 ^ (3 + fraction_bits) * z) (mul_comm Pm (2 ^ projected_most)) ∙ sym (mul_assoc (2 ^ (3 + fraction_bits)) (2 ^ projected_most) Pm)

    N-most : mag N * values.L ≤ 2 ^ numerator_most * Pm
    N-most =
        let L = values.L in
        let X = 2 ^ term_most * Pm in
        let Q = X / L in
        let t-most : (e : ℕ) → e < suc n → mag (p e ⊗ m e ⊘ v e) ≤ Q = λ e l. (le-div_iff_mul-le values.some).1 (term_most_lem e l) in
        let most : mag N ≤ 2 ^ suc side_bits * Q = elim (eq-zero-or-pos Q) [
          | inl z ↦ elim (eq-zero-or-pos (mag N)) [
            | inl y ↦ le_trans (le_of_eq y) zero-le
            | inr k ↦ (let w = sum_some (suc n) (λ e. p e ⊗ m e ⊘ v e) (λ e l. div-fits binary64 (p e ⊗ m e) (v e)) FN k in absurd (lt_irrefl 0 (lt_of_lt_of_le w.2 (le_trans (t-most w.0 w.1) (le_of_eq z)))))
          ]
          | inr q ↦ by_size Q q (λ e l. (div-fits binary64 (p e ⊗ m e) (v e), sum_finite (suc n) (λ e. p e ⊗ m e ⊘ v e) FN e l, le_of_lt (lt_of_le_of_lt (t-most e l) (size-lt Q))))
        ] in
        le_trans (mul-le-mul_right L most) (le_trans (le_of_eq (mul_assoc (2 ^ suc side_bits) Q L)) (le_trans (mul-le-mul_left (2 ^ suc side_bits) (div-mul-le_self X L)) (le_of_eq (sym (mul_assoc (2 ^ suc side_bits) (2 ^ term_most) Pm)))))
      where
        by_size : (Q : ℕ) → 0 < Q → ((e : ℕ) → e < suc n → T (fits binary64 (p e ⊗ m e ⊘ v e)) × T (is_finite (p e ⊗ m e ⊘ v e)) × (mag (p e ⊗ m e ⊘ v e) ≤ 2 ^ size Q)) → mag N ≤ 2 ^ suc side_bits * Q
        by_size Q q each = elim (le_or_lt (side_bits + size Q) top_bits) [
          | inl l ↦ le_trans (sum_most (suc n) (size Q) (λ e. p e ⊗ m e ⊘ v e) few l each) (le_trans (le_of_eq (halves (size Q) some)) (mul-le-mul_left (2 ^ suc side_bits) reach))
          | inr l ↦ le_trans (le_of_lt (mag_representable N (sum_fits (suc n) (λ e. p e ⊗ m e ⊘ v e)) FN).1) (le_trans top (mul-le-mul_left (2 ^ suc side_bits) (le_trans (pow_mono {i = top_bits - side_bits} {j = size Q - 1} (omega arith)) reach)))
        ]
          where
            some : 0 < size Q
            some = size_pos Q q

            reach : 2 ^ (size Q - 1) ≤ Q
            reach = size_reaches Q (size Q - 1) (let k = some in omega arith)

            halves : (h : ℕ) → 0 < h → 2 ^ (side_bits + h) ≡ 2 ^ suc side_bits * 2 ^ (h - 1)
            halves h p = ap (λ (i : ℕ). 2 ^ i) (omega arith) ∙ pow-add 2 (suc side_bits) (h - 1)

            top : Top ≤ 2 ^ suc side_bits * 2 ^ (top_bits - side_bits)
            top = unfold Top in lit≤ tt

    ratio_finite_most : T (is_finite (N ⊘ D)) → mag (N ⊘ D) ≤ 2 ^ ratio_most
    ratio_finite_most F =
        let L = values.L in
        let X = mag D * L in
        let R = mag (N ⊘ D) in
        let q = (quotient N D (sum_fits (suc n) (λ e. p e ⊗ m e ⊘ v e)) (sum_fits (suc n) (λ e. p e ⊗ p e ⊘ v e)) FD PD F).doubled in
        let a : R * X ≤ 2 ^ suc numerator_most * (Pm * U) = le_trans (joined R (mag D) L (mag N) U q) (le_trans (mul-le-mul_left 2 (mul-le-mul_right U N-most)) (le_of_eq (regroup (2 ^ numerator_most) Pm U))) in
        let b : Pm * U ≤ 2 ^ divisor_most * X = elim (le_or_lt Pm (2 ^ root_bits)) [
          | inl l ↦ le_trans (mul-le-mul l unit) (le_trans (le_of_eq (sym (mul_assoc (2 ^ root_bits) 4 X))) (mul-le-mul_right X small₁))
          | inr l ↦ le_trans (le_of_eq (ap (λ (u : ℕ). Pm * u) U-square ∙ sym (mul_assoc Pm (2 ^ root_bits) (2 ^ root_bits)))) (le_trans (mul-le-mul_right (2 ^ root_bits) (le_trans (mul-le-mul_left Pm (le_of_lt l)) squared)) (le_of_eq (mul_right_comm 16 X (2 ^ root_bits))))
        ] in
        le_of_mul-le-mul_right {k = X} (le_trans a (le_trans (mul-le-mul_left (2 ^ suc numerator_most) b) (le_of_eq (sym (mul_assoc (2 ^ suc numerator_most) (2 ^ divisor_most) X))))) (mul-pos PD values.some)
      where
        joined : (R D L N u : ℕ) → R * D ≤ 2 * (N * u) → R * (D * L) ≤ 2 * (N * L * u)
        joined R D L N u q = let f = mul-le-mul_right L q in omega arith

        regroup : (c P u : ℕ) → 2 * (c * P * u) ≡ 2 * c * (P * u)
        regroup c P u = omega arith

        small₁ : 2 ^ root_bits * 4 ≤ 2 ^ divisor_most
        small₁ = lit≤ tt

        U-square : U ≡ 2 ^ root_bits * 2 ^ root_bits
        U-square = unfold U in refl

  -- the ratio, where it is finite
  pub ratio_most_lem : T (is_finite (N ⊘ D)) → mag (N ⊘ D) ≤ 2 ^ ratio_most
  ratio_most_lem F = go D refl (div_finite N D F) F
    where
      go : (d : Float) → D ≡ d → T (is_finite N) → T (is_finite (N ⊘ D)) → mag (N ⊘ D) ≤ 2 ^ ratio_most
      go nan e f g = unfold is_nan in absurd (over_number N nan (subst (λ (z : Float). T (is_finite (N ⊘ z))) e g))
      go (inf s) e f g = let q = over_inf N s f in le_trans (le_of_eq (ap (λ (z : Float). mag (N ⊘ z)) e ∙ ap mag q.1 ∙ zero_mag q.0 (pos 0))) zero-le
      go (fin s zero d) e f g = absurd (by_zero N (subst (λ (z : Float). T (is_finite (N ⊘ z))) e g))
        where
          by_zero : (x : Float) → T (is_finite (x ⊘ fin s zero d)) → ⊥
          by_zero nan f = unfold div is_finite in f
          by_zero (inf r) f = unfold div is_finite in f
          by_zero (fin r zero i) f = unfold div is_finite in f
          by_zero (fin r (suc k) i) f = unfold div is_finite in rw (eqb-suc-zero k) at f
      go (fin s (suc k) d) e f g =
          let FD : T (is_finite D) = subst (λ (z : Float). T (is_finite z)) (sym e) (unfold is_finite in tt) in
          let w = mag_val D (sum_fits (suc n) (λ e. p e ⊗ p e ⊘ v e)) FD in
          ratio_finite_most f FD (subst (λ (z : Float). 0 < mag z) (sym e) (val_pos s k d _ _ (subst (λ (z : Float). Val z (sign z) (mag z)) e w))) g
