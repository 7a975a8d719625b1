-- A matrix of finite numbers times the identity: each entry is added to +0, which turns -0 into +0 and changes no other number. So what the sweeps begin with
-- needs no product (`start_is`). Assumes nothing.
use mathlib.Core.Path.{◌≡◌, refl, sym, ap, ◌∙◌, subst}
use mathlib.Core.Logic.{◌⊎◌, inl, inr, ◌≢◌}
use mathlib.Core.List.{List}
use mathlib.Core.Bool.{Bool, true, false, cond, true≢false}
use Prim.Native.Nat.{ℕ, zero, suc, ◌*◌, ◌≤◌, ◌<◌}
use native.Mathlib.Nat.{zero-mul, eq-zero-or-pos, eq-or-lt_of_le, le_of_suc-le-suc, le_refl}
use native.Mathlib.Omega.{arith}
use lib.Dec.{T, ltb, eqb}
use lib.IntN.{pos}
use lib.Ieee.{Float, fin, binary64, unlike, fits}
use lib.Ieee.Fits.{add-fits, mul-fits}
use borrow.Author.Tests.{lt-ltb, le-ltb, eqb-true, eqb-false}
use Rattle.leaves.specs.Numbers.{◌⊕◌, ◌⊗◌, ◌⊘◌, zero⁺, half, one}
use Rattle.leaves.specs.Loops.{loop, sum_to}
use Rattle.leaves.proofs.Whole.{le_or_lt}
use Rattle.leaves.proofs.Commutative.{⊗-comm}
use Rattle.leaves.proofs.Scale.{times_one}
use Rattle.leaves.proofs.Rounding.{near, near_representable}
use Rattle.leaves.proofs.Units.{Finite, U, U_pos, Val, sign, mag, rounded, zero_val, zero_mag, val_unique, mag_val, mag_representable, rounded_val, zero_finite}
use Rattle.leaves.proofs.Arithmetic.{sum_sign, sum_size, add_rounded, mul_rounded}
use Rattle.leaves.proofs.Loops.{sum_ext}
use Rattle.matrix.specs.Matrix.{Matrix, at, rows, identity, product, transpose, symmetrized, divided}
use Rattle.matrix.specs.Jacobi.{start}
use Rattle.matrix.proofs.Stored.{rows_ext, rows_at}

-- a result that is x's units, rounded, is x
by_units : (r x : Float) (s : Bool) (n d : ℕ) → T (fits binary64 r) → Finite x → 0 < d → r ≡ rounded s n d → s ≡ sign x → n ≡ mag x * d → r ≡ x
by_units r x s n d fr t D e es en =
    let h = mag_representable x t.0 t.1 in
    let whole : near (mag x * d) d ≡ mag x = near_representable (mag x) d D h.0 in
    let v : Val (rounded (sign x) (mag x * d) d) (sign x) (mag x) = rw whole at (rounded_val (sign x) (mag x * d) d D (rw whole h.1)) in
    val_unique r x (sign x) (mag x) fr t.0 (rw (e, es, en) v) (mag_val x t.0 t.1)

-- ---- one times a number, zero times a number, and a number plus zero
one_times : (x : Float) → Finite x → one ⊗ x ≡ x
one_times x t = ⊗-comm one x ∙ times_one x t.0

zero_times : (x : Float) → Finite x → (s : Bool) × (zero⁺ ⊗ x ≡ fin s 0 (pos 0))
zero_times x t =
    let s = unlike false (sign x) in (
      s,
      by_units (zero⁺ ⊗ x) (fin s 0 (pos 0)) s (0 * mag x) U (mul-fits binary64 zero⁺ x) (zero_finite s) U_pos (mul_rounded zero⁺ x false (sign x) 0 (mag x) (zero_val false (pos 0)) (mag_val x t.0 t.1)) (unfold sign in refl)
          (rw (zero_mag s (pos 0), zero-mul (mag x), zero-mul U)),
    )

-- finite and not -0
abbrev Plain : Float → Type 0
Plain x = Finite x × ((sign x ≡ false) ⊎ (0 < mag x))

plus_zero : (x : Float) (s : Bool) → Plain x → x ⊕ fin s 0 (pos 0) ≡ x
plus_zero x s t =
    by_units (x ⊕ fin s 0 (pos 0)) x (sum_sign (sign x) (mag x) s 0) (sum_size (sign x) (mag x) s 0) 1 (add-fits binary64 x (fin s 0 (pos 0))) t.0 (omega arith)
    (add_rounded x (fin s 0 (pos 0)) (sign x) s (mag x) 0 (mag_val x t.0.0 t.0.1) (zero_val s (pos 0))) (same_sign (sign x) s (mag x) t.1) (same_size (sign x) s (mag x))
  where
    same_sign : (i s : Bool) (m : ℕ) → (i ≡ false) ⊎ (0 < m) → sum_sign i m s 0 ≡ i
    same_sign true true m h = refl
    same_sign false false m h = refl
    same_sign true false m (inl e) = absurd (true≢false e)
    same_sign true false m (inr h) = rw (le-ltb m 0 (omega arith), lt-ltb 0 m h)
    same_sign false true m h = rw (le-ltb m 0 (omega arith))

    same_size : (i s : Bool) (m : ℕ) → sum_size i m s 0 ≡ m * 1
    same_size true true m = omega arith
    same_size false false m = omega arith
    same_size true false m = omega arith
    same_size false true m = omega arith

-- +0 plus a number is that number, or +0
zero_plus : (y : Float) → Finite y → (Plain y × (zero⁺ ⊕ y ≡ y)) ⊎ (zero⁺ ⊕ y ≡ zero⁺)
zero_plus y t = go (sign y) (mag y) refl refl (eq-zero-or-pos (mag y))
  where
    sum_is : zero⁺ ⊕ y ≡ rounded (sum_sign false 0 (sign y) (mag y)) (sum_size false 0 (sign y) (mag y)) 1
    sum_is = add_rounded zero⁺ y false (sign y) 0 (mag y) (zero_val false (pos 0)) (mag_val y t.0 t.1)

    itself : sum_sign false 0 (sign y) (mag y) ≡ sign y → sum_size false 0 (sign y) (mag y) ≡ mag y * 1 → zero⁺ ⊕ y ≡ y
    itself es en = by_units (zero⁺ ⊕ y) y (sum_sign false 0 (sign y) (mag y)) (sum_size false 0 (sign y) (mag y)) 1 (add-fits binary64 zero⁺ y) t (omega arith) sum_is es en

    go : (s : Bool) (m : ℕ) → sign y ≡ s → mag y ≡ m → (m ≡ 0) ⊎ (0 < m) → (Plain y × (zero⁺ ⊕ y ≡ y)) ⊎ (zero⁺ ⊕ y ≡ zero⁺)
    go false m es em h = inl ((t, inl es), itself (rw es) (rw (es, em) (omega arith)))
    go true m es em (inr h) = inl ((t, inr (rw em h)), itself (rw (es, em, lt-ltb 0 m h)) (rw (es, em) (omega arith)))
    go true m es em (inl z) =
        inr (by_units (zero⁺ ⊕ y) zero⁺ (sum_sign false 0 (sign y) (mag y)) (sum_size false 0 (sign y) (mag y)) 1 (add-fits binary64 zero⁺ y) (zero_finite false) (omega arith) sum_is (unfold sign in rw (es, em, z))
        (rw (es, em, z, zero_mag false (pos 0))))

zero_plain : Plain zero⁺
zero_plain = (zero_finite false, inl (unfold sign in refl))

plus_plain : (y : Float) → Finite y → Plain (zero⁺ ⊕ y)
plus_plain y t = elim (zero_plus y t) [ inl h ↦ subst Plain (sym h.1) h.0 | inr e ↦ subst Plain (sym e) zero_plain ]

plus_twice : (y : Float) → Finite y → zero⁺ ⊕ (zero⁺ ⊕ y) ≡ zero⁺ ⊕ y
plus_twice y t = elim (zero_plus y t) [ inl h ↦ ap (λ (x : Float). zero⁺ ⊕ x) h.1 | inr e ↦ ap (λ (x : Float). zero⁺ ⊕ x) e ∙ plus_zero zero⁺ false zero_plain ∙ sym e ]

-- ---- a column of the identity times a column of finite numbers
module _ (n i : ℕ) (y : ℕ → Float) (t : (k : ℕ) → k < n → Finite (y k)) (hi : i < n) where
  -- the sum up to m
  abbrev up_to : ℕ → Float
  up_to m = cond (ltb i m) (zero⁺ ⊕ y i) zero⁺

  up_to_plain : (m : ℕ) → Plain (up_to m)
  up_to_plain m = go (ltb i m)
    where
      go : (b : Bool) → Plain (cond b (zero⁺ ⊕ y i) zero⁺)
      go true = plus_plain (y i) (t i hi)
      go false = zero_plain

  here : (m : ℕ) → m ≡ i → m < n → up_to m ⊕ one ⊗ y m ≡ up_to (suc m)
  here m e h = rw (le-ltb i m (omega arith), lt-ltb i (suc m) (omega arith), one_times (y m) (t m h), e)

  there : (m : ℕ) → m ≢ i → m < n → up_to m ⊕ zero⁺ ⊗ y m ≡ up_to (suc m)
  there m d h = let z = zero_times (y m) (t m h) in ap (λ (x : Float). up_to m ⊕ x) z.1 ∙ plus_zero (up_to m) z.0 (up_to_plain m) ∙ ap (λ (b : Bool). cond b (zero⁺ ⊕ y i) zero⁺) (same (le_or_lt (suc i) m))
    where
      same : (suc i ≤ m) ⊎ (m < suc i) → ltb i m ≡ ltb i (suc m)
      same (inl l) = lt-ltb i m l ∙ sym (lt-ltb i (suc m) (omega arith))
      same (inr l) = le-ltb i m (omega arith) ∙ sym (le-ltb i (suc m) (elim (eq-or-lt_of_le (le_of_suc-le-suc l)) [ inl e ↦ absurd (d e) | inr k ↦ k ]))

  sum_up_to : (m : ℕ) → m ≤ n → sum_to m (λ k. identity k i ⊗ y k) ≡ up_to m
  unfolding sum_to loop
  sum_up_to zero h = rw (le-ltb i 0 (omega arith))
  sum_up_to (suc m) h = ap (λ (s : Float). s ⊕ identity m i ⊗ y m) (sum_up_to m (omega arith)) ∙ go (eqb m i) (eqb-true m i) (eqb-false m i)
    where
      go : (b : Bool) → (b ≡ true → m ≡ i) → (b ≡ false → m ≢ i) → up_to m ⊕ cond b one zero⁺ ⊗ y m ≡ up_to (suc m)
      go true e d = here m (e refl) h
      go false e d = there m (d refl) h

  times_identity : sum_to n (λ k. identity k i ⊗ y k) ≡ zero⁺ ⊕ y i
  times_identity = sum_up_to n (le_refl n) ∙ rw (lt-ltb i n hi)

-- ---- what the sweeps begin with
abbrev pub scaled_entry : Float → Matrix → Matrix
scaled_entry scale a i j = zero⁺ ⊕ a i j ⊘ scale

pub start_is : (n : ℕ) (scale : Float) (a : Matrix) → ((i j : ℕ) → i < n → j < n → Finite (a i j ⊘ scale))
    → start n scale a ≡ rows n n (symmetrized (scaled_entry scale a))
unfolding start
start_is n scale a t =
    ap (λ (b : List Float). rows n n (symmetrized (at b n))) (rows_ext n n (product n left identity) (scaled_entry scale a) second)
    ∙ rows_ext n n (symmetrized (at (rows n n (scaled_entry scale a)) n)) (symmetrized (scaled_entry scale a)) (λ i j hi hj k. (rows_at (scaled_entry scale a) n n i j hi hj k ⊕ rows_at (scaled_entry scale a) n n j i hj hi k) ⊗ half)
  where
    left : Matrix
    left = product n (transpose identity) (divided a scale)

    first : (i j : ℕ) → i < n → j < n → left i j ≡ scaled_entry scale a i j
    first i j hi hj = times_identity n i (λ k. a k j ⊘ scale) (λ k h. t k j h hj) hi

    second : (i j : ℕ) → i < n → j < n → product n left identity i j ≡ scaled_entry scale a i j
    second i j hi hj =
        sum_ext n (λ k. left i k ⊗ identity k j) (λ k. identity k j ⊗ scaled_entry scale a i k)
        (λ k h. ap (λ (x : Float). x ⊗ identity k j) (first i k hi h) ∙ ⊗-comm (scaled_entry scale a i k) (identity k j))
        ∙ times_identity n j (scaled_entry scale a i) (λ k h. (plus_plain (a i k ⊘ scale) (t i k hi h)).0) hj ∙ plus_twice (a i j ⊘ scale) (t i j hi hj)
