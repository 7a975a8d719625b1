-- A row of numbers two of which are turned, again and again, from a row of the identity: the sum of its squares is at most 2 (257 / 256) ^ r after r
-- turns (`Good`). So it stays far below 2 ^ 600 for as many turns as the limits allow. Assumes nothing.
use mathlib.Core.Path.{◌≡◌, refl, sym, ap, ◌∙◌, subst}
use mathlib.Core.Logic.{◌⊎◌, inl, inr, ◌≢◌}
use mathlib.Core.Bool.{Bool, true, false, cond}
use Prim.Native.Nat.{ℕ, zero, suc, ◌+◌, ◌-◌, ◌*◌, ◌^◌, ◌≤◌, ◌<◌}
use native.Mathlib.Nat.{le_trans, le_of_eq, le_of_suc-le-suc, lt_trans, not-suc-le-zero, eq-or-lt_of_le, ne_of_lt, add-zero, add-sub_of_le, mul-mul-mul_comm, suc-mul, mul-le-mul, mul-le-mul_left, mul-le-mul_right, le_of_mul-le-mul_right, pow-suc, one-le-pow, pow-le-pow_left}
use native.Mathlib.Omega.{arith}
use lib.Dec.{eqb, lit≤}
use lib.Pow.{pow-add}
use lib.Ieee.{Float}
use borrow.Author.Tests.{eqb-false, eq-eqb, ne_eqb}
use Rattle.leaves.specs.Numbers.{◌⊕◌, ◌⊖◌, ◌⊗◌}
use Rattle.leaves.specs.Loops.{loop}
use Rattle.leaves.proofs.Loops.{loop_ext, loop_still}
use Rattle.leaves.proofs.Units.{U, mag}
use Rattle.matrix.specs.Limits.{max_side, max_sweeps}
use Rattle.matrix.proofs.Lines.{turned_row, turned_p, turned_q, turned_other}
use Rattle.matrix.proofs.Squares.{slack, square_back}
use Rattle.matrix.proofs.Angle.{Angle}
use Rattle.matrix.proofs.Turn.{TurnMost, Tame, Next, next}

-- ---- sums
unfoldable pub sum : (ℕ → ℕ) → ℕ → ℕ
sum f n = loop n (λ j t. t + f j) 0

sum_same : (f g : ℕ → ℕ) (n : ℕ) → ((j : ℕ) → j < n → f j ≡ g j) → sum f n ≡ sum g n
unfolding sum
sum_same f g n h = loop_ext n (λ j t. t + f j) (λ j t. t + g j) 0 (λ j l t. ap (λ (x : ℕ). t + x) (h j l))

-- f with 0 at p
abbrev without : (ℕ → ℕ) → ℕ → ℕ → ℕ
without f p j = cond (eqb j p) 0 (f j)

other : (f : ℕ → ℕ) (p j : ℕ) → j ≢ p → without f p j ≡ f j
other f p j d = ap (λ (b : Bool). cond b 0 (f j)) (ne_eqb j p d)

sum_without : (f : ℕ → ℕ) (n p : ℕ) → p < n → sum f n ≡ sum (without f p) n + f p
unfolding sum loop
sum_without f zero p h = absurd (not-suc-le-zero h)
sum_without f (suc n) p h = go (eq-or-lt_of_le (le_of_suc-le-suc h)) (sum_without f n p)
  where
    go : (p ≡ n) ⊎ (p < n) → (p < n → sum f n ≡ sum (without f p) n + f p) → sum f n + f n ≡ sum (without f p) n + without f p n + f p
    go (inl e) ih =
        let a : without f p n ≡ 0 = ap (λ (b : Bool). cond b 0 (f n)) (eq-eqb n p (sym e)) in
        let b : f p ≡ f n = ap f e in
        let c : sum (without f p) n ≡ sum f n = sum_same (without f p) f n (λ j l. other f p j (λ (d : j ≡ p). ne_of_lt l (d ∙ e))) in
        omega arith
    go (inr l) ih = let a = ih l in let b = other f p n (λ (d : n ≡ p). ne_of_lt l (sym d)) in omega arith

-- all but one are 0
sum_zero : (n : ℕ) → sum (λ j. 0) n ≡ 0
unfolding sum
sum_zero n = loop_still (λ j t. t + 0) n 0 (λ j l t. add-zero t)

pub sum_alone : (f : ℕ → ℕ) (n k : ℕ) → k < n → ((j : ℕ) → j ≢ k → f j ≡ 0) → sum f n ≡ f k
sum_alone f n k l h = let a = sum_without f n k l in let b = sum_same (without f k) (λ j. 0) n (λ j i. none j) in let c = sum_zero n in omega arith
  where
    none : (j : ℕ) → without f k j ≡ 0
    none j = go (eqb j k) (eqb-false j k)
      where
        go : (b : Bool) → (b ≡ false → j ≢ k) → cond b 0 (f j) ≡ 0
        go true d = refl
        go false d = h j (d refl)

-- two numbers changed
module _ (n p q : ℕ) (pq : p < q) (qn : q < n) where
  apart : (f : ℕ → ℕ) → sum f n ≡ sum (without (without f p) q) n + f q + f p
  apart f =
      let a = sum_without f n p (lt_trans pq qn) in
      let b = sum_without (without f p) n q qn in
      let c = other f p q (λ (d : q ≡ p). ne_of_lt pq (sym d)) in
      omega arith

  both_in : (f : ℕ → ℕ) → f p + f q ≤ sum f n
  both_in f = let a = apart f in omega arith

  exchanged : (f g : ℕ → ℕ) → ((j : ℕ) → j ≢ p → j ≢ q → f j ≡ g j) → sum g n + (f p + f q) ≡ sum f n + (g p + g q)
  exchanged f g h = let a = apart f in let b = apart g in let c = sum_same (without (without f p) q) (without (without g p) q) n (λ j l. alike j) in omega arith
    where
      alike : (j : ℕ) → without (without f p) q j ≡ without (without g p) q j
      alike j = go (eqb j q) (eqb j p) (eqb-false j q) (eqb-false j p)
        where
          go : (x y : Bool) → (x ≡ false → j ≢ q) → (y ≡ false → j ≢ p) → cond x 0 (cond y 0 (f j)) ≡ cond x 0 (cond y 0 (g j))
          go true y a b = refl
          go false true a b = refl
          go false false a b = h j (b refl) (a refl)

-- ---- a row after r turns
abbrev square : (ℕ → Float) → ℕ → ℕ
square row j = mag (row j) * mag (row j)

pub record Good (n : ℕ) (row : ℕ → Float) (r : ℕ) : Type 0 where
  pub tame : (j : ℕ) → j < n → Tame (row j)
  pub most : (sum (square row) n + slack) * 256 ^ r ≤ U * U * 2 * 257 ^ r

pub good_same : (n r : ℕ) (row row' : ℕ → Float) → ((j : ℕ) → j < n → row j ≡ row' j) → Good n row r → Good n row' r
good_same n r row row' h g = record {
  tame = λ j l. subst Tame (h j l) (g.tame j l);
  most = subst (λ (k : ℕ). (k + slack) * 256 ^ r ≤ U * U * 2 * 257 ^ r) (sum_same (square row) (square row') n (λ j l. ap (λ (x : Float). mag x * mag x) (h j l))) g.most;
}

-- at most as many turns as the limits allow
abbrev pub most_turns : ℕ
most_turns = max_sweeps * (max_side * max_side)

-- as many turns as at most double the squares, and as many such blocks as have all turns in them
abbrev block : ℕ
block = 177

abbrev most_blocks : ℕ
most_blocks = 579

blocks : (k : ℕ) → 257 ^ (k * block) ≤ 2 ^ k * 256 ^ (k * block)
blocks zero = lit≤ tt
blocks (suc k) =
    rw (suc-mul k block, pow-add 257 (k * block) block, pow-add 256 (k * block) block, pow-suc 2 k)
    (le_trans (mul-le-mul (blocks k) (lit≤ {m = 257 ^ block} {n = 2 * 256 ^ block} tt)) (le_of_eq (mul-mul-mul_comm (2 ^ k) (256 ^ (k * block)) 2 (256 ^ block))))

-- the root of twice what the squares grow by at most
unfoldable Most : ℕ
Most = 2 ^ 290

growth : (r : ℕ) → r ≤ most_turns → 2 * 257 ^ r ≤ Most * Most * 256 ^ r
unfolding Most
growth r h =
    let k = most_blocks * block - r in
    let e : r + k ≡ most_blocks * block = add-sub_of_le (le_trans h (lit≤ tt)) in
    let a : 257 ^ (r + k) ≤ 2 ^ most_blocks * 256 ^ (r + k) = rw e (blocks most_blocks) in
    cancel (257 ^ r) (257 ^ k) (2 ^ most_blocks) (256 ^ r) (256 ^ k) (rw (pow-add 257 r k, pow-add 256 r k) at a) (pow-le-pow_left (lit≤ tt) k) (one-le-pow k 256 (lit≤ tt))
  where
    cancel : (x y z v w : ℕ) → x * y ≤ z * (v * w) → w ≤ y → 0 < w → 2 * x ≤ 2 * z * v
    cancel x y z v w h g W = le_of_mul-le-mul_right {m = 2 * x} {n = 2 * z * v} {k = w} (let f = mul-le-mul_left x g in omega arith) W

pub good_small : (n r : ℕ) (row : ℕ → Float) → r ≤ most_turns → Good n row r → (j : ℕ) → j < n → mag (row j) ≤ TurnMost
good_small n r row h g j l =
    let e = sum_without (square row) n j l in
    le_trans (square_back (mag (row j)) (U * Most) (cancel (mag (row j)) (sum (square row) n) (256 ^ r) (257 ^ r) U Most (omega arith) g.most (growth r h) (one-le-pow r 256 (lit≤ tt)))) fits_in
  where
    fits_in : U * Most ≤ TurnMost
    fits_in = unfold U Most TurnMost in lit≤ tt

    cancel : (x t d b u w : ℕ) → x * x ≤ t → (t + slack) * d ≤ u * u * 2 * b → 2 * b ≤ w * w * d → 0 < d → x * x ≤ u * w * (u * w)
    cancel x t d b u w a g h D = le_of_mul-le-mul_right {m = x * x} {n = u * w * (u * w)} {k = d} (let f = mul-le-mul_left (u * u) h in let e = mul-le-mul_right d a in omega arith) D

-- ---- a turn
raised : (t t' d b l : ℕ) → (t' + slack) * 256 ≤ (t + slack) * 257 → (t + slack) * d ≤ l * b → (t' + slack) * (d * 256) ≤ l * (b * 257)
raised t t' d b l h g = let f = mul-le-mul_right d h in omega arith

pub good_still : (n r : ℕ) (row : ℕ → Float) → Good n row r → Good n row (suc r)
good_still n r row g = record {
  tame = g.tame;
  most = rw (pow-suc 256 r, pow-suc 257 r) (raised (sum (square row) n) (sum (square row) n) (256 ^ r) (257 ^ r) (U * U * 2) (omega arith) g.most);
}

pub good_turned : (n r p q : ℕ) (c s : Float) (row : ℕ → Float) → p < q → q < n → Angle c s → r ≤ most_turns → Good n row r → Good n (turned_row c s p q row) (suc r)
good_turned n r p q c s row pq qn a h g = record {
  tame = λ j l. go j (eqb j p) (eqb j q) (g.tame j l);
  most = rw (pow-suc 256 r, pow-suc 257 r) (raised (sum (square row) n) (sum (square row') n) (256 ^ r) (257 ^ r) (U * U * 2) grown g.most);
}
  where
    row' : ℕ → Float
    row' = turned_row c s p q row

    pn : p < n
    pn = lt_trans pq qn

    N : Next (c ⊗ row p ⊖ s ⊗ row q) (s ⊗ row p ⊕ c ⊗ row q) (mag (row p)) (mag (row q))
    N = next c s (row p) (row q) a (g.tame p pn) (g.tame q qn) (good_small n r row h g p pn) (good_small n r row h g q qn)

    go : (j : ℕ) (x y : Bool) → Tame (row j) → Tame (cond x (c ⊗ row p ⊖ s ⊗ row q) (cond y (s ⊗ row p ⊕ c ⊗ row q) (row j)))
    go j true y t = N.at_p
    go j false true t = N.at_q
    go j false false t = t

    other_j : (j : ℕ) → j ≢ p → j ≢ q → square row j ≡ square row' j
    other_j j d e = ap (λ (x : Float). mag x * mag x) (sym (turned_other c s p q row j (d, e)))

    at_p : square row' p ≡ mag (c ⊗ row p ⊖ s ⊗ row q) * mag (c ⊗ row p ⊖ s ⊗ row q)
    at_p = ap (λ (x : Float). mag x * mag x) (turned_p c s p q row p refl)

    at_q : square row' q ≡ mag (s ⊗ row p ⊕ c ⊗ row q) * mag (s ⊗ row p ⊕ c ⊗ row q)
    at_q = ap (λ (x : Float). mag x * mag x) (turned_q c s p q pq row q refl)

    shift : (t t' x y : ℕ) → t' + x ≡ t + y → x ≤ t → y * 256 ≤ x * 257 + slack → (t' + slack) * 256 ≤ (t + slack) * 257
    shift t t' x y e h k = omega arith

    grown : (sum (square row') n + slack) * 256 ≤ (sum (square row) n + slack) * 257
    grown =
        shift (sum (square row) n) (sum (square row') n) (square row p + square row q) (square row' p + square row' q) (exchanged n p q pq qn (square row) (square row') other_j) (both_in n p q pq qn (square row))
        (rw (at_p, at_q) N.growth)
