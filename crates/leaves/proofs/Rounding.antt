-- A fraction n / d to the nearest number of 53 binary digits, a tie to the even one: `near n d`, which is what `round binary64` makes of n / d units, a unit
-- being the format's smallest value, 2 ^ -1074. Four facts say all that the laws of the operations need. It does not pass a number that has 53 digits (`near_most`,
-- `near_least`). Its error is at most 2 ^ -53 of the fraction, or half a unit (`near_error`). A fraction that is whole, or has all the digits, goes through a
-- multiplication by 2 ^ t (`near_scale`), and is a multiple of 2 ^ g where it is large or was one before (`near_grain`). Nothing here asks how large a value can be.
-- Assumes nothing.
use Rattle.std.proofs.Common.{◌≡◌, ℕ, zero, suc, ◌+◌, ◌-◌, ◌*◌, ◌/◌, ◌%◌, ◌^◌, ◌<◌, ◌≤◌, Bool, ◌⊎◌, sym, refl, ap, ◌∙◌, subst, inl, inr, zero-le, le_trans, le_of_eq, le_refl, lt_of_lt_of_le, lt_of_le_of_lt, le_of_lt, lt_irrefl, mul-le-mul_right, mod-lt, zero-lt-suc, mul_assoc, mul_comm, div-lt_iff_lt-mul, eq-zero-or-pos, le_antisymm, lt_of_mul-lt-mul_right, mul-lt-mul_of_pos_right, mul-pos, one-mul, div-add-mod', le-div_iff_mul-le, zero-mul, mul-one, mul_right_comm, not-le_of_lt, le_of_mul-le-mul_right, arith, lit<, lit≤, pow_pos, pow_mono, pow-add, eqb-true, leb-false, leb-true}
use Prim.Native.Nat.{compare, Ordering}
use lib.Dec.{is_le, compare_is_eq}
use lib.Ieee.{binary64, size, nearest, round, units}
use lib.Ieee.Digits.{size_reaches, back}
use lib.Ieee.Fits.{round_is}
use lib.Ieee.Nearest.{closest, closest_same, div_same}
use lib.Ieee.Order.{drop, kept}
use lib.Ieee.Scale.{grid, grid_scale, normal_of_fraction}
use Rattle.leaves.proofs.Whole.{le_or_lt}
use Rattle.leaves.proofs.Laws.{pow_back, size_under}

-- ---- definitions
abbrev pub near : ℕ → ℕ → ℕ
near n d = kept 53 n d * 2 ^ drop 53 n d

-- a number of 53 digits and zeros after them
pub record Representable (n : ℕ) : Type 0 where
  pub digits : ℕ
  pub zeros : ℕ
  pub few : digits < 2 ^ 53
  pub is : n ≡ digits * 2 ^ zeros

-- g is n / d with one rounding's error. The first two say it in full; the others are what is left of it where a factor of two does not matter
pub record Near (g n d : ℕ) : Type 0 where
  pub above : g * d * 2 ^ 53 ≤ n * 2 ^ 53 + n + d * 2 ^ 52
  pub below : n * 2 ^ 53 ≤ g * d * 2 ^ 53 + n + d * 2 ^ 52
  pub doubled : g * d ≤ 2 * n
  pub halved : 2 * n ≤ 4 * (g * d) + d

-- n / d is a multiple of 2 ^ g, or so large that 53 digits of it end at 2 ^ g or above
pub data Grained (g n d : ℕ) : Type 0 where
  whole : (q : ℕ) → n ≡ q * 2 ^ g * d → Grained g n d
  normal : 2 ^ (g + 52) * d ≤ n → Grained g n d

-- ---- a fraction to the nearest whole number
error_at : (o : Ordering) (q r u n : ℕ) → compare (r * 2) u ≡ o → q * u + r ≡ n → r < u → (2 * (nearest q o * u) ≤ 2 * n + u) × (2 * n ≤ 2 * (nearest q o * u) + u)
error_at Ordering.lt q r u n c e l = let h = leb-true (r * 2) u (ap is_le c) in (omega arith, omega arith)
error_at Ordering.eq q r u n c e l =
    let h = eqb-true (r * 2) u (ap compare_is_eq c) in
    let up : (q + q % 2) * u ≤ (q + 1) * u = mul-le-mul_right u (omega arith) in
    (omega arith, omega arith)
error_at Ordering.gt q r u n c e l = let h = leb-false (r * 2) u (ap is_le c) in (omega arith, omega arith)

pub closest_error : (n u : ℕ) → 0 < u → (2 * (closest n u * u) ≤ 2 * n + u) × (2 * n ≤ 2 * (closest n u * u) + u)
closest_error n u U = error_at (compare (n % u * 2) u) (n / u) (n % u) u n refl (div-add-mod' n u) (mod-lt n U)

-- so a whole number is not passed
halves : (a b u : ℕ) → 0 < u → 2 * (a * u) ≤ 2 * (b * u) + u → a ≤ b
halves a b u U h = let k : 2 * a ≤ 2 * b + 1 = le_of_mul-le-mul_right {k = u} (omega arith) U in omega arith

closest_most : (n u b : ℕ) → 0 < u → n ≤ b * u → closest n u ≤ b
closest_most n u b U h = let e = closest_error n u U in halves (closest n u) b u U (omega arith)

closest_least : (n u b : ℕ) → 0 < u → b * u ≤ n → b ≤ closest n u
closest_least n u b U h = let e = closest_error n u U in halves b (closest n u) u U (omega arith)

-- ---- the digits dropped
module _ (n d : ℕ) (D : 0 < d) where
  -- k digits are dropped of a fraction of 53 + k
  dropped : 0 < drop 53 n d → 2 ^ (52 + drop 53 n d) * d ≤ n
  dropped h = (le-div_iff_mul-le D).0 (size_reaches (n / d) (52 + drop 53 n d) (omega arith))

  few_dropped : n < 2 ^ (53 + drop 53 n d) * d
  few_dropped = (div-lt_iff_lt-mul D).0 (size_under (n / d) (53 + drop 53 n d) (omega arith))

-- q * 2 ^ j as a multiple of 2 ^ k, and then in steps of d * 2 ^ k
pub in_place : (q j k : ℕ) → k ≤ j → q * 2 ^ (j - k) * 2 ^ k ≡ q * 2 ^ j
in_place q j k h = mul_assoc q (2 ^ (j - k)) (2 ^ k) ∙ ap (λ (z : ℕ). q * z) (sym (pow-add 2 (j - k) k) ∙ ap (λ (z : ℕ). 2 ^ z) (back j k h))

in_steps : (q j k d : ℕ) → k ≤ j → q * 2 ^ j * d ≡ q * 2 ^ (j - k) * (d * 2 ^ k)
in_steps q j k d h = let e = ap (λ (z : ℕ). z * d) (in_place q j k h) in omega arith

-- fewer zeros than are dropped: the number is below all that drop so many
short : (q j k : ℕ) → q < 2 ^ 53 → j < k → q * 2 ^ j < 2 ^ (52 + k)
short q j k h l = lt_of_lt_of_le (mul-lt-mul_of_pos_right h (pow_pos j)) (le_trans (le_of_eq (sym (pow-add 2 53 j))) (pow_mono {i = 53 + j} {j = 52 + k} (omega arith)))

-- ---- the order
-- of a fraction of which k digits are dropped, and the number q * 2 ^ j
module _ (n d k q j : ℕ) (D : 0 < d) (large : 0 < k → 2 ^ (52 + k) * d ≤ n) (few : q < 2 ^ 53) where
  steps_pos : 0 < d * 2 ^ k
  steps_pos = mul-pos D (pow_pos k)

  most_at : n ≤ q * 2 ^ j * d → closest n (d * 2 ^ k) * 2 ^ k ≤ q * 2 ^ j
  most_at h = go (le_or_lt k j)
    where
      go : (k ≤ j) ⊎ (j < k) → closest n (d * 2 ^ k) * 2 ^ k ≤ q * 2 ^ j
      go (inl l) = le_trans (mul-le-mul_right (2 ^ k) (closest_most n (d * 2 ^ k) (q * 2 ^ (j - k)) steps_pos (le_trans h (le_of_eq (in_steps q j k d l))))) (le_of_eq (in_place q j k l))
      go (inr l) = absurd (lt_irrefl n (lt_of_le_of_lt h (lt_of_lt_of_le (mul-lt-mul_of_pos_right (short q j k few l) D) (large (lt_of_le_of_lt zero-le l)))))

  least_at : q * 2 ^ j * d ≤ n → q * 2 ^ j ≤ closest n (d * 2 ^ k) * 2 ^ k
  least_at h = go (le_or_lt k j)
    where
      go : (k ≤ j) ⊎ (j < k) → q * 2 ^ j ≤ closest n (d * 2 ^ k) * 2 ^ k
      go (inl l) = le_trans (le_of_eq (sym (in_place q j k l))) (mul-le-mul_right (2 ^ k) (closest_least n (d * 2 ^ k) (q * 2 ^ (j - k)) steps_pos (le_trans (le_of_eq (sym (in_steps q j k d l))) h)))
      go (inr l) =
          let p : 2 ^ 52 * (d * 2 ^ k) ≤ n = le_trans (le_of_eq (ap (λ (z : ℕ). 2 ^ 52 * z) (mul_comm d (2 ^ k)) ∙ sym (mul_assoc (2 ^ 52) (2 ^ k) d) ∙ ap (λ (z : ℕ). z * d) (sym (pow-add 2 52 k)))) (large (lt_of_le_of_lt zero-le l)) in
          le_of_lt (lt_of_lt_of_le (short q j k few l) (le_trans (le_of_eq (pow-add 2 52 k)) (mul-le-mul_right (2 ^ k) (closest_least n (d * 2 ^ k) (2 ^ 52) steps_pos p))))

module _ (n d b : ℕ) (D : 0 < d) (H : Representable b) where
  pub near_most : n ≤ b * d → near n d ≤ b
  near_most h = rw H.is (most_at n d (drop 53 n d) H.digits H.zeros D (dropped n d D) H.few (rw H.is at h))

  pub near_least : b * d ≤ n → b ≤ near n d
  near_least h = rw H.is (least_at n d (drop 53 n d) H.digits H.zeros D (dropped n d D) H.few (rw H.is at h))

-- ---- numbers that are held
pub representable_times : (q j : ℕ) → q < 2 ^ 53 → Representable (q * 2 ^ j)
representable_times q j h = record { digits = q; zeros = j; few = h; is = refl }

pub representable_small : (q : ℕ) → q < 2 ^ 53 → Representable q
representable_small q h = record { digits = q; zeros = 0; few = h; is = sym (mul-one q) }

pub representable_pow : (j : ℕ) → Representable (2 ^ j)
representable_pow j = record { digits = 1; zeros = j; few = lit< tt; is = sym (one-mul (2 ^ j)) }

pub representable_up : (b t : ℕ) → Representable b → Representable (b * 2 ^ t)
representable_up b t H = record { digits = H.digits; zeros = H.zeros + t; few = H.few; is = ap (λ (z : ℕ). z * 2 ^ t) H.is ∙ mul_assoc H.digits (2 ^ H.zeros) (2 ^ t) ∙ ap (λ (z : ℕ). H.digits * z) (sym (pow-add 2 H.zeros t)) }

-- rounding gives them back
pub near_representable : (b d : ℕ) → 0 < d → Representable b → near (b * d) d ≡ b
near_representable b d D H = le_antisymm (near_most (b * d) d b D H (le_refl (b * d))) (near_least (b * d) d b D H (le_refl (b * d)))

-- ---- the error
doubled_fine : (g n d : ℕ) → 2 * (g * d) ≤ 2 * n + d → g * d ≤ 2 * n
doubled_fine g n d h = go (le_or_lt d (2 * n)) (eq-zero-or-pos g)
  where
    go : (d ≤ 2 * n) ⊎ (2 * n < d) → (g ≡ 0) ⊎ (0 < g) → g * d ≤ 2 * n
    go (inl l) z = omega arith
    go (inr l) (inl z) = le_trans (le_of_eq (ap (λ (x : ℕ). x * d) z ∙ zero-mul d)) zero-le
    go (inr l) (inr p) = let k : 1 * d ≤ g * d = mul-le-mul_right d p in absurd (omega arith)

near_at : (c n d k : ℕ) → (0 < k → 2 ^ (52 + k) * d ≤ n) → 2 * (c * (d * 2 ^ k)) ≤ 2 * n + d * 2 ^ k → 2 * n ≤ 2 * (c * (d * 2 ^ k)) + d * 2 ^ k → Near (c * 2 ^ k) n d
near_at c n d zero s a b =
    record { above = omega arith; below = omega arith; doubled = doubled_fine (c * 1) n d (omega arith); halved = omega arith }
near_at c n d (suc k) s a b =
    let z : 2 ^ 52 * 2 ^ suc k * d ≤ n = subst (λ (x : ℕ). x * d ≤ n) (pow-add 2 52 (suc k)) (s (zero-lt-suc k)) in
    large c n d (2 ^ suc k) a b z
  where
    large : (c n d p : ℕ) → 2 * (c * (d * p)) ≤ 2 * n + d * p → 2 * n ≤ 2 * (c * (d * p)) + d * p → 2 ^ 52 * p * d ≤ n → Near (c * p) n d
    large c n d p a b z = record { above = omega arith; below = omega arith; doubled = omega arith; halved = omega arith }

pub near_error : (n d : ℕ) → 0 < d → Near (near n d) n d
near_error n d D = let e = closest_error n (d * 2 ^ drop 53 n d) (mul-pos D (pow_pos (drop 53 n d))) in near_at (kept 53 n d) n d (drop 53 n d) (dropped n d D) e.0 e.1

-- ---- with a factor l in both
module _ (n d l : ℕ) (D : 0 < d) (L : 0 < l) where
  drop_cancel : drop 53 (n * l) (d * l) ≡ drop 53 n d
  drop_cancel = ap (λ (z : ℕ). size z - 53) (div_same (n * l) (d * l) n d (mul-pos D L) D (omega arith))

  kept_cancel : kept 53 (n * l) (d * l) ≡ kept 53 n d
  kept_cancel =
      let k = drop 53 n d in
      ap (λ (z : ℕ). closest (n * l) (d * l * 2 ^ z)) drop_cancel ∙ closest_same (n * l) (d * l * 2 ^ k) n (d * 2 ^ k) (mul-pos (mul-pos D L) (pow_pos k)) (mul-pos D (pow_pos k)) (regroup n d l (2 ^ k))
    where
      regroup : (n d l k : ℕ) → n * l * (d * k) ≡ n * (d * l * k)
      regroup n d l k = omega arith

-- ---- multiplication by 2 ^ t
near_normal : (n d t : ℕ) → 0 < d → 2 ^ 52 * d ≤ n → near (n * 2 ^ t) d ≡ near n d * 2 ^ t
near_normal n d t D h =
    sym (grid_near (n * 2 ^ t)) ∙ grid_scale binary64 n (d * 2 ^ 1074) t (mul-pos D (pow_pos 1074)) (normal_of_fraction binary64 n (d * 2 ^ 1074) (mul-pos D (pow_pos 1074)) (scaled (2 ^ 52) d n (2 ^ 1074) h)) ∙ ap (λ (z : ℕ). z * 2 ^ t) (grid_near n)
  where
    grid_near : (a : ℕ) → grid binary64 a (d * 2 ^ 1074) ≡ near a d
    grid_near a = ap (λ (z : ℕ). z * 2 ^ drop 53 (a * 2 ^ 1074) (d * 2 ^ 1074)) (kept_cancel a d (2 ^ 1074) D (pow_pos 1074)) ∙ ap (λ (z : ℕ). kept 53 a d * 2 ^ z) (drop_cancel a d (2 ^ 1074) D (pow_pos 1074))

    scaled : (a d n l : ℕ) → a * d ≤ n → a * (d * l) ≤ n * l
    scaled a d n l h = le_trans (le_of_eq (sym (mul_assoc a d l))) (mul-le-mul_right l h)

near_whole : (q d t : ℕ) → 0 < d → near (q * d * 2 ^ t) d ≡ near (q * d) d * 2 ^ t
near_whole q d t D = go (le_or_lt (2 ^ 53) q)
  where
    go : (2 ^ 53 ≤ q) ⊎ (q < 2 ^ 53) → near (q * d * 2 ^ t) d ≡ near (q * d) d * 2 ^ t
    go (inl l) = near_normal (q * d) d t D (mul-le-mul_right d (le_trans (lit≤ tt) l))
    go (inr l) = ap (λ (z : ℕ). near z d) (mul_right_comm q d (2 ^ t)) ∙ near_representable (q * 2 ^ t) d D (representable_times q t l) ∙ ap (λ (z : ℕ). z * 2 ^ t) (sym (near_representable q d D (representable_small q l)))

pub near_scale : (n d t : ℕ) → 0 < d → Grained 0 n d → near (n * 2 ^ t) d ≡ near n d * 2 ^ t
near_scale n d t D (whole q e) = let f : n ≡ q * d = e ∙ ap (λ (z : ℕ). z * d) (mul-one q) in subst (λ (z : ℕ). near (z * 2 ^ t) d ≡ near z d * 2 ^ t) (sym f) (near_whole q d t D)
near_scale n d t D (normal h) = near_normal n d t D h

-- ---- multiples of 2 ^ g
pub near_grain : (g n d : ℕ) → 0 < d → Grained g n d → (c : ℕ) × (near n d ≡ c * 2 ^ g)
near_grain g n d D (whole q e) = (near (q * d) d, ap (λ (z : ℕ). near z d) (e ∙ mul_right_comm q (2 ^ g) d) ∙ near_whole q d g D)
near_grain g n d D (normal h) =
    let k = drop 53 n d in
    let l : g ≤ k = let p = pow_back (g + 52) (53 + k) (lt_of_mul-lt-mul_right d (lt_of_le_of_lt h (few_dropped n d D))) in omega arith in
    (kept 53 n d * 2 ^ (k - g), sym (in_place (kept 53 n d) k g l))

pub grained_finer : (g j n d : ℕ) → g ≤ j → Grained j n d → Grained g n d
grained_finer g j n d h (whole q e) = whole (q * 2 ^ (j - g)) (e ∙ ap (λ (z : ℕ). z * d) (sym (in_place q j g h)))
grained_finer g j n d h (normal l) = normal (le_trans (mul-le-mul_right d (pow_mono {i = g + 52} {j = j + 52} (omega arith))) l)

-- a number that is held, and so large, is a multiple of 2 ^ g
pub representable_grain : (g b : ℕ) → Representable b → 2 ^ (g + 52) ≤ b → (c : ℕ) × (b ≡ c * 2 ^ g)
representable_grain g b H h =
    let l : g ≤ H.zeros = go (le_or_lt g H.zeros) in
    (H.digits * 2 ^ (H.zeros - g), H.is ∙ sym (in_place H.digits H.zeros g l))
  where
    go : (g ≤ H.zeros) ⊎ (H.zeros < g) → g ≤ H.zeros
    go (inl l) = l
    go (inr l) = absurd (not-le_of_lt (short H.digits H.zeros g H.few l) (le_trans (pow_mono {i = 52 + g} {j = g + 52} (omega arith)) (le_trans h (le_of_eq H.is))))

-- ---- what `round` makes of n / d units, of which 1 has 2 ^ 1074
pub round_near : (s : Bool) (n d : ℕ) → 0 < d → round binary64 s n (d * 2 ^ 1074) ≡ units binary64 s (kept 53 n d) (drop 53 n d)
round_near s n d D =
    round_is binary64 s n (d * 2 ^ 1074)
    ∙ ap (λ (z : ℕ). units binary64 s z (drop 53 (n * 2 ^ 1074) (d * 2 ^ 1074))) (kept_cancel n d (2 ^ 1074) D (pow_pos 1074))
    ∙ ap (units binary64 s (kept 53 n d)) (drop_cancel n d (2 ^ 1074) D (pow_pos 1074))
