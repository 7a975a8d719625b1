-- The Bayes-Stein mean: intensity, target and means, over columns that are not refused. All exponents grow by k together, so the intensity is the same. The target is one ratio, scaled by 2 ^ s and
-- by 2 ^ (s + k): it is far from overflow, or infinite, in both runs. The means add one number scaled back and the intensity times the target. Assumes nothing.
use mathlib.Core.Path.{◌≡◌, refl, sym, ap, ap₂, ◌∙◌, subst}
use mathlib.Core.Logic.{◌⊎◌, inl, inr}
use Prim.Native.Nat.{ℕ, zero, suc, ◌+◌, ◌-◌, ◌*◌, ◌^◌, ◌≤◌, ◌<◌, zero-le}
use native.Mathlib.Nat.{zero-mul, le_refl, le_trans, le_of_eq, lt_irrefl, zero-add, mul-le-mul, mul-le-mul_right, eq-zero-or-pos}
use native.Mathlib.Omega.{arith}
use mathlib.Core.Bool.{Bool, true, false}
use mathlib.Core.List.{List}
use lib.Dec.{T, lit≤}
use lib.IntN.{ℤ, pos, neg_ℤ, ◌+ℤ◌, ◌-ℤ◌}
use lib.Pow.{pow-add, pow_mono}
use lib.Ieee.{Float, nan, inf, fin, binary64, fits, lt, add, mul}
use lib.Ieee.Fits.{mul-fits, div-fits}
use borrow.Author.Tests.{ne_eqb}
use Rattle.leaves.specs.Numbers.{◌⊕◌, ◌⊖◌, ◌⊗◌, zero⁺, one, two, count, is_finite, max0}
use Rattle.leaves.specs.Loops.{sum_to, nth}
use Rattle.leaves.specs.Scaling.{pow2, binary_exponent, pow2_scaled}
use Rattle.leaves.specs.Shift.{shift}
use Rattle.leaves.proofs.Nan.{nan_add}
use Rattle.leaves.proofs.Loops.{tab_ext, get_or_tab}
use Rattle.leaves.proofs.Whole.{pos_part, neg_part, plus, minus, same, one_side, pos_part_neg, neg_part_neg, Within, LeZ}
use Rattle.leaves.proofs.Shift.{shift_nan, is_finite_shift}
use Rattle.leaves.proofs.Rounding.{near_most, representable_pow}
use Rattle.leaves.proofs.Units.{one_bits, top_bits, U, U_pos, sign, mag, val_mag, mag_val, eq_zero}
use Rattle.leaves.proofs.Arithmetic.{mul_finite}
use Rattle.leaves.proofs.Range.{Range, range_size}
use Rattle.leaves.proofs.Bounds.{Bounded, sizes, product_of, is_covered}
use Rattle.leaves.proofs.Operations.{Moved, still, moved_add, moved_sub, moved_mul, pow_le_U}
use Rattle.leaves.proofs.Signs.{sign_mul, sign_count}
use Rattle.leaves.proofs.Scale.{pow2_fits, scaled_once, scaled_fits, nan_scaled, inf_scaled, sign_scaled}
use Rattle.leaves.proofs.PowersOfTwo.{range_move, scaled_moves, zero_scaled, fits_move, scaled_copy, pow2_val}
use Rattle.matrix.specs.Limits.{max_sweeps, max_side}
use Rattle.matrix.specs.Matrix.{Matrix, at, amax}
use Rattle.matrix.specs.Jacobi.{Decomposition, decompose, unturned, scaled_back, swept, start}
use Rattle.matrix.proofs.Sweeps.{decompose_cases}
use Rattle.matrix.proofs.Turn.{TurnMost}
use Rattle.matrix.proofs.Vectors.{NanOrBounded, vectors_small}
use Rattle.rules.specs.Sample.{volatility, is_constant}
use Rattle.rules.specs.Moments.{Moments, moments}
use Rattle.rules.specs.BayesStein.{singular, common_exponent, gathered, project, form, ratio_of, squared_distance_of, intensity_at, bayes_stein_shrinkage, shrunk_mean, exponents_of, correlations, bayes_stein}
use Rattle.law.specs.Law.{AtLeast, max_power, mean_range}
use Rattle.law.proofs.Ranges.{return_bounds, mean_intensity_bounds, exponent_above, exponent_below, scaled_back_of, unit_mean_bounds, inverse_bounds, mean_over_bounds, left_mean_bounds}
use Rattle.law.proofs.Sizes.{at_least, unit_range}
use Rattle.law.proofs.Sample.{Returns}
use Rattle.law.proofs.Scaled.{top_of, under_power, scaled_range}
use Rattle.law.proofs.Shrinkage.{one_moved}
use Rattle.law.proofs.Sums.{sum_fits, sum_finite, sum_most}
use Rattle.law.proofs.JamesStein.{MeanIntensity}
use Rattle.law.proofs.Share.{max0_plus, share_unit}
use Rattle.law.proofs.Common.{common_in, common_above, common_lower}
use Rattle.law.proofs.Rescaled.{rescaled}
use Rattle.law.proofs.Ratio.{product_is, ratio_most_lem, ratio_most, projected_most, turned_most}
use Rattle.law.proofs.Columns.{exponent_small, column_moments, grows, inverse_exponent, inverse_some, mean_over_exponent, mean_over_range, size_of, decomposed_correlations, Σ, μ-range, inverse, mean_over}

-- ---- the exponents of the two vectors
-- how far above and below 0: of the ones over the volatilities, of the means over them, and of the target
abbrev ones_above : ℕ
ones_above = exponent_above inverse_bounds + exponent_below return_bounds

abbrev ones_below : ℕ
ones_below = exponent_below inverse_bounds + exponent_above return_bounds

abbrev means_above : ℕ
means_above = exponent_above mean_over_bounds

abbrev means_below : ℕ
means_below = exponent_below mean_over_bounds

abbrev target_above : ℕ
target_above = means_above + ones_below

abbrev target_below : ℕ
target_below = means_below + ones_above

plus_small : {a b c d : ℕ} (i j : ℤ) → Within a b i → Within c d j → Within (a + c) (b + d) (i +ℤ j)
plus_small i j p q = (omega (arith, plus i j, one_side (i +ℤ j)), omega (arith, plus i j, one_side (i +ℤ j)))

neg_small : {a b : ℕ} (j : ℤ) → Within a b j → Within b a (neg_ℤ j)
neg_small j p = (omega (arith, pos_part_neg j), omega (arith, neg_part_neg j))

none_small : (a b : ℕ) → Within a b (pos 0)
unfolding pos_part neg_part
none_small a b = (zero-le, zero-le)

-- a number scaled so that its exponent is not above 0 is below 2
below_two : {g L : ℕ} (h : ℕ) (x : Float) → Range g L (2 ^ h) x → (j : ℤ) → neg_part j ≤ g + pos_part j → h + pos_part j ≤ top_bits + neg_part j → (0 < mag x → LeZ (binary_exponent x +ℤ j) (pos 0)) → T (is_finite (pow2_scaled x j)) × (mag (pow2_scaled x j) ≤ 2 ^ suc one_bits)
unfolding pos_part
below_two {g} {L} h x r j low high not_above = elim (eq-zero-or-pos (mag x)) [
  | inl z ↦ (let e = zero_scaled x j r.fit r.finite z in (rw e r.finite, rw (e, z) zero-le))
  | inr p ↦
      let b = binary_exponent x in
      let top = top_of x in
      let q = under_power x x r p (le_refl (mag x)) r in
      let room : top + pos_part j ≤ suc one_bits + neg_part j = omega (arith, plus b j, not_above p) in
      let s : Range (g + pos_part j - neg_part j) 0 (2 ^ suc one_bits) (shift j x) = range_move top x q.1 j low (le_trans room (omega arith)) (g + pos_part j - neg_part j) 0 (2 ^ suc one_bits) (omega arith) (le_trans (le_of_eq (zero-mul (2 ^ neg_part j))) zero-le)
      (le_trans (le_of_eq (sym (pow-add 2 top (pos_part j)))) (le_trans (pow_mono room) (le_of_eq (pow-add 2 (suc one_bits) (neg_part j))))) in
      rw (scaled_moves h x r j low high) (s.finite, s.most)
]

-- ---- what is found of a decomposition's parts
-- the values are numbers of the format
values_fit : (limit n : ℕ) (a : Matrix) (e : ℕ) → e < n → T (fits binary64 (nth (decompose limit n a).values e))
values_fit limit n a e l =
    decompose_cases (λ d. T (fits binary64 (nth d.values e))) limit n a (λ found. unfold unturned in rw (get_or_tab n (λ i. zero⁺) e nan l) (unfold fits in tt))
    (unfold scaled_back in rw (get_or_tab n (λ i. at (swept limit n (start n (amax n n a) a)).reached.matrix n i i ⊗ amax n n a) e nan l) (mul-fits binary64 (at (swept limit n (start n (amax n n a) a)).reached.matrix n e e) (amax n n a)))

-- a projection, where it is finite
project_most : (limit n : ℕ) (a : Matrix) → n ≤ max_side → limit ≤ max_sweeps → (z : ℕ → Float) → ((i : ℕ) → i < n → T (fits binary64 (z i)) × T (is_finite (z i)) × (mag (z i) ≤ 2 ^ suc one_bits))
    → (e : ℕ) → e < n → T (is_finite (nth (project n (decompose limit n a) z) e)) → mag (nth (project n (decompose limit n a) z) e) ≤ 2 ^ projected_most
project_most limit n a few short z each e l F =
    let W = at (decompose limit n a).vectors n in
    let i : nth (project n (decompose limit n a) z) e ≡ sum_to n (λ i. W i e ⊗ z i) = unfold project in get_or_tab n (λ e. sum_to n (λ i. W i e ⊗ z i)) e nan l in
    rw i (sum_most n turned_most (λ i. W i e ⊗ z i) few (lit≤ tt) (λ t b.
    let f = sum_finite n (λ i. W i e ⊗ z i) (subst (λ (y : Float). T (is_finite y)) i F) t b in
    let q = mul_finite (W t e) (z t) f in
    let s = vector (W t e) (vectors_small limit n a few short t e b l) q.0 in (
      mul-fits binary64 (W t e) (z t),
      f,
      rw (product_is (W t e) (z t) s.0 (each t b).0 f)
          (near_most (mag (W t e) * mag (z t)) U (2 ^ turned_most) U_pos (representable_pow turned_most) (le_trans (mul-le-mul s.1 (each t b).2) (le_of_eq powers))),
    )))
  where
    powers : TurnMost * 2 ^ suc one_bits ≡ 2 ^ turned_most * U
    powers = unfold U TurnMost in refl

    vector : (x : Float) → NanOrBounded x → T (is_finite x) → T (fits binary64 x) × (mag x ≤ TurnMost)
    vector x (inl z) f = absurd (unfold is_finite in subst (λ (y : Float). T (is_finite y)) z f)
    vector x (inr r) f = (r.fit, r.most)

-- ---- what a call that does not refuse has seen
pub record Passed (limit n : ℕ) (m : Moments) (s : ℕ → Float) : Type 0 where
  pub limited : limit ≤ max_sweeps
  pub above : (i : ℕ) → i < n → is_constant (volatility (Σ n m) i) (s i) ≡ false
  pub regular : singular n (decomposed_correlations limit n m) ≡ false

-- the exponents of the two vectors, the vectors, and the squared distance times the number of periods
abbrev a_of : ℕ → Moments → (ℕ → ℤ) → ℤ
a_of n m e = common_exponent n (inverse n m) (λ i. neg_ℤ (e i))

abbrev b_of : ℕ → Moments → ℤ
b_of n m = common_exponent n (mean_over n m) (λ i. pos 0)

abbrev ones : ℕ → Moments → (ℕ → ℤ) → List Float
ones n m e = gathered n (inverse n m) (λ i. neg_ℤ (e i)) (a_of n m e)

abbrev means : ℕ → Moments → List Float
means n m = gathered n (mean_over n m) (λ i. pos 0) (b_of n m)

abbrev weighted_distance : ℕ → Decomposition → Float → List Float → List Float → ℤ → Float
weighted_distance n d P x y b = P ⊗ pow2_scaled (max0 (squared_distance_of n d x y (ratio_of n d x y))) (b +ℤ b)

shrinkage_is : (limit n : ℕ) (m : Moments) (e : ℕ → ℤ) → let d = decomposed_correlations limit n m in
    ((bayes_stein n limit m e).intensity ≡ intensity_at n (weighted_distance n d m.periods (ones n m e) (means n m) (b_of n m))) × ((bayes_stein n limit m e).target ≡ pow2_scaled (ratio_of n d (ones n m e) (means n m)) (b_of n m -ℤ a_of n m e))
unfolding bayes_stein_shrinkage
shrinkage_is limit n m e = (refl, refl)

-- the intensity, not below 0 and not above 1
weighted_distance_plus : (n : ℕ) (d : Decomposition) (P : Float) (x y : List Float) (b : ℤ) → sign P ≡ false → sign (weighted_distance n d P x y b) ≡ false
weighted_distance_plus n d P x y b h =
    let z = squared_distance_of n d x y (ratio_of n d x y) in
    sign_mul P (pow2_scaled (max0 z) (b +ℤ b)) (h ∙ sym (sign_scaled (max0 z) (b +ℤ b) (max0_plus z)))

pub shrinkage_unit : (limit n : ℕ) (m : Moments) (e : ℕ → ℤ) → n ≤ max_side → sign m.periods ≡ false → (lt (bayes_stein n limit m e).intensity zero⁺ ≡ false) × (lt one (bayes_stein n limit m e).intensity ≡ false)
shrinkage_unit limit n m e few h =
    let d = decomposed_correlations limit n m in
    rw (shrinkage_is limit n m e).0 (share_unit n (weighted_distance n d m.periods (ones n m e) (means n m) (b_of n m)) few (mul-fits binary64 m.periods _) (weighted_distance_plus n d m.periods (ones n m e) (means n m) (b_of n m) h))

-- the ratio of a decomposition that passes the test, for vectors below 2 in size
ratio_small : (limit n : ℕ) (a : Matrix) → 0 < n → n ≤ max_side → limit ≤ max_sweeps → singular n (decompose limit n a) ≡ false → (x y : List Float)
    → ((i : ℕ) → i < n → T (fits binary64 (nth y i)) × T (is_finite (nth y i)) × (mag (nth y i) ≤ 2 ^ suc one_bits))
    → T (is_finite (ratio_of n (decompose limit n a) x y)) → mag (ratio_of n (decompose limit n a) x y) ≤ 2 ^ ratio_most
unfolding form singular
ratio_small limit zero a p few short test x y hy F = absurd (lt_irrefl 0 p)
ratio_small limit (suc n) a p few short test x y hy F =
    let d = decompose limit (suc n) a in
    ratio_most_lem n few (nth d.values) (values_fit limit (suc n) a) test (λ e. nth (project (suc n) d (nth x)) e) (λ e. nth (project (suc n) d (nth y)) e)
    (projected x) (projected y) (project_most limit (suc n) a few short (nth y) hy) F
  where
    projected : (x : List Float) (e : ℕ) → e < suc n → T (fits binary64 (nth (project (suc n) (decompose limit (suc n) a) (nth x)) e))
    projected x e l = unfold project in rw (get_or_tab (suc n) (λ e. sum_to (suc n) (λ i. at (decompose limit (suc n) a).vectors (suc n) i e ⊗ nth x i)) e nan l) (sum_fits (suc n) (λ i. at (decompose limit (suc n) a).vectors (suc n) i e ⊗ nth x i))

-- what is not finite stays as it is
unmoved : (k : ℕ) (z : Float) → (T (is_finite z) → ⊥) → shift (pos k) z ≡ z
unfolding shift is_finite
unmoved k nan g = refl
unmoved k (inf s) g = refl
unmoved k (fin s c w) g = absurd (g tt)

module _ {k n P : ℕ} {x y : Matrix} (small : k ≤ max_power) (r : Returns k n P return_bounds x y) (tops : (i : ℕ) → i < n → pos_part (exponents_of P n y i) ≤ exponent_above return_bounds) (limit : ℕ) (p : Passed limit n (column_moments P n x) (size_of P n x)) where
  abbrev m' : Moments
  m' = column_moments P n x

  abbrev e : ℕ → ℤ
  e = exponents_of P n x

  abbrev f : ℕ → ℤ
  f = exponents_of P n y

  abbrev d : Decomposition
  d = decomposed_correlations limit n m'

  -- the targets of the two runs
  abbrev t : Float
  t = (bayes_stein n limit m' e).target

  abbrev t' : Float
  t' = (bayes_stein n limit m' f).target

  a_small : Within ones_above ones_below (a_of n m' e)
  a_small = common_in (inverse n m') (λ i. neg_ℤ (e i)) (Within ones_above ones_below) n (none_small ones_above ones_below) (λ i l.
      plus_small (binary_exponent (inverse n m' i)) (neg_ℤ (e i)) (inverse_exponent small r i l (p.above i l)) (neg_small (e i) (exponent_small small r i l (p.above i l))))

  a'_small : neg_part (a_of n m' f) ≤ ones_below
  a'_small = common_in (inverse n m') (λ i. neg_ℤ (f i)) (λ z. neg_part z ≤ ones_below) n (none_small 0 ones_below).1 (λ i l.
      let b = binary_exponent (inverse n m' i) in
      let q = inverse_exponent small r i l (p.above i l) in
      omega (arith, plus b (neg_ℤ (f i)), one_side (b +ℤ neg_ℤ (f i)), neg_part_neg (f i), tops i l))

  b_small : Within means_above means_below (b_of n m')
  b_small = common_in (mean_over n m') (λ i. pos 0) (Within means_above means_below) n (none_small means_above means_below) (λ i l. plus_small (binary_exponent (mean_over n m' i)) (pos 0) (mean_over_exponent small r i l (p.above i l)) (none_small 0 0))

  lower : a_of n m' f +ℤ pos k ≡ a_of n m' e
  lower = common_lower (inverse n m') e f k n r.assets (λ i l. grows small r i l (p.above i l)) (λ i l. inverse_some small r i l (p.above i l))

  ones_same : ones n m' f ≡ ones n m' e
  unfolding gathered
  ones_same =
      let A = a_of n m' e in
      let B = a_of n m' f in
      tab_ext (λ i. pow2_scaled (inverse n m' i) (neg_ℤ (f i) -ℤ B)) (λ i. pow2_scaled (inverse n m' i) (neg_ℤ (e i) -ℤ A)) n (λ i l. ap (pow2_scaled (inverse n m' i)) (same (neg_ℤ (f i) -ℤ B) (neg_ℤ (e i) -ℤ A)
      (let g = grows small r i l (p.above i l) in omega (arith, minus (neg_ℤ (f i)) B, minus (neg_ℤ (e i)) A, pos_part_neg (f i), neg_part_neg (f i), pos_part_neg (e i), neg_part_neg (e i), plus (e i) (pos k), plus B (pos k), ap pos_part g, ap neg_part g, ap pos_part lower, ap neg_part lower))))

  -- ---- the ratio
  means_small : (i : ℕ) → i < n → T (fits binary64 (nth (means n m') i)) × T (is_finite (nth (means n m') i)) × (mag (nth (means n m') i) ≤ 2 ^ suc one_bits)
  unfolding gathered pos_part neg_part
  means_small i l =
      let b = b_of n m' in
      let j = pos 0 -ℤ b in
      let z = mean_over n m' i in
      let c = b_small in
      let q = below_two mean_over_bounds.most z (mean_over_range small r i l (p.above i l)) j (omega (arith, minus (pos 0) b)) (omega (arith, minus (pos 0) b)) (λ s.
      let w = common_above (mean_over n m') (λ i. pos 0) n i l (eq_zero z (mean_over_range small r i l (p.above i l)).fit (mean_over_range small r i l (p.above i l)).finite ∙ ne_eqb (mag z) 0 (λ e. lt_irrefl 0 (subst (λ (n : ℕ). 0 < n) e s))) in
      omega (arith, plus (binary_exponent z) j, minus (pos 0) b, plus (binary_exponent z) (pos 0))) in
      rw (get_or_tab n (λ i. pow2_scaled (mean_over n m' i) (pos 0 -ℤ b)) i nan l) (scaled_fits z j, q.0, q.1)

  abbrev R : Float
  R = ratio_of n d (ones n m' e) (means n m')

  R-small : T (is_finite R) → mag R ≤ 2 ^ ratio_most
  R-small = ratio_small limit n (correlations n m') r.assets r.few p.limited p.regular (ones n m' e) (means n m') means_small

  R-fits : T (fits binary64 R)
  R-fits = div-fits binary64 (form n d (project n d (nth (ones n m' e))) (project n d (nth (means n m')))) (form n d (project n d (nth (ones n m' e))) (project n d (nth (ones n m' e))))

  -- ---- the target
  -- the ratio, scaled by 2 ^ S: the larger the first run's power, the less is left for the second's
  abbrev target_most : ℕ
  target_most = ratio_most + target_above - k

  abbrev S : ℤ
  S = b_of n m' -ℤ a_of n m' e

  S-small : Within target_above target_below S
  S-small = (omega (arith, minus (b_of n m') (a_of n m' e), one_side S, a_small, b_small), omega (arith, minus (b_of n m') (a_of n m' e), one_side S, a_small, b_small))

  S-moves : b_of n m' -ℤ a_of n m' f ≡ S +ℤ pos k
  S-moves = same (b_of n m' -ℤ a_of n m' f) (S +ℤ pos k) (omega (arith, minus (b_of n m') (a_of n m' f), minus (b_of n m') (a_of n m' e), plus S (pos k), plus (a_of n m' f) (pos k), ap pos_part lower, ap neg_part lower))

  S'-small : Within target_above target_below (S +ℤ pos k)
  unfolding neg_part
  S'-small = (omega (arith, ap pos_part S-moves, minus (b_of n m') (a_of n m' f), one_side (b_of n m' -ℤ a_of n m' f), a'_small, b_small), omega (arith, plus S (pos k), one_side (S +ℤ pos k), S-small))

  target_is : t ≡ pow2_scaled R S
  target_is = (shrinkage_is limit n m' e).1

  target'_is : t' ≡ pow2_scaled R (S +ℤ pos k)
  target'_is = (shrinkage_is limit n m' f).1 ∙ ap₂ (λ (o : List Float) (j : ℤ). pow2_scaled (ratio_of n d o (means n m')) j) ones_same S-moves

  scaled_moved : (z : Float) → R ≡ z → AtLeast mean_range (pow2_scaled R S) → AtLeast mean_range (pow2_scaled R (S +ℤ pos k)) → pow2_scaled R (S +ℤ pos k) ≡ shift (pos k) (pow2_scaled R S)
  scaled_moved nan q a b = rw (q, nan_scaled (S +ℤ pos k), nan_scaled S, shift_nan (pos k))
  scaled_moved (inf s) q a b =
      ap (λ (z : Float). pow2_scaled z (S +ℤ pos k)) q ∙ inf_scaled s (S +ℤ pos k) ∙ sym (unmoved k (inf s) (λ f. unfold is_finite in f))
      ∙ ap (shift (pos k)) (sym (ap (λ (z : Float). pow2_scaled z S) q ∙ inf_scaled s S))
  scaled_moved (fin s c w) q a b =
      let F : T (is_finite R) = subst (λ (z : Float). T (is_finite z)) (sym q) (unfold is_finite in tt) in
      rescaled R R-fits F ratio_most (R-small F) S k small (le_trans S-small.1 (lit≤ tt)) (le_trans S-small.0 (lit≤ tt)) (let c = S'-small in omega arith) a b

  pub target_fits : T (fits binary64 t)
  target_fits = rw target_is (scaled_fits R S)

  pub target_moved : AtLeast mean_range t → AtLeast mean_range t' → t' ≡ shift (pos k) t
  target_moved a b = target'_is ∙ scaled_moved R refl (subst (AtLeast mean_range) target_is a) (subst (AtLeast mean_range) target'_is b) ∙ ap (shift (pos k)) (sym target_is)

  -- a finite target's range: 0, or from 2 ^ -400, and not so large that it overflows in either run
  target_range : AtLeast mean_range t → T (is_finite t) → Bounded (sizes (one_bits - mean_range) target_most) t
  target_range a F = rw target_is (go (subst (AtLeast mean_range) target_is a) (subst (λ (z : Float). T (is_finite z)) target_is F))
    where
      go : AtLeast mean_range (pow2_scaled R S) → T (is_finite (pow2_scaled R S)) → Bounded (sizes (one_bits - mean_range) target_most) (pow2_scaled R S)
      go a F =
          let c = S-small in
          let e = scaled_once R S (le_trans c.0 (lit≤ tt)) (le_trans c.1 (lit≤ tt)) in
          let q = mul_finite R (pow2 S) (subst (λ (z : Float). T (is_finite z)) e F) in
          let w = pow2_val S (one_bits + pos_part S - neg_part S) (omega arith) in
          let most : mag (pow2_scaled R S) ≤ 2 ^ target_most = rw (e, product_is R (pow2 S) R-fits (pow2_fits S (le_trans c.0 (lit≤ tt)) (le_trans c.1 (lit≤ tt))) (subst (λ (z : Float). T (is_finite z)) e F), (val_mag (pow2 S) false (2 ^ (one_bits + pos_part S - neg_part S)) w).1)
          (near_most (mag R * 2 ^ (one_bits + pos_part S - neg_part S)) U (2 ^ target_most) U_pos (representable_pow target_most) (le_trans (mul-le-mul_right (2 ^ (one_bits + pos_part S - neg_part S)) (R-small q.0)) (pow_le_U ratio_most (one_bits + pos_part S - neg_part S) target_most (omega (arith, room))))) in
          range_size (one_bits - mean_range) (2 ^ target_most) (pow2_scaled R S) (lit≤ tt) (scaled_fits R S) F (at_least mean_range (lit≤ tt) (pow2_scaled R S) (mag_val (pow2_scaled R S) (scaled_fits R S) F) a) most
        where
          room : pos_part S + k ≤ target_above + neg_part S
          room = unfold pos_part neg_part in omega (arith, plus S (pos k), S'-small)

  -- ---- the intensity
  abbrev α : Float
  α = (bayes_stein n limit m' e).intensity

  pub intensity_same : (bayes_stein n limit m' f).intensity ≡ α
  intensity_same = (shrinkage_is limit n m' f).0 ∙ ap (λ (o : List Float). intensity_at n (weighted_distance n d m'.periods o (means n m') (b_of n m'))) ones_same ∙ sym (shrinkage_is limit n m' e).0

  intensity_range_lem : AtLeast mean_range α → (α ≡ nan) ⊎ MeanIntensity α
  intensity_range_lem a =
      let u = shrinkage_unit limit n m' e r.few (unfold moments in sign_count P) in
      unit_range mean_range (lit≤ tt) α (rw (shrinkage_is limit n m' e).0 (div-fits binary64 (count n ⊕ two) _)) a u.0 u.1

  -- ---- the means
  -- with a target that is finite, and with one that is not
  module _ (i : ℕ) (l : i < n) (a : MeanIntensity α) where
    part : Moved k (scaled_back_of left_mean_bounds) (pow2_scaled ((one ⊖ α) ⊗ nth m'.mean i) (e i)) (pow2_scaled ((one ⊖ α) ⊗ nth m'.mean i) (f i))
    part =
        let rest = moved_sub mean_intensity_bounds tt tt one_moved (still mean_intensity_bounds a) (lit≤ tt) in
        let q = (moved_mul rest (still unit_mean_bounds (μ-range small r i l)) (lit≤ tt) (lit≤ tt)).range in
        let c = exponent_small small r i l (p.above i l) in
        let j = e i in
        let z = (one ⊖ α) ⊗ nth m'.mean i in
        record {
          range = scaled_range left_mean_bounds j (exponent_above return_bounds) (exponent_below return_bounds) q c.0 c.1 (lit≤ tt) (lit≤ tt);
          copy = ap (pow2_scaled z) (grows small r i l (p.above i l)) ∙ scaled_copy j (pos k) z q.fit (fits_move left_mean_bounds.most z q j (omega arith) (omega arith))
              (fits_move left_mean_bounds.most z q (j +ℤ pos k) (unfold pos_part neg_part in omega (arith, plus j (pos k))) (unfold pos_part neg_part in omega (arith, plus j (pos k))));
        }

    mean_finite : AtLeast mean_range t → T (is_finite t) → (t' : Float) → t' ≡ shift (pos k) t → pow2_scaled ((one ⊖ α) ⊗ nth m'.mean i) (f i) ⊕ α ⊗ t' ≡ shift (pos k) (pow2_scaled ((one ⊖ α) ⊗ nth m'.mean i) (e i) ⊕ α ⊗ t)
    mean_finite b F t' e =
        let c = sizes (one_bits - mean_range) target_most in
        let d = product_of mean_intensity_bounds c in
        let w : Moved k c t t' = record { range = target_range b F; copy = e } in
        let q = rw (zero-add k) at (moved_mul (still mean_intensity_bounds a) w (lit≤ tt) (omega arith)) in
        (moved_add d (is_covered d (scaled_back_of left_mean_bounds) (lit≤ tt) (omega arith)) (is_covered d d (le_refl d.grain) (le_refl d.most)) part q (omega arith)).copy

    mean_not_finite : (T (is_finite t) → ⊥) → (t' : Float) → t' ≡ shift (pos k) t → pow2_scaled ((one ⊖ α) ⊗ nth m'.mean i) (f i) ⊕ α ⊗ t' ≡ shift (pos k) (pow2_scaled ((one ⊖ α) ⊗ nth m'.mean i) (e i) ⊕ α ⊗ t)
    mean_not_finite F t' e =
        let z = α ⊗ t in
        let G : T (is_finite z) → ⊥ = λ g. F (mul_finite α t g).1 in
        let u = pow2_scaled ((one ⊖ α) ⊗ nth m'.mean i) (exponents_of P n x i) in
        let v = pow2_scaled ((one ⊖ α) ⊗ nth m'.mean i) (exponents_of P n y i) in
        let fu = part.range.finite in
        let fv : T (is_finite v) = rw (part.copy, is_finite_shift (pos k) u) fu in
        ap (λ (s : Float). v ⊕ α ⊗ s) (e ∙ unmoved k t F) ∙ absorbs v z fv G ∙ sym (unmoved k z G) ∙ ap (shift (pos k)) (sym (absorbs u z fu G))
      where
        absorbs : (x z : Float) → T (is_finite x) → (T (is_finite z) → ⊥) → x ⊕ z ≡ z
        absorbs x nan f g = nan_add x nan (inr refl)
        absorbs nan (inf s) f g = unfold is_finite in absurd f
        absorbs (inf r) (inf s) f g = unfold is_finite in absurd f
        absorbs (fin r c w) (inf s) f g = unfold add in refl
        absorbs x (fin s c w) f g = absurd (g (unfold is_finite in tt))

  pub means_moved : AtLeast mean_range α → AtLeast mean_range t → AtLeast mean_range t' → (i : ℕ) → i < n
      → (bayes_stein n limit m' f).mean i ≡ shift (pos k) ((bayes_stein n limit m' e).mean i)
  unfolding shrunk_mean
  means_moved a b c i l =
      let μ = nth m'.mean i in
      ap (λ (z : Float). pow2_scaled ((one ⊖ z) ⊗ μ) (exponents_of P n y i) ⊕ z ⊗ t') intensity_same ∙ go (intensity_range_lem a)
    where
      decide : (b : Bool) → is_finite t ≡ b → T (is_finite t) ⊎ (T (is_finite t) → ⊥)
      decide true e = inl (rw e tt)
      decide false e = inr (λ f. subst T e f)

      go : (α ≡ nan) ⊎ MeanIntensity α → pow2_scaled ((one ⊖ α) ⊗ nth m'.mean i) (f i) ⊕ α ⊗ t' ≡ shift (pos k) (pow2_scaled ((one ⊖ α) ⊗ nth m'.mean i) (e i) ⊕ α ⊗ t)
      go (inr q) = elim (decide (is_finite t) refl) [ inl F ↦ mean_finite i l q b F t' (target_moved b c) | inr F ↦ mean_not_finite i l q F t' (target_moved b c) ]
      go (inl q) = nothing (pow2_scaled ((one ⊖ α) ⊗ nth m'.mean i) (exponents_of P n y i)) (bayes_stein n limit m' f).target ∙ sym (shift_nan (pos k)) ∙ ap (shift (pos k)) (sym (nothing (pow2_scaled ((one ⊖ α) ⊗ nth m'.mean i) (exponents_of P n x i)) (bayes_stein n limit m' e).target))
        where
          nothing : (u z : Float) → u ⊕ α ⊗ z ≡ nan
          nothing u z = ap (λ (s : Float). u ⊕ s ⊗ z) q ∙ unfold mul in nan_add u nan (inr refl)
