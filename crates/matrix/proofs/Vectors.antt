-- Every entry of a decomposition's vectors is NaN or at most 2 ^ 300 in size, whatever the matrix, within the limits: each rotation turns two numbers of every
-- row of V, which began as a row of the identity. Assumes nothing.
use mathlib.Core.Path.{◌≡◌, refl, sym, ◌∙◌}
use mathlib.Core.Logic.{◌⊎◌, inl, inr, ◌≢◌}
use mathlib.Core.Bool.{Bool, true, false, cond}
use mathlib.Core.List.{List}
use Prim.Native.Nat.{ℕ, suc, ◌+◌, ◌*◌, ◌^◌, ◌≤◌, ◌<◌}
use native.Mathlib.Nat.{le_trans, le-suc, mul-le-mul, zero-add}
use native.Mathlib.Omega.{arith}
use lib.Dec.{T, eqb}
use lib.ListN.{length}
use borrow.Author.Tests.{eq-eqb, ne_eqb}
use lib.IntN.{pos}
use lib.Ieee.{Float, nan, lt, binary64, fits}
use lib.Ieee.Fits.{cond-fits, div-fits}
use Rattle.leaves.specs.Numbers.{◌⊕◌, ◌⊗◌, ◌⊘◌, zero⁺, half, one, 1e150, abs, signum, is_finite}
use Rattle.leaves.specs.Root.{sqrt}
use Rattle.leaves.proofs.Units.{U, mag, val_mag, one_val, zero_mag}
use Rattle.leaves.proofs.Range.{Range, range_most}
use Rattle.matrix.specs.Limits.{max_side, max_sweeps}
use Rattle.matrix.specs.Matrix.{Matrix, at, rows, identity}
use Rattle.matrix.specs.Rotation.{State, tangent, cosine, turn_columns, rotated, rotate_by, rotate}
use Rattle.matrix.specs.Jacobi.{after_sweeps, decompose}
use Rattle.matrix.proofs.Stored.{rows_at, length_rows}
use Rattle.matrix.proofs.Rotated.{rotate_cases}
use Rattle.matrix.proofs.Counts.{pairs, pairs_most, sweeps_keep}
use Rattle.matrix.proofs.Sweeps.{begun, decompose_reached, sweeps_bound}
use Rattle.matrix.proofs.Squares.{slack}
use Rattle.matrix.proofs.Angle.{U-big, Angle, angle}
use Rattle.matrix.proofs.Turn.{TurnMost, Tame}
use Rattle.matrix.proofs.Lines.{turned_row, length_columns, columns_at}
use Rattle.matrix.proofs.Rows.{sum, sum_alone, Good, most_turns, good_same, good_small, good_still, good_turned}

-- ---- V after r rotations
unfoldable Sound : ℕ → ℕ → List Float → Type 0
Sound n r v = (length v ≡ n * n) × ((k : ℕ) → k < n → Good n (at v n k) r)

columns_sound : (c s : Float) (n p q r : ℕ) (v : List Float) → p < q → q < n → Angle c s → r ≤ most_turns → Sound n r v → Sound n (suc r) (turn_columns n p q c s v)
unfolding Sound
columns_sound c s n p q r v pq qn a h g = (
  length_columns c s n p q pq qn v g.0,
  λ k hk. good_same n (suc r) (turned_row c s p q (at v n k)) (at (turn_columns n p q c s v) n k) (λ j hj. sym (columns_at c s n p q pq qn v g.0 k j hk hj)) (good_turned n r p q c s (at v n k) pq qn a h (g.1 k hk)),
)

tangent_fits : (τ : Float) → T (fits binary64 (tangent τ))
unfolding tangent
tangent_fits τ = cond-fits binary64 (lt 1e150 (abs τ)) (half ⊘ τ) (signum τ ⊘ (abs τ ⊕ sqrt (τ ⊗ τ ⊕ one))) (div-fits binary64 half τ) (div-fits binary64 (signum τ) (abs τ ⊕ sqrt (τ ⊗ τ ⊕ one)))

abbrev KeepsSound : ℕ → ℕ → State → Type 0
KeepsSound n r st = r ≤ most_turns → Sound n r st.vectors

rotate_sound : (n r p q : ℕ) (st : State) → p < q → q < n → KeepsSound n r st → KeepsSound n (suc r) (rotate n p q st)
unfolding rotate_by rotated Sound
rotate_sound n r p q st pq qn g h =
    let fewer = le_trans (le-suc r) h in
    let before = g fewer in
    rotate_cases (λ st. Sound n (suc r) st.vectors) n p q st (before.0, λ k hk. good_still n r (at st.vectors n k) (before.1 k hk))
    (λ τ. let t = tangent τ in columns_sound (cosine t) (t ⊗ cosine t) n p q r st.vectors pq qn (angle t (tangent_fits τ)) fewer before)

-- ---- the identity
identity_good : (n k : ℕ) → k < n → Good n (identity k) 0
identity_good n k h = record { tame = λ j l. tame_at (eqb k j); most = let e = sum_alone (λ j. mag (identity k j) * mag (identity k j)) n k h elsewhere in first (sum (λ j. mag (identity k j) * mag (identity k j)) n) (e ∙ here) }
  where
    tame_at : (b : Bool) → Tame (cond b one zero⁺)
    tame_at true = unfold fits is_finite in (tt, inr tt)
    tame_at false = unfold fits is_finite in (tt, inr tt)

    here : mag (identity k k) * mag (identity k k) ≡ U * U
    here = rw (eq-eqb k k refl, (val_mag one false U one_val).1)

    elsewhere : (j : ℕ) → j ≢ k → mag (identity k j) * mag (identity k j) ≡ 0
    elsewhere j d = rw (ne_eqb k j (λ e. d (sym e)), zero_mag false (pos 0))

    first : (t : ℕ) → t ≡ U * U → (t + slack) * 256 ^ 0 ≤ U * U * 2 * 257 ^ 0
    first t e = let a = mul-le-mul U-big U-big in omega arith

identity_sound : (n : ℕ) → Sound n 0 (rows n n identity)
unfolding Sound
identity_sound n = (length_rows identity n n, λ k h. good_same n 0 (identity k) (at (rows n n identity) n k) (λ j l. sym (rows_at identity n n k j h l)) (identity_good n k h))

-- ---- the theorem
-- NaN, or at most 2 ^ 300 in size
abbrev pub NanOrBounded : Float → Type 0
NanOrBounded x = (x ≡ nan) ⊎ Range 0 1 TurnMost x

small : (x : Float) → Tame x → mag x ≤ TurnMost → NanOrBounded x
small x t h = elim t.1 [ inl e ↦ inl e | inr f ↦ inr (range_most x t.0 f h) ]

pub vectors_small : (limit n : ℕ) (a : Matrix) → n ≤ max_side → limit ≤ max_sweeps → (i j : ℕ) → i < n → j < n → NanOrBounded (at (decompose limit n a).vectors n i j)
unfolding Sound begun
vectors_small limit n a hn hl i j hi hj =
    let k = (decompose limit n a).sweeps in
    let turns : 0 + k * pairs n ≤ most_turns = rw zero-add (mul-le-mul (le_trans (sweeps_bound n a limit) hl) (pairs_most n hn)) in
    let g = (sweeps_keep n (KeepsSound n) (rotate_sound n) k 0 (begun n a) (λ h. identity_sound n) turns).1 i hi in
    rw (decompose_reached n a limit).0 (small (at (after_sweeps k n (begun n a)).vectors n i j) (g.tame j hj) (good_small n (0 + k * pairs n) (at (after_sweeps k n (begun n a)).vectors n i) turns g j hj))
