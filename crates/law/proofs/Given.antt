-- A given covariance and its copy, each entry 2 ^ k times as large. The tests of its entries see no shift. Over its largest entry it is the same matrix in both runs, bit for bit, since a
-- quotient of numbers shifted alike is the same: so both runs decompose the same matrix, with the same sweeps, rotations and refusals. Assumes nothing.
use mathlib.Core.Path.{◌≡◌, refl, sym, ap, ap₂, ◌∙◌}
use Prim.Native.Nat.{ℕ, ◌+◌, ◌*◌, ◌≤◌, ◌<◌}
use native.Mathlib.Nat.{le_of_eq, lt_of_lt_of_le, zero-add}
use native.Mathlib.Omega.{arith}
use mathlib.Core.Bool.{Bool, true, false}
use mathlib.Core.List.{List, map}
use lib.Arith.{digits_lt}
use lib.Dec.{eqb, ltb, lit≤}
use lib.IntN.{pos}
use lib.ListN.{length, length-map}
use lib.Ieee.{Float, fits, lt, of_bits}
use borrow.Author.Tests.{eqb-true}
use Rattle.leaves.specs.Numbers.{◌⊖◌, ◌⊗◌, ◌⊘◌, zero⁺, 1e-12, is_finite, abs}
use Rattle.leaves.specs.Shift.{shift}
use Rattle.leaves.proofs.Shift.{lt_shift, shift_zero⁺}
use Rattle.leaves.proofs.Units.{U, mag}
use Rattle.leaves.proofs.Arithmetic.{div_alike}
use Rattle.leaves.proofs.Range.{sized, range_sized, count_pos, two_is}
use Rattle.leaves.proofs.Operations.{Moved, still, moved_abs, moved_add, moved_sub, moved_mul, moved_over}
use Rattle.matrix.specs.Limits.{max_side}
use Rattle.matrix.specs.Matrix.{at, amax, averaged, divided}
use Rattle.matrix.specs.Jacobi.{Decomposition, smallest_value, unturned}
use Rattle.matrix.proofs.Alike.{first_entry_alike, decompose_alike}
use Rattle.rules.specs.Given.{asymmetry, indefinite, average, decompose_given}
use Rattle.rules.specs.Adjusted.{decomposition_of}
use Rattle.rules.specs.Order.{not_finite, bad_sweep_limit, of_given}
use Rattle.rules.specs.Settings.{settings}
use Rattle.rules.specs.declared.Estimate.TheVariants.{Given}
use Rattle.rules.specs.declared.Shrinkage.{Shrinkage}
use Rattle.rules.specs.declared.Regularization.{Regularization}
use Rattle.rules.specs.declared.Refusal.TheVariants.{NoAssets, TooLarge, WrongSide, Asymmetric, Indefinite, NotDecomposed}
use Rattle.law.specs.Law.{All, Sized, max_power, covariance_range}
use Rattle.law.proofs.Ranges.{covariance_bounds, trillionth_bounds, averaged_bounds}
use Rattle.law.proofs.Chain.{Chain, ends, chain_same, chain_when, chain_test, chain_must, chain_some}
use Rattle.law.proofs.Sizes.{all_at}
use Rattle.law.proofs.Sample.{count_moved}
use Rattle.law.proofs.Matrices.{amax_moved, rows_moved}
use Rattle.law.proofs.Opening.{at_copy, sized_moved, entries_same}

trillionth_moved : Moved 0 trillionth_bounds 1e-12 1e-12
unfolding of_bits sized fits is_finite mag U
trillionth_moved = still trillionth_bounds (range_sized trillionth_bounds.least trillionth_bounds.most 1e-12 (lit≤ tt) tt)

module _ (k : ℕ) (small : k ≤ max_power + max_power) (side : ℕ) (g : List Float) (sizes : All (Sized covariance_range) g) where
  abbrev g' : List Float
  g' = map (shift (pos k)) g

  module _ (full : length g ≡ side * side) where
    given_moved : (i j : ℕ) → i < side → j < side → Moved k covariance_bounds (at g side i j) (at g' side i j)
    given_moved i j a b =
        let in_g : i * side + j < length g = lt_of_lt_of_le (digits_lt a b) (le_of_eq (sym full)) in
        sized_moved k covariance_range (lit≤ tt) (at g side i j) (at g' side i j) (all_at (Sized covariance_range) g (i * side + j) sizes in_g) (at_copy (pos k) g side i j)

    pub average_moved : (i j : ℕ) → i < side → j < side → Moved k averaged_bounds (average g side i j) (average g' side i j)
    average_moved = rows_moved side side (averaged (at g side)) (averaged (at g' side)) (λ i j a b. rw (← two_is)
        (moved_over (moved_add covariance_bounds tt tt (given_moved i j a b) (given_moved j i b a) (omega arith)) (count_moved 1 2 (lit≤ tt) (lit≤ tt)) (count_pos 2 (lit≤ tt) (lit≤ tt)) (lit≤ tt) (omega arith)))

    -- 11
    asymmetry_same : asymmetry side (at g' side) ≡ asymmetry side (at g side)
    unfolding asymmetry
    asymmetry_same =
        let x = at g side in
        let y = at g' side in
        let tolerance = rw (zero-add k) at (moved_mul trillionth_moved (amax_moved side side x y given_moved) (lit≤ tt) (omega arith)) in
        first_entry_alike side side (λ i j. lt (1e-12 ⊗ amax side side y) (abs (y i j ⊖ y j i))) (λ i j. lt (1e-12 ⊗ amax side side x) (abs (x i j ⊖ x j i)))
        (λ i j a b. ap₂ lt tolerance.copy (moved_abs (moved_sub covariance_bounds tt tt (given_moved i j a b) (given_moved j i b a) (omega arith))).copy ∙ lt_shift (pos k) (1e-12 ⊗ amax side side x) (abs (x i j ⊖ x j i)))

    -- 13, 12 and the counts
    pub decomposition_same : (limit : ℕ) → decompose_given limit side (average g' side) ≡ decompose_given limit side (average g side)
    unfolding decompose_given
    decomposition_same limit =
        let x = average g side in
        let y = average g' side in
        let scale = (amax_moved side side x y average_moved).copy in
        ap₂ (λ (b : Bool) (d : Decomposition). elim b [ true ↦ d | false ↦ unturned side true ])
        (ap₂ lt (sym (shift_zero⁺ (pos k))) scale ∙ lt_shift (pos k) zero⁺ (amax side side x))
        (decompose_alike limit side (divided y (amax side side y)) (divided x (amax side side x)) (λ i j a b. ap₂ ◌⊘◌ (average_moved i j a b).copy scale ∙ div_alike (pos k) (x i j) (amax side side x)))

  pub given_chain : {P : Type 0} (limit : ℕ) (S : Shrinkage Float) (H H' : Regularization Float) → (length g ≡ side * side → P)
      → Chain P (of_given (settings Given S H limit) g side) (of_given (settings Given S H' limit) g' side)
  unfolding of_given decomposition_of
  given_chain limit S H H' then =
      let d = decompose_given limit side (average g side) in
      let d' = decompose_given limit side (average g' side) in
      chain_same (bad_sweep_limit limit) refl (λ e₁.
      chain_test (eqb side 0) NoAssets refl (λ e₂.
      chain_test (ltb max_side side) TooLarge refl (λ e₃.
      chain_must (eqb (length g) (side * side)) (WrongSide side) (ap (λ (n : ℕ). eqb n (side * side)) (length-map g (shift (pos k)))) (λ e₄.
      let full : length g ≡ side * side = eqb-true (length g) (side * side) e₄ in
      chain_same (not_finite side side (at g side)) (entries_same k g side side) (λ e₅.
      chain_some (asymmetry side (at g side)) (λ p. Asymmetric p.0 p.1) (asymmetry_same full) (λ e₆.
      chain_must d.found NotDecomposed (ap (λ (z : Decomposition). z.found) (decomposition_same full limit)) (λ e₇.
      chain_when (indefinite side d) (Indefinite (smallest_value side d ⊗ amax side side (averaged (at g side)))) (Indefinite (smallest_value side d' ⊗ amax side side (averaged (at g' side))))
      (ap (indefinite side) (decomposition_same full limit)) refl refl (λ e₈. ends (then full)))))))))
