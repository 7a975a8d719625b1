-- Laws of the calls' opening, 1 to 6: what a call answers, by the answers that the code has of its checks. A call looks only at as much of the answer slice as its
-- answer fills, and leaves it as long as it was. Assumes nothing.
use mathlib.Core.Path.{◌≡◌, refl, sym, ap, ◌∙◌}
use mathlib.Core.List.{List, [], ◌∷◌, ◌++◌}
use Prim.Native.Nat.{ℕ, ◌≤◌}
use native.Mathlib.Omega.{arith}
use lib.ListN.{length, take, drop, take-append-drop}
use lib.Seq.{length-take-le}
use lib.Ieee.{Float}
use Rattle.leaves.specs.Loops.{tab, fill}
use Rattle.leaves.proofs.Fill.{length_fill, fill_whole}
use Rattle.matrix.specs.Matrix.{at}
use Rattle.rules.specs.Refusals.{Check, passes, refuses, first}
use Rattle.rules.specs.Order.{opening, by_shape, by_returns}
use Rattle.rules.specs.Shapes.{Shaped}
use Rattle.std.specs.Prelude.{Result, Err}
use Rattle.rules.specs.Calls.{Answered, answered, settle}
use Rattle.rules.specs.declared.Refusal.{Refusal}
use Rattle.rules.specs.declared.Answer.{Answer}
use Rattle.rules.proofs.Shapes.{opened}
use Rattle.rules.proofs.Firsts.{first_then}

-- ---- by the first check that refuses

module _ (slice : List Float) (accepted : Answered) {k : Check} where
  pub settle_refused : {c : Refusal} → refuses c ≡ k → answered (Err c) slice ≡ settle k slice accepted
  unfolding settle
  settle_refused e = ap (λ (k : Check). settle k slice accepted) e

  pub settle_accepted : passes ≡ k → accepted ≡ settle k slice accepted
  unfolding settle
  settle_accepted e = ap (λ (k : Check). settle k slice accepted) e

-- checks, and further ones where they pass, as one list
pub settle_then : (xs ys : List Check) (slice : List Float) (accepted : Answered) → settle (first xs) slice (settle (first ys) slice accepted) ≡ settle (first (xs ++ ys)) slice accepted
unfolding settle first
settle_then [] ys slice accepted = refl
settle_then (passes ∷ xs) ys slice accepted = settle_then xs ys slice accepted
settle_then (refuses c ∷ xs) ys slice accepted = refl

-- ---- the answer of m numbers

-- it leaves the slice as long as it was
pub settle_length : (k : Check) (a : Result Answer Refusal) (m : ℕ) (f : ℕ → Float) (slice : List Float) → (k ≡ passes → m ≤ length slice) → length (settle k slice (answered a (fill m f slice))).slice ≡ length slice
unfolding settle
settle_length passes a m f slice room = length_fill f m slice (room refl)
settle_length (refuses c) a m f slice room = refl

-- in a slice of just as many, and in a longer one
settle_part : (k : Check) (a b : Result Answer Refusal) (m : ℕ) (f : ℕ → Float) (slice p : List Float) → m ≤ length slice
    → answered b p ≡ settle k (take m slice) (answered a (fill m f (take m slice))) → answered b (p ++ drop m slice) ≡ settle k slice (answered a (fill m f slice))
unfolding settle fill
settle_part passes a b m f slice p fits e =
    let long = length-take-le m slice fits in
    ap (λ (x : Answered). answered x.answer (x.slice ++ drop m slice)) e
    ∙ ap (λ (l : List Float). answered a (l ++ drop m slice)) (fill_whole f m (take m slice) (omega arith))
settle_part (refuses c) a b m f slice p fits e =
    ap (λ (x : Answered). answered x.answer (x.slice ++ drop m slice)) e ∙ ap (answered (Err c)) (take-append-drop m slice)

-- what a call answers whose further checks are `rest`, and whose answer is `a` with the numbers f
abbrev pub answer_of : List Float → ℕ → ℕ → ℕ → List Check → Result Answer Refusal → (ℕ → Float) → List Float → Answered
answer_of r n T m rest a f slice = settle (first (opening r n T m slice ++ rest)) slice (answered a (fill m f slice))

module _ (r : List Float) (n T m : ℕ) (slice : List Float) (rest : List Check) (a : Result Answer Refusal) (f : ℕ → Float) where
  pub shape_refuses : {c : Refusal} → refuses c ≡ first (by_shape (length r) n T m (length slice)) → answered (Err c) slice ≡ answer_of r n T m rest a f slice
  unfolding first opening
  shape_refuses e = settle_refused _ _ (first_then (by_shape (length r) n T m (length slice)) (by_returns T n (at r n) ++ rest) e)

  pub shape_fits_lem : {b : Result Answer Refusal} {p : List Float} → Shaped (length r) n T → m ≤ length slice → answered b p ≡ answer_of r n T m rest a f (take m slice) → answered b (p ++ drop m slice) ≡ answer_of r n T m rest a f slice
  shape_fits_lem {b} {p} shape fits e =
      let long = length-take-le m slice fits in
      let k = first (by_returns T n (at r n) ++ rest) in
      let here = opened r n T m (take m slice) rest shape (omega arith) in
      let whole = opened r n T m slice rest shape fits in
      settle_part k a b m f slice p fits (e ∙ ap (λ (k : Check). settle k (take m slice) (answered a (fill m f (take m slice)))) here)
      ∙ ap (λ (k : Check). settle k slice (answered a (fill m f slice))) (sym whole)

  pub shaped : {k : Check} → Shaped (length r) n T → length slice ≡ m → k ≡ first (by_returns T n (at r n) ++ rest) → settle k slice (answered a (tab m f)) ≡ answer_of r n T m rest a f slice
  shaped {k} shape long e =
      ap (λ (k : Check). settle k slice (answered a (tab m f))) (e ∙ sym (opened r n T m slice rest shape (omega arith)))
      ∙ ap (λ (l : List Float). settle (first (opening r n T m slice ++ rest)) slice (answered a l)) (sym (fill_whole f m slice (omega arith)))
