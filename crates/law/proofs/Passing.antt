-- What is known where checks pass one after the other, where the opening checks do, of a call that accepts, and of every answer: document 01, "Causes". Assumes nothing.
use mathlib.Core.Path.{◌≡◌, refl, ◌∙◌}
use Prim.Native.Nat.{ℕ, ◌≤◌}
use mathlib.Core.List.{List, ◌++◌}
use lib.ListN.{length}
use lib.Ieee.{Float}
use Rattle.matrix.specs.Limits.{max_side}
use Rattle.matrix.specs.Matrix.{at}
use Rattle.rules.specs.Refusals.{Check, passes, refuses, first}
use Rattle.rules.specs.Order.{opening, by_shape, by_returns}
use Rattle.rules.specs.Calls.{Answered, settle}
use Rattle.rules.specs.declared.Refusal.{Refusal}
use Rattle.rules.specs.declared.Answer.{Answer}
use Rattle.std.specs.Prelude.{Result, Err}
use Rattle.rules.proofs.Firsts.{first_then}
use Rattle.rules.proofs.Passed.{pass_cons}
use Rattle.rules.proofs.Shapes.{shape_passes}

-- earlier and later checks that all pass
pub pass_append : (xs ys : List Check) → first (xs ++ ys) ≡ passes → (first xs ≡ passes) × (first ys ≡ passes)
pass_append xs ys e = pass_cons (first xs) ys (first_then xs ys refl ∙ e)

-- no more than max_side assets, and the answer slice is long enough
pub pass_opening : (r : List Float) (n P needed : ℕ) (slice : List Float) → first (opening r n P needed slice) ≡ passes → (n ≤ max_side) × (needed ≤ length slice)
unfolding opening
pass_opening r n P needed slice h =
    let shapes = by_shape (length r) n P needed (length slice) in
    let s = shape_passes (length r) n P needed (length slice) (pass_append shapes (by_returns P n (at r n)) h).0 refl in
    (s.0.1, s.1)

-- ---- a call
abbrev pub Accepted : Answered → Type 0
Accepted w = (c : Refusal) → w.answer ≡ Err c → ⊥

pub all_pass : (c : Check) (slice : List Float) (w : Answered) → Accepted (settle c slice w) → c ≡ passes
unfolding settle
all_pass passes slice w h = refl
all_pass (refuses c) slice w h = absurd (h c refl)

-- what every refusal has, and the answer where all checks pass, the call's answer has
pub settle_cases : (P : Result Answer Refusal → Type 0) → ((c : Refusal) → P (Err c)) → (c : Check) (slice : List Float) (w : Answered) → (c ≡ passes → P w.answer) → P (settle c slice w).answer
unfolding settle
settle_cases P refused passes slice w h = h refl
settle_cases P refused (refuses c) slice w h = refused c
