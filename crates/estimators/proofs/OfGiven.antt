-- Laws of a given matrix's checks: their two parts, what holds where those of the sizes pass, and what they answer by the parts that the code has.
-- Assumes nothing.
use mathlib.Core.Path.{◌≡◌, sym, ap, ◌∙◌}
use mathlib.Core.Bool.{true, false, not}
use mathlib.Core.List.{List, ◌∷◌, ◌++◌}
use Prim.Native.Nat.{ℕ, ◌*◌, ◌<◌, ◌≤◌}
use native.Mathlib.Omega.{arith}
use borrow.Author.Tests.{eqb-true, eqb-false, ltb-false, not-false}
use lib.Dec.{eqb, ltb}
use lib.ListN.{length, take}
use lib.Ieee.{Float}
use Rattle.std.specs.Prelude.{Result, Ok, Err}
use Rattle.std.specs.Result.{IsErrAnd}
use Rattle.matrix.specs.Limits.{max_side, max_sweeps}
use Rattle.matrix.specs.Matrix.{at}
use Rattle.matrix.specs.Jacobi.{Decomposition, unturned}
use Rattle.rules.specs.Refusals.{Check, passes, refuses, first}
use Rattle.rules.specs.Given.{averaged_of, average, decompose_given}
use Rattle.rules.specs.Adjusted.{is_given, decomposition_of}
use Rattle.rules.specs.Order.{bad_sweep_limit, of_given, by_sizes, by_numbers}
use Rattle.rules.specs.declared.Settings.{Settings}
use Rattle.rules.specs.declared.Refusal.{Refusal}
use Rattle.rules.proofs.Firsts.{head_refuses, head_passes, front_refuses, front_passes}
use Rattle.rules.proofs.Passed.{pass_test, first_passes}
use Rattle.inputs.specs.Checks.{examined}
use Rattle.inputs.proofs.Refused.{refusal}

pub sizes_pass : (limit size n : ℕ) → passes ≡ bad_sweep_limit limit → passes ≡ first (by_sizes size n) → (limit ≤ max_sweeps) × (0 < n) × (n ≤ max_side) × (size ≡ n * n)
unfolding bad_sweep_limit
sizes_pass limit size n pass e =
    let b = first_passes (eqb n 0) _ _ (sym e) in
    let c = first_passes (ltb max_side n) _ _ b.1 in
    let d = first_passes (not (eqb size (n * n))) _ _ c.1 in
    let some = eqb-false n 0 b.0 in
    (ltb-false _ _ (pass_test (ltb max_sweeps limit) _ (sym pass)), omega arith, ltb-false _ _ c.0, eqb-true _ _ (not-false _ d.0))

-- ---- what the code found

pub examined_refused : (k : Check) (d : Decomposition) {c : Refusal} → Err c ≡ examined k d → refuses c ≡ k
examined_refused passes d e = cc
examined_refused (refuses c) d e = cc

pub examined_accepted : (k : Check) (d : Decomposition) {made : ℕ × ℕ} → Ok made ≡ examined k d → (passes ≡ k) × (made ≡ (d.sweeps, d.rotations))
examined_accepted passes d e = (cc, cc)
examined_accepted (refuses c) d e = (cc, cc)

-- a given matrix of the returns' side, read from the table
pub same_side : (side n : ℕ) (l g : List Float) → take (side * side) l ≡ g → side ≡ n → at (take (n * n) l) n ≡ at g side
same_side side n l g h e = ap (λ (m : ℕ). at (take (m * m) l) m) (sym e) ∙ ap (λ (t : List Float). at t side) h

-- ---- the checks of the sizes, then those of the numbers

module _ (s : Settings) (given : List Float) (side : ℕ) where
  -- nothing is looked at for the other estimates
  pub none_given : is_given s.estimate ≡ false → Ok (0, 0) ≡ examined (first (of_given s given side)) (decomposition_of s given side)
  unfolding first of_given decomposition_of unturned
  none_given e = rw (of_given, decomposition_of, e)

  abbrev limit : ℕ
  limit = s.limit

  -- the sweep limit, and the sizes
  abbrev sizes : List Check
  sizes = bad_sweep_limit limit ∷ by_sizes (length given) side

  abbrev parts : Decomposition
  parts = decompose_given limit side (average given side)

  -- the decomposition of a given matrix is its own
  by_given : is_given s.estimate ≡ true → decomposition_of s given side ≡ parts
  unfolding decomposition_of
  by_given e = rw (decomposition_of, e)

  checks_given : is_given s.estimate ≡ true → first (of_given s given side) ≡ first (sizes ++ by_numbers side (at given side) parts)
  unfolding of_given
  checks_given e = rw (of_given, e, by_given e)

  module _ (e : is_given s.estimate ≡ true) where
    pub sizes_refuse : (r : Result (ℕ × ℕ) Refusal) {c : Refusal} → IsErrAnd r (λ f. f ≡ c) → refuses c ≡ first sizes
        → (r ≡ examined (first (of_given s given side)) (decomposition_of s given side)) × (first (of_given s given side) ≡ refuses c)
    sizes_refuse r {c} f h =
        let refused : first (of_given s given side) ≡ refuses c = checks_given e ∙ sym (front_refuses sizes (by_numbers side (at given side) parts) h) in
        (refusal r f ∙ ap (λ (k : Check). examined k (decomposition_of s given side)) (sym refused), refused)

    pub limit_refuses : (r : Result (ℕ × ℕ) Refusal) {c : Refusal} → IsErrAnd r (λ f. f ≡ c) → refuses c ≡ bad_sweep_limit limit
        → (r ≡ examined (first (of_given s given side)) (decomposition_of s given side)) × (first (of_given s given side) ≡ refuses c)
    limit_refuses r f h = sizes_refuse r f (head_refuses (by_sizes (length given) side) h)

    module _ (pass : passes ≡ bad_sweep_limit limit) where
      pub side_refuses : (r : Result (ℕ × ℕ) Refusal) {c : Refusal} → IsErrAnd r (λ f. f ≡ c) → refuses c ≡ first (by_sizes (length given) side)
          → (r ≡ examined (first (of_given s given side)) (decomposition_of s given side)) × (first (of_given s given side) ≡ refuses c)
      side_refuses r f h = sizes_refuse r f (h ∙ head_passes (by_sizes (length given) side) pass)

      pub sizes_fit : {k : Result (ℕ × ℕ) Refusal} {table : List Float} → passes ≡ first (by_sizes (length given) side) → table ≡ averaged_of given side
          → k ≡ examined (first (by_numbers side (at given side) (decompose_given limit side (at table side)))) (decompose_given limit side (at table side))
          → k ≡ examined (first (of_given s given side)) (decomposition_of s given side)
      sizes_fit h et ek =
          let rest = by_numbers side (at given side) parts in
          let last : first (of_given s given side) ≡ first rest = checks_given e ∙ sym (front_passes sizes rest (h ∙ head_passes (by_sizes (length given) side) pass)) in
          ek ∙ ap (λ (l : List Float). examined (first (by_numbers side (at given side) (decompose_given limit side (at l side)))) (decompose_given limit side (at l side))) et
          ∙ ap (λ (k : Check). examined k parts) (sym last) ∙ ap (λ (d : Decomposition). examined (first (of_given s given side)) d) (sym (by_given e))
