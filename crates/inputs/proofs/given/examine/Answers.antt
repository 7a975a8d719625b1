-- `inputs::given::examine` meets its contract: the average, and the first check that `check_entries` and `check_values` leave.
use Rattle.std.proofs.Common.{◌≡◌, ℕ, not, List, [], ◌∷◌, ap, ◌∙◌}
use Rattle.std.specs.Prelude.{Result}
use lib.Ieee.{Float}
use Rattle.leaves.specs.Numbers.{◌⊗◌}
use Rattle.matrix.specs.Matrix.{Matrix, at, rows, averaged}
use Rattle.matrix.specs.Jacobi.{Decomposition, smallest_value}
use Rattle.matrix.proofs.OfStored.{amax_stored}
use Rattle.rules.specs.Refusals as Refusals
use Rattle.rules.specs.Refusals.{passes, when, first}
use Rattle.rules.specs.Given.{indefinite, decompose_given}
use Rattle.rules.specs.Order.{by_entries, by_values, by_numbers}
use Rattle.rules.specs.declared.Refusal.{Refusal}
use Rattle.rules.specs.declared.Refusal.TheVariants.{Indefinite, NotDecomposed}
use Rattle.rules.proofs.Firsts.{front_refuses, front_passes}
use Rattle.inputs.specs.Checks.{examined, judged}
use Rattle.inputs.proofs.Refused.{refusal}
use Rattle.inputs.proofs.given.examine.Goals as goal

-- the decomposition of the average
abbrev of : ℕ → ℕ → List Float → Decomposition
of limit n out = decompose_given limit n (at out n)

accepted : (limit n : ℕ) (g : Matrix) {out : List Float} {r : Result (ℕ × ℕ) Refusal} → out ≡ rows n n (averaged g) → passes ≡ first (by_entries n g)
    → r ≡ judged n (at out n) (of limit n out) → r ≡ examined (first (by_numbers n g (of limit n out))) (of limit n out)
accepted limit n g {out = out} eo h e =
    let d = of limit n out in
    e ∙ ap (λ (m : Float). examined (first (when (not d.found) NotDecomposed ∷ when (indefinite n d) (Indefinite (smallest_value n d ⊗ m)) ∷ [])) d) (amax_stored n (averaged g) eo)
    ∙ ap (λ (k : Refusals.Check). examined k d) (front_passes (by_entries n g) (by_values n (averaged g) d) h)

pub returns-in_err-check_entries : goal.returns-in_err-check_entries
returns-in_err-check_entries c =
    let a = c.args in (
      c.average.ensures,
      refusal _ c.from_residual.ensures.1
          ∙ ap (λ (k : Refusals.Check). examined k (of a.limit a.n c.average.new.out))
          (front_refuses (by_entries a.n (at a.g.now a.n)) (by_values a.n (averaged (at a.g.now a.n)) (of a.limit a.n c.average.new.out)) c.in_err-check_entries.ensures),
    )

pub returns : goal.returns
returns c =
    let a = c.args in
    (c.average.ensures, accepted a.limit a.n (at a.g.now a.n) c.average.ensures c.in_ok-check_entries.ensures c.check_values.ensures)
