-- `inputs::given::not_semidefinite` meets its contract: each return is the check that the test leaves.
use Rattle.std.proofs.Common.{◌≡◌, ℕ, Bool, List, length, sym, ◌∙◌}
use lib.Ieee.{Float, neg, lt, of_bits, of_int}
use Rattle.leaves.specs.Numbers.{◌⊗◌, count, ε}
use Rattle.leaves.specs.Loops.{amax_to, min_to, nth}
use Rattle.matrix.specs.Jacobi.{Decomposition, smallest_value}
use Rattle.rules.specs.Refusals.{refuses}
use Rattle.rules.specs.Given.{indefinite}
use Rattle.rules.specs.declared.Refusal.TheVariants.{Indefinite}
use Rattle.inputs.proofs.given.not_semidefinite.Goals as goal

module _ (n : ℕ) (d : Decomposition) {v : List Float} (ev : d.values ≡ v) {lowest size largest : Float} (el : lowest ≡ min_to (length v) (nth v)) (es : size ≡ count n)
    (em : largest ≡ amax_to (length v) (nth v)) (l : length v ≡ n) where
  low : lowest ≡ smallest_value n d
  low = el ∙ (λ t. min_to (l t) (nth (sym ev t)))

  -- the test, by what the calls ensure
  bounded : {b : Bool} → lt lowest (neg (count 10) ⊗ size ⊗ ε ⊗ largest) ≡ b → indefinite n d ≡ b
  unfolding indefinite
  bounded h = sym (λ t. lt (low t) (neg (count 10) ⊗ es t ⊗ ε ⊗ (em ∙ (λ t. amax_to (l t) (nth (sym ev t)))) t)) ∙ h

pub returns-then-lowest-size : goal.returns-then-lowest-size
unfolding of_bits of_int neg
returns-then-lowest-size c = λ d e.
    let l = c in
    let s = l in
    let size = c.nearest_u64_to_f64-size.ensures in
    let largest = c.amax.ensures in
    rw (bounded s.args.n d e l.smallest-lowest.ensures size largest s.requires.1 c.if-lowest-size.true)
    (λ t. refuses (Indefinite (low s.args.n d e l.smallest-lowest.ensures size largest s.requires.1 t ⊗ c.amax-then-lowest-size.ensures t)))

pub returns : goal.returns
unfolding of_bits of_int neg
returns c = λ d e.
    let l = c in
    let s = l in
    rw (bounded s.args.n d e l.smallest-lowest.ensures c.nearest_u64_to_f64-size.ensures c.amax.ensures s.requires.1 c.if-lowest-size.false)
